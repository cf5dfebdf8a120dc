-- Each path is the clause that its tests choose; each call is what its contract says.
use Rattle.layer_mufs.specs.LayerLine.{e_heights_with}
use Rattle.layer_mufs.proofs.e_lines.e_heights.Goals as goal

pub returns-then-profile_only : goal.returns-then-profile_only
unfolding e_heights_with
returns-then-profile_only c = rw (← c.profile_only.ensures, c.if-profile_only.true, c.from.ensures, ← c.gethp.ensures)

pub returns : goal.returns
unfolding e_heights_with
returns c = rw (← c.profile_only.ensures, c.if-profile_only.false)
