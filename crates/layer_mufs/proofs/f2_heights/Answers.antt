-- Each path is the clause that its tests choose; each call is what its contract says.
use Rattle.layer_mufs.specs.Lines.{f2_heights_with}
use Rattle.layer_mufs.proofs.f2_heights.Goals.{then-profile_only-via-then-profile_only, then-profile_only-via-else-profile_only+then-l}
use Rattle.layer_mufs.proofs.f2_heights.Goals as goal

pub returns-then-profile_only : goal.returns-then-profile_only
unfolding f2_heights_with
returns-then-profile_only c =
    elim c.then-profile_only.branch [
      | then-profile_only-via-then-profile_only w ↦ rw (← c.profile_only.ensures, w.if-profile_only.true, c.from.ensures, ← c.gethp.ensures)
      | then-profile_only-via-else-profile_only+then-l w ↦ rw (← c.profile_only.ensures, w.if-profile_only.false, w.if-l.true, c.from.ensures, ← c.gethp.ensures)
    ]

pub returns : goal.returns
unfolding f2_heights_with
returns c = rw (← c.profile_only.ensures, c.if-profile_only.false, c.if-l.false, ← c.parabolic.ensures)
