-- Each path is the clause that its tests choose; each call is what its contract says.
use Rattle.sounding.specs.Rows.{rows_with}
use Rattle.sounding.proofs.sounding_rows.rows.Goals as goal

pub returns-then-profile_only : goal.returns-then-profile_only
unfolding rows_with
returns-then-profile_only c = rw (← c.profile_only.ensures, c.if-profile_only.true) c.by_profile.ensures

pub returns : goal.returns
unfolding rows_with
returns c = rw (← c.profile_only.ensures, c.if-profile_only.false, ← c.by_table.ensures)
