-- After i turns the first i rows of both columns from row 10 on are done.
use mathlib.Core.Path.{◌≡◌}
use mathlib.Core.List.{◌++◌}
use Prim.Native.Nat.{◌≤◌, ◌-◌}
use lib.ListN.{replicate}
use Rattle.scalar.specs.Literals.{f0}
use Rattle.readings.specs.Scan.{unsearched}
use Rattle.sounding.specs.Rows.{HTE, rows_of, true_by_profile, segment_by_profile}
use Rattle.sounding.proofs.sounding_rows.true_rows.Given as goal

abbrev pub invariant-loop-i : goal.invariant-loop-i
invariant-loop-i l = (l.i ≤ 20) × (l.htrue ≡ rows_of (λ f. true_by_profile l.s f) l.fv 10 (HTE ++ replicate 20 f0) l.i) × (l.segment ≡ rows_of (λ f. segment_by_profile l.s f) l.fv 10 (replicate 30 unsearched) l.i)

abbrev pub decreases-loop-i : goal.decreases-loop-i
decreases-loop-i l = 20 - l.i
