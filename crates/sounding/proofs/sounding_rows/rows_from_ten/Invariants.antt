-- After i turns the first i rows from row 10 on are done.
use mathlib.Core.Path.{◌≡◌}
use mathlib.Core.List.{◌++◌}
use Prim.Native.Nat.{◌≤◌, ◌-◌}
use lib.Ieee.{Float}
use lib.ListN.{replicate}
use Rattle.scalar.specs.Literals.{f0}
use Rattle.sounding.specs.Rows.{rows_of}
use Rattle.sounding.proofs.sounding_rows.rows_from_ten.Given as goal

abbrev pub invariant-loop-i : goal.invariant-loop-i
invariant-loop-i p l = (l.i ≤ 20) × ((g : Float → Float) → ((f h : Float) → goal.F-post p l.row f h → h ≡ g f) → l.rows ≡ rows_of g l.fv 10 (l.fn.start ++ replicate 20 f0) l.i)

abbrev pub decreases-loop-i : goal.decreases-loop-i
decreases-loop-i p l = 20 - l.i
