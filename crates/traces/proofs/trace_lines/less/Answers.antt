-- Both heights are below 2^32, so their difference is below 2^63.
use Prim.Native.Nat.{ℕ, zero, suc, ◌-◌, ◌<◌}
use mathlib.Core.Bool.{Bool, true, false, cond}
use native.Mathlib.Omega.{arith}
use lib.IntN.{pos, negsuc, ◌-ℤ◌}
use lib.Dec.{ltb}
use lib.Signed.{mag}
use mir.Val.{SFits}
use mir.Facts.{to_z-of_z, to_z_pos}
use mir.Syntax.{w64}
use Rattle.traces.proofs.trace_lines.less.Goals as goal

small : (h k : ℕ) → h < 0x1_0000_0000 → k < 0x1_0000_0000 → mag (pos h -ℤ pos k) < 0x8000_0000_0000_0000
small h zero p q = omega arith
small h (suc k) p q = by (ltb h (suc k))
  where
    by : (t : Bool) → mag (cond t (negsuc (suc k - suc h)) (pos (h - suc k))) < 0x8000_0000_0000_0000
    by true = omega arith
    by false = omega arith

fits : (h k : ℕ) → h < 0x1_0000_0000 → k < 0x1_0000_0000 → SFits w64 (pos h -ℤ pos k)
fits h k p q = record { sfits = small h k p q }

pub overflow_sub-result : goal.overflow_sub-result
overflow_sub-result c =
    rw (c.from.ensures, c.from-2.ensures, to_z_pos w64 {n = c.args.h} (omega arith), to_z_pos w64 {n = c.args.k} (omega arith))
    (fits c.args.h c.args.k (omega arith) (omega arith))

pub returns : goal.returns
returns c =
    rw (c.from.ensures, c.from-2.ensures, to_z_pos w64 {n = c.args.h} (omega arith), to_z_pos w64 {n = c.args.k} (omega arith))
    (to_z-of_z (fits c.args.h c.args.k (omega arith) (omega arith)))
