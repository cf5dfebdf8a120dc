-- The truncated number keeps within i32, so the tests read it as it is, and between 1 and 8 it is its own size.
use native.Mathlib.Omega.{arith}
use mir.Facts.{to_z-of_z}
use borrow.Author.Rules.{sfits_of}
use Prim.Native.Nat.{ℕ, ◌<◌}
use mathlib.Core.Path.{◌≡◌, refl, sym}
use mathlib.Core.Bool.{Bool, true, false}
use lib.IntN.{ℤ, pos}
use lib.Signed.{lt_z}
use borrow.Author.Tests.{ne_eqb}
use Rattle.std.proofs.Common.{Some, ◌≢◌}
use Rattle.reflectrix.specs.Angles.{step_found, distance_step_of, distance_step_by}
use Rattle.scalar.proofs.Casts.{between}
use Rattle.reflectrix.proofs.scan_angles.Counts.{cut-step, cut-castable}
use Rattle.reflectrix.proofs.scan_angles.step.Goals as goal

pub returns-then-id-lt1 : goal.returns-then-id-lt1
unfolding distance_step_of
returns-then-id-lt1 c = rw (← c.trunc-id.ensures, rw (to_z-of_z (sfits_of c.trunc-id.type_inv)) at c.if-id-lt1.true)

pub overflow_cast-result : goal.overflow_cast-result
overflow_cast-result c =
    rw (to_z-of_z (sfits_of c.min.type_inv), c.min.ensures.value, to_z-of_z (sfits_of c.trunc-id.type_inv))
    (cut-castable c.trunc-id.result (rw (to_z-of_z (sfits_of c.trunc-id.type_inv)) at c.if-id-lt1.false))

above_by : (c : Bool) (z : ℤ) → lt_z z (pos 1) ≡ false → lt_z (pos 8) z ≡ c → 0 < distance_step_by false c z
above_by true z p q = omega arith
above_by false z p q = (between z 8 p q).0

above-zero : (z : ℤ) → lt_z z (pos 1) ≡ false → 0 < distance_step_by false (lt_z (pos 8) z) z
above-zero z p = above_by (lt_z (pos 8) z) z p refl

-- a step of 1 or more is one
found : (n : ℕ) → 0 < n → step_found n ≡ Some n
found n h = let m : n ≢ 0 = omega arith in rw (ne_eqb _ _ m)

pub returns : goal.returns
unfolding distance_step_of
returns c =
    let t = c.trunc-id in
    let low = rw (to_z-of_z (sfits_of t.type_inv)) at c.if-id-lt1.false in
    rw (to_z-of_z (sfits_of c.min.type_inv), c.min.ensures.value, to_z-of_z (sfits_of t.type_inv), cut-step t.result, ← t.ensures, low)
    (sym (found _ (above-zero t.result low)))
