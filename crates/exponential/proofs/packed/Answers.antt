-- A negative x with a large exponent is rounded at 2 ^ -149; every other result is normal.
use mathlib.Core.Path.{◌≡◌, sym, ap, ◌∙◌}
use Prim.Native.Nat.{ℕ, ◌+◌, ◌-◌, ◌*◌, ◌/◌, ◌^◌, ◌<◌, ◌≤◌}
use native.Mathlib.Omega.{arith}
use mathlib.Core.Bool.{Bool}
use lib.Dec.{ltb}
use borrow.Author.Tests.{lt-ltb, le-ltb}
use Rattle.cases.proofs.Cases.{split}
use Rattle.fixed.specs.Fixed.{pick}
use Rattle.exponential.specs.Exp.{rounded_to24, lowered}
use Rattle.exponential.proofs.ExpCases.{lowered-normal, lowered-subnormal}
use Rattle.exponential.proofs.ExpRange.{cut-le}
use Rattle.exponential.proofs.packed.Goals.{Then-e-s-gt1125}
use Rattle.exponential.proofs.packed.Goals as goal

-- the field is at most 253
module _ (s e f : ℕ) (is : f ≡ pick (ltb s 1) (126 + e) (125 - e)) where
  small : e ≤ 127 + s * 23 → f ≤ 253
  small h =
      split s 1
      (λ k. up (is ∙ ap (λ (t : Bool). pick t (126 + e) (125 - e)) (lt-ltb _ _ k)) k)
      (λ k. down (is ∙ ap (λ (t : Bool). pick t (126 + e) (125 - e)) (le-ltb _ _ k)))
    where
      up : f ≡ 126 + e → s < 1 → f ≤ 253
      up p k = omega arith

      down : f ≡ 125 - e → f ≤ 253
      down p = omega arith

  normal : (h : ℕ) → e + s * 1000 ≤ 1125 → f * 2 ^ 23 + rounded_to24 h ≡ pick (ltb s 1) ((126 + e) * 2 ^ 23 + rounded_to24 h) (lowered e h)
  normal h k =
      split s 1
      (λ l. ap (λ (x : ℕ). x * 2 ^ 23 + rounded_to24 h) (is ∙ ap (λ (t : Bool). pick t (126 + e) (125 - e)) (lt-ltb _ _ l)) ∙ sym (ap (λ (t : Bool). pick t ((126 + e) * 2 ^ 23 + rounded_to24 h) (lowered e h)) (lt-ltb _ _ l)))
      (λ l. ap (λ (x : ℕ). x * 2 ^ 23 + rounded_to24 h) (is ∙ ap (λ (t : Bool). pick t (126 + e) (125 - e)) (le-ltb _ _ l)) ∙ sym (lowered-normal e h (omega arith)) ∙ sym (ap (λ (t : Bool). pick t ((126 + e) * 2 ^ 23 + rounded_to24 h) (lowered e h)) (le-ltb _ _ l)))

deep : (s e : ℕ) → s < 2 → e ≤ 127 + s * 23 → 1125 < e + s * 1000 → 125 < e
deep s e b h k = omega arith

few : (c : Then-e-s-gt1125) → c.args.h / 2 ^ (c.args.e - 87) ≤ 2 ^ 25
few c = cut-le c.args.h c.args.e (omega arith) (deep c.args.s c.args.e c.requires.0 c.requires.1 c.if-e-s-gt1125.true)

pub overflow_add-result : goal.overflow_add-result
overflow_add-result c = omega (arith, few (goal.at.overflow_add-result c).Then-e-s-gt1125)

pub overflow_cast-result : goal.overflow_cast-result
overflow_cast-result c = omega (arith, few (goal.at.overflow_cast-result c).Then-e-s-gt1125)

pub returns-then-e-s-gt1125 : goal.returns-then-e-s-gt1125
returns-then-e-s-gt1125 c = let s = c.args.s in let e = c.args.e in let h = c.args.h in sym (ap (λ (t : Bool). pick t ((126 + e) * 2 ^ 23 + rounded_to24 h) (lowered e h)) (le-ltb s 1 (omega arith)) ∙ lowered-subnormal e h (deep s e c.requires.0 c.requires.1 c.if-e-s-gt1125.true))

pub overflow_mul-result : goal.overflow_mul-result
overflow_mul-result c = let s = c in omega (arith, small s.args.s s.args.e c.field.result c.field.ensures s.requires.1)

pub overflow_add-result-3 : goal.overflow_add-result-3
overflow_add-result-3 c = let s = c in omega (arith, small s.args.s s.args.e c.field.result c.field.ensures s.requires.1)

pub returns : goal.returns
returns c = let s = c in normal s.args.s s.args.e c.field.result c.field.ensures s.args.h c.if-e-s-gt1125.false
