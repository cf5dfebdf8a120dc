-- The two ways of the definition differ in what `folded` and `packed` choose by the sign.
use mathlib.Core.Path.{◌≡◌, refl, sym, ap, ap₂, ◌∙◌, subst}
use Prim.Native.Nat.{ℕ, ◌+◌, ◌-◌, ◌*◌, ◌/◌, ◌%◌, ◌^◌, ◌≤◌}
use native.Mathlib.Omega.{arith}
use mathlib.Core.Bool.{Bool, true, false}
use lib.Dec.{ltb}
use Rattle.fixed.specs.Fixed.{pick}
use Rattle.exponential.specs.Tables.{ln2}
use Rattle.exponential.specs.Exp.{power_of, rounded_to24, lowered, grown, shrunk}
use Rattle.exponential.proofs.signed.Goals as goal

picked : (t : Bool) (x y b : ℕ) → x ≤ b → y ≤ b → pick t x y ≤ b
picked true x y b h k = h
picked false x y b h k = k

joined : (t : Bool) (r x y e : ℕ) → power_of r ≡ y → r ≡ pick t (x % ln2) (ln2 - x % ln2) → e ≡ x / ln2 → pick t ((126 + e) * 2 ^ 23 + rounded_to24 y) (lowered e y) ≡ pick t (grown x) (shrunk x)
unfolding grown shrunk
joined true r x y e p q f = ap₂ (λ (z u : ℕ). (126 + z) * 2 ^ 23 + rounded_to24 u) f (sym p ∙ ap power_of q)
joined false r x y e p q f = ap₂ (λ (z u : ℕ). lowered z u) f (sym p ∙ ap power_of q)

pub power-requires : goal.power-requires
power-requires c = let x = c.args.x in subst (λ (r : ℕ). r ≤ ln2) (sym c.folded.ensures) (picked (ltb c.args.s 1) (x % ln2) (ln2 - x % ln2) ln2 (omega arith) (omega arith))

pub returns : goal.returns
returns c = let s = c in c.packed.ensures ∙ joined (ltb s.args.s 1) c.folded.result s.args.x c.power.result (s.args.x / ln2) (sym c.power.ensures) c.folded.ensures refl
