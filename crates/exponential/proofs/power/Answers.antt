-- The product of the entry's upper half by what the series adds fits, since the entry is below 2 ^ 63.
use mathlib.Core.Path.{◌≡◌, sym, ap₂, subst, subst₂}
use Prim.Native.Nat.{ℕ, ◌+◌, ◌-◌, ◌*◌, ◌/◌, ◌^◌, ◌≤◌}
use native.Mathlib.Omega.{arith}
use Rattle.exponential.specs.Tables.{ln2}
use Rattle.exponential.specs.Exp.{rise_of, factor, left, power_of}
use Rattle.exponential.proofs.ExpRange.{entry-le, rise-le, product_le}
use Rattle.exponential.proofs.power.Goals as goal

-- with the entry F and the rise p that the two calls give
module _ (R f p : ℕ) (h : R ≤ ln2) (e : f ≡ factor R) (r : p ≡ rise_of (left R)) where
  bound : f / 2 ^ 32 * p ≤ 2 ^ 63 + 2 ^ 59
  bound = subst₂ (λ (x y : ℕ). x / 2 ^ 32 * y ≤ 2 ^ 63 + 2 ^ 59) (sym e) (sym r) (product_le (factor R) (rise_of (left R)) (entry-le (R / 2 ^ 52) (omega arith)) (rise-le (left R) (omega arith)))

  below : f ≤ 2 ^ 63
  below = subst (λ (x : ℕ). x ≤ 2 ^ 63) (sym e) (go (entry-le (R / 2 ^ 52) (omega arith)))
    where
      go : {x : ℕ} → x ≤ 2 ^ 63 - 2 ^ 46 → x ≤ 2 ^ 63
      go k = omega arith

  is : f + f / 2 ^ 32 * p / 2 ^ 4 ≡ power_of R
  unfolding power_of
  is = ap₂ (λ (x y : ℕ). x + x / 2 ^ 32 * y / 2 ^ 4) e r

pub overflow_mul-result : goal.overflow_mul-result
overflow_mul-result c = let s = c in let b = bound s.args.r c.sixteenth-f.result c.rise-p.result s.requires c.sixteenth-f.ensures c.rise-p.ensures in omega arith

pub overflow_add-result : goal.overflow_add-result
overflow_add-result c = let s = c in let b = bound s.args.r c.sixteenth-f.result c.rise-p.result s.requires c.sixteenth-f.ensures c.rise-p.ensures in let d = below s.args.r c.sixteenth-f.result c.rise-p.result s.requires c.sixteenth-f.ensures c.rise-p.ensures in omega arith

pub returns : goal.returns
returns c = let s = c in is s.args.r c.sixteenth-f.result c.rise-p.result s.requires c.sixteenth-f.ensures c.rise-p.ensures
