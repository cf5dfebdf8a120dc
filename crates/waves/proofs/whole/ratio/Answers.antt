-- `waves::whole::ratio` meets its contract: the terms taken off are less than those added.
use mathlib.Core.Path.{◌≡◌, sym, ap, ap₂, ◌∙◌, subst₂}
use Prim.Native.Nat.{ℕ, ◌-◌, ◌≤◌}
use Rattle.waves.specs.SinCos.{times, added, taken, square_of, ratio_of}
use Rattle.waves.proofs.Patterns.{square-lt, ratio-in}
use Rattle.waves.proofs.whole.ratio.Goals as goal

-- what was computed, in terms of r
w_is : (r y w : ℕ) → y ≡ square_of r → w ≡ times y y → w ≡ times (square_of r) (square_of r)
w_is r y w e f = f ∙ ap (λ (y : ℕ). times y y) e

plus_is : (r w p : ℕ) → w ≡ times (square_of r) (square_of r) → p ≡ added w → p ≡ added (times (square_of r) (square_of r))
plus_is r w p e f = f ∙ ap (λ (w : ℕ). added w) e

minus_is : (r y w m p : ℕ) → y ≡ square_of r → w ≡ times (square_of r) (square_of r) → m ≡ taken w → p ≡ times y m → p ≡ times (square_of r) (taken (times (square_of r) (square_of r)))
minus_is r y w m p e f g h = h ∙ ap₂ (λ (y m : ℕ). times y m) e (g ∙ ap (λ (w : ℕ). taken w) f)

pub overflow_cast-q : goal.overflow_cast-q
overflow_cast-q c = record { fits = square-lt c.args.r c.requires }

pub overflow_sub-result : goal.overflow_sub-result
overflow_sub-result c =
    let w = w_is c.args.r c.product-y.result c.product-w.result c.product-y.ensures c.product-w.ensures in
    subst₂ (λ (x y : ℕ). x ≤ y)
    (sym (minus_is c.args.r c.product-y.result c.product-w.result c.minus.result c.product.result c.product-y.ensures w c.minus.ensures c.product.ensures))
    (sym (plus_is c.args.r c.product-w.result c.plus.result w c.plus.ensures))
    (ratio-in c.args.r c.requires).whole

pub returns : goal.returns
unfolding ratio_of
returns c =
    let w = w_is c.args.r c.product-y.result c.product-w.result c.product-y.ensures c.product-w.ensures in
    ap₂ (λ (x y : ℕ). x - y)
    (plus_is c.args.r c.product-w.result c.plus.result w c.plus.ensures)
    (minus_is c.args.r c.product-y.result c.product-w.result c.minus.result c.product.result c.product-y.ensures w c.minus.ensures c.product.ensures)
