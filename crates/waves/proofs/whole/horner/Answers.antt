-- A product by a number below 2 ^ 32 is at most the other factor, so that each sum is at most that of the numbers added so far.
use mathlib.Core.Path.{ap, ◌∙◌}
use Prim.Native.Nat.{ℕ, ◌+◌, ◌≤◌}
use native.Mathlib.Omega.{arith}
use Rattle.waves.specs.SinCos.{times}
use Rattle.waves.proofs.Patterns.{product_le}
use Rattle.waves.proofs.whole.horner.Goals.{After-product, After-product-2, After-product-3}
use Rattle.waves.proofs.whole.horner.Goals as goal

first : (c : After-product) → c.product.result ≤ c.args.d
first c = product_le c.product.result c.args.w c.args.d c.ranges.w.fits c.product.ensures

second : (c : After-product-2) → c.product-2.result ≤ c.args.c + c.product.result
second c = product_le c.product-2.result c.args.w _ c.ranges.w.fits c.product-2.ensures

third : (c : After-product-3) → c.product-3.result ≤ c.args.b + c.product-2.result
third c = product_le c.product-3.result c.args.w _ c.ranges.w.fits c.product-3.ensures

pub overflow_add-c : goal.overflow_add-c
overflow_add-c c = omega (arith, first (goal.at.overflow_add-c c).After-product, c.requires.1)

pub overflow_add-b : goal.overflow_add-b
overflow_add-b c = omega (arith, second (goal.at.overflow_add-b c).After-product-2, first (goal.at.overflow_add-b c).After-product, c.requires.1)

pub overflow_add-result : goal.overflow_add-result
overflow_add-result c = omega (arith, third (goal.at.overflow_add-result c).After-product-3, second (goal.at.overflow_add-result c).After-product-2, first (goal.at.overflow_add-result c).After-product, c.requires)

pub returns : goal.returns
returns c =
    let a = c.args in
    ap (λ (x : ℕ). a.a + x)
    (c.product-3.ensures ∙ ap (λ (x : ℕ). times a.w (a.b + x)) (c.product-2.ensures ∙ ap (λ (x : ℕ). times a.w (a.c + x)) c.product.ensures))
