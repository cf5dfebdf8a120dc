-- `arcs::arctan::cube` meets its contract.
use mathlib.Core.Path.{◌≡◌, ap, ◌∙◌}
use Prim.Native.Nat.{ℕ, ◌*◌, ◌/◌, ◌^◌}
use native.Mathlib.Omega.{arith}
use native.Mathlib.Nat.{mul-div-mul_right}
use lib.Pow.{pow_pos}
use Rattle.arcs.proofs.arctan.cube.Goals as goal

square : (q : ℕ) → q * 256 * (q * 256) / 2 ^ 64 ≡ q * q / 2 ^ 48
square q = ap (λ (y : ℕ). y / 2 ^ 64) (go q) ∙ mul-div-mul_right (q * q) (2 ^ 48) (pow_pos 16)
  where
    go : (q : ℕ) → q * 256 * (q * 256) ≡ q * q * 2 ^ 16
    go q = omega arith

pub returns : goal.returns
returns c =
    let q = c.args.q in
    ap (λ (x : ℕ). x / 3) (c.high_product-2.ensures ∙ ap (λ (x : ℕ). q * x / 2 ^ 64) (c.high_product.ensures ∙ square q))
