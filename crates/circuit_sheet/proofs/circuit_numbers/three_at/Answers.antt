use mathlib.Core.Path.{◌≡◌, ap, ◌∙◌}
use mathlib.Core.List.{List, [], ◌∷◌, map}
use Prim.Native.Nat.{ℕ, ◌+◌}
use native.Mathlib.Omega.{arith}
use Rattle.std.proofs.Common.{rules}
use Rattle.std.specs.List.{range_with_len}
use Rattle.circuit.specs.Point.{point_number}
use Rattle.scalar.proofs.FromFn.{from_fn_numbers}
use Rattle.circuit_sheet.specs.Numbers.{three_at}
use Rattle.circuit_sheet.proofs.circuit_numbers.three_at.Goals as goal

three : (w : List ℕ) (i j : ℕ) → map (λ (k : ℕ). point_number w i (j + k)) (range_with_len 0 3) ≡ three_at w i j
unfolding three_at
three w i j = ap (λ (k : ℕ). point_number w i k ∷ point_number w i (j + 1) ∷ point_number w i (j + 2) ∷ []) (same j)
  where
    same : (j : ℕ) → j + 0 ≡ j
    same j = omega arith

pub returns : goal.returns
returns c =
    let w = c.args.words.now in
    from_fn_numbers (λ k. point_number w c.args.i (c.args.j + k)) 3 (λ k y q l r. search rules) c.from_fn.ensures.items ∙ three w c.args.i c.args.j
