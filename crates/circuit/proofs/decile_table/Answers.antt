-- Each number is its word's; where every word is +0, so is every number.
use Prim.Native.Nat.{ℕ}
use mathlib.Core.Path.{◌≡◌, sym, ap, ◌∙◌}
use mathlib.Core.List.{map}
use native.Mathlib.Omega.{arith}
use borrow.Author.Rules.{rules}
use lib.Ieee.{of_bits, binary32}
use lib.ListN.{length, replicate}
use Rattle.std.specs.Float.{float_zero}
use Rattle.records.proofs.Lists.{zeros}
use Rattle.records.proofs.Maps.{IsMapOf-map}
use Rattle.circuit.proofs.decile_table.Goals as goal

pub returns-then-all_zero : goal.returns-then-all_zero
returns-then-all_zero c =
    let d = c.args.c.deciles in
    let n : length d ≡ 576 = omega arith in
    let z = zeros d (sym c.all_zero.ensures ∙ c.if-all_zero.true) in
    sym (ap (map (of_bits binary32)) (z ∙ ap (λ (k : ℕ). replicate k 0) n))

pub returns : goal.returns
returns c = IsMapOf-map _ (of_bits binary32) 0 float_zero (λ x y p q h. search rules) (search rules) c.map.ensures.items
