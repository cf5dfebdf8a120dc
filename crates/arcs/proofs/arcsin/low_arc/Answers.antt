-- `arcs::arcsin::low_arc` meets its contract.
use mathlib.Core.Path.{sym, ap, ◌∙◌, subst}
use Prim.Native.Nat.{ℕ, ◌^◌, ◌<◌}
use native.Mathlib.Nat.{lt_of_le_of_lt}
use native.Mathlib.Omega.{arith}
use lib.Dec.{lit<}
use Rattle.arcs.specs.Asin.{arc_of}
use Rattle.arcs.proofs.AsinBits.{low-range}
use Rattle.arcs.proofs.arcsin.low_arc.Goals as goal

pub arc_sum-requires : goal.arc_sum-requires
arc_sum-requires c =
    let s = c in
    (omega arith, subst (λ (x : ℕ). x < 2 ^ 50) (sym c.scaled.ensures) (lt_of_le_of_lt (low-range s.args.a s.requires.0 s.requires.1).1 (lit< tt)))

pub returns : goal.returns
returns c = c.arc_sum.ensures ∙ ap (λ (x : ℕ). arc_of 0 x) c.scaled.ensures
