-- The sum over the flat table is the sum over the nodes: every place is filled once, and read back for its node. Both sides compute, whatever the densities are.
use mathlib.Core.Path.{◌≡◌, refl}
use mathlib.Core.Bool.{Bool, true, false}
use mathlib.Core.List.{List}
use Prim.Native.Nat.{ℕ, ◌/◌, ◌%◌}
use lib.Ieee.{Float}
use Rattle.scalar.specs.F32.{◌≥f◌}
use Rattle.scalar.specs.Literals.{f0}
use Rattle.heights.specs.Nodes.{ig_at, ib_at}
use Rattle.heights.specs.Densities.{cut_of, ysq_of}
use Rattle.heights.specs.ReadsByWalk.{read_at, turn_of, ysq_walk_of, ysq_read_by, placed, place_at, flat, walk_table, scan_table, table_by}
use Rattle.heights.specs.Gethp.{hp_of}

walk-sum : (up : Bool) (density : ℕ → Float) → hp_of (flat (placed (place_at up) density 40)) 20 ≡ hp_of (λ ig ib. density (turn_of up ig ib)) 20
unfolding hp_of placed ig_at ib_at
walk-sum true density = refl
walk-sum false density = refl

scan-sum : (density : ℕ → ℕ → Float) → hp_of (flat (placed (λ k. k) (λ k. density (k / 2) (k % 2)) 40)) 20 ≡ hp_of density 20
unfolding hp_of placed
scan-sum density = refl

pub table-sum : (rises : Bool) (htr fnsq : List Float) (ht fr : Float) → hp_of (flat (table_by rises htr fnsq ht fr)) 20 ≡ hp_of (ysq_read_by rises htr fnsq ht fr) 20
unfolding walk_table scan_table ysq_walk_of
table-sum true htr fnsq ht fr = walk-sum (ht ≥f f0) (λ k. cut_of (read_at htr fnsq ht k).reading fr)
table-sum false htr fnsq ht fr = scan-sum (ysq_of htr fnsq ht fr)
