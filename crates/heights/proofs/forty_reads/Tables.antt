-- The table of reads, cut, is the table of densities. Both sides compute, whatever the densities are.
use mathlib.Core.Path.{◌≡◌, refl}
use mathlib.Core.Bool.{Bool, true, false}
use mathlib.Core.List.{List, map}
use Prim.Native.Nat.{ℕ, ◌/◌, ◌%◌}
use lib.Ieee.{Float}
use Rattle.scalar.specs.F32.{◌≥f◌, at}
use Rattle.scalar.specs.Literals.{f0}
use Rattle.heights.specs.Integrands.{share_of}
use Rattle.readings.specs.Scan.{value_of, reading_of}
use Rattle.heights.specs.Nodes.{ig_at, ib_at, height_of}
use Rattle.heights.specs.Densities.{cut_of, ysq_of}
use Rattle.heights.specs.ReadsByWalk.{read_at, placed, place_at, walk_reads, scan_reads, walk_table, scan_table}

abbrev cuts : List Float → Float → List Float
cuts read fr = map (λ (d : Float). share_of d fr) read

walk-cut : (up : Bool) (value : ℕ → Float) (fr : Float) → cuts (placed (place_at up) value 40) fr ≡ placed (place_at up) (λ k. share_of (value k) fr) 40
unfolding placed ig_at ib_at
walk-cut true value fr = refl
walk-cut false value fr = refl

scan-cut : (value : ℕ → Float) (fr : Float) → cuts (placed (λ k. k) value 40) fr ≡ placed (λ k. k) (λ k. share_of (value k) fr) 40
unfolding placed
scan-cut value fr = refl

pub walk-table : (htr fnsq : List Float) (ht fr : Float) → cuts (walk_reads htr fnsq ht 40) fr ≡ walk_table htr fnsq ht fr 40
unfolding walk_reads walk_table cut_of
walk-table htr fnsq ht fr = walk-cut (ht ≥f f0) (λ k. value_of (read_at htr fnsq ht k).reading) fr

pub scan-table : (htr fnsq : List Float) (ht fr : Float) → cuts (scan_reads htr fnsq ht 40) fr ≡ scan_table htr fnsq ht fr 40
unfolding scan_reads scan_table ysq_of cut_of
scan-table htr fnsq ht fr = scan-cut (λ k. value_of (reading_of htr fnsq (height_of (at htr 0) ht (k / 2) (k % 2)))) fr
