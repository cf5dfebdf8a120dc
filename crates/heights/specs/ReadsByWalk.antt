-- The forty reads as the code makes them, where it does: one walk where the heights rise, else forty scans.
use Rattle.std.specs.Prelude.{Bool, true, false, List, ℕ, zero, suc, ◌+◌, ◌-◌, ◌*◌, ◌/◌, ◌%◌, eqb, set, replicate, Float}
use Rattle.scalar.specs.F32.{◌≥f◌, at}
use Rattle.scalar.specs.Literals.{f0}
use Rattle.readings.specs.Scan.{value_of, reading_of}
use Rattle.readings.specs.declared.Read.{Read}
use Rattle.heights.specs.Walk.{cursor_before, walk_read}
use Rattle.heights.specs.Nodes.{ig_at, ib_at, height_of, height_at}
use Rattle.heights.specs.Densities.{cut_of, ysq_of}

-- read k of the walk, and the cursor after n reads
abbrev pub read_at : List Float → List Float → Float → ℕ → Read
read_at htr fnsq ht k = walk_read htr fnsq (height_at (at htr 0) ht) k

abbrev pub cursor_after : List Float → List Float → Float → ℕ → ℕ
cursor_after htr fnsq ht n = cursor_before htr fnsq (height_at (at htr 0) ht) n

-- when the node ig of the half ib is read: its half is the first one, or not
abbrev pub turn_by : Bool → ℕ → ℕ
turn_by true ig = 19 - ig
turn_by false ig = 20 + ig

abbrev pub first_half : Bool → ℕ → Bool
first_half true ib = eqb ib 1
first_half false ib = eqb ib 0

abbrev pub turn_of : Bool → ℕ → ℕ → ℕ
turn_of up ig ib = turn_by (first_half up ib) ig

unfoldable pub ysq_walk_of : List Float → List Float → Float → Float → ℕ → ℕ → Float
ysq_walk_of htr fnsq ht fr ig ib = cut_of (read_at htr fnsq ht (turn_of (ht ≥f f0) ig ib)).reading fr

abbrev pub ysq_read_by : Bool → List Float → List Float → Float → Float → ℕ → ℕ → Float
ysq_read_by true htr fnsq ht fr = ysq_walk_of htr fnsq ht fr
ysq_read_by false htr fnsq ht fr = ysq_of htr fnsq ht fr

abbrev pub cursor_read_by : Bool → List Float → List Float → Float → ℕ
cursor_read_by true htr fnsq ht = cursor_after htr fnsq ht 40
cursor_read_by false htr fnsq ht = 0

-- ---- the densities in a flat table, ysq[ig][ib] at 2 * ig + ib: after n reads, each put at its place
unfoldable pub placed : (ℕ → ℕ) → (ℕ → Float) → ℕ → List Float
placed place density zero = replicate 40 f0
placed place density (suc n) = set (placed place density n) (place n) (density n)

abbrev pub place_at : Bool → ℕ → ℕ
place_at up k = 2 * ig_at k + ib_at up k

abbrev pub flat : List Float → ℕ → ℕ → Float
flat ysq ig ib = at ysq (2 * ig + ib)

unfoldable pub walk_table : List Float → List Float → Float → Float → ℕ → List Float
walk_table htr fnsq ht fr n = placed (place_at (ht ≥f f0)) (λ k. cut_of (read_at htr fnsq ht k).reading fr) n

unfoldable pub scan_table : List Float → List Float → Float → Float → ℕ → List Float
scan_table htr fnsq ht fr n = placed (λ k. k) (λ k. ysq_of htr fnsq ht fr (k / 2) (k % 2)) n

-- the densities as they are read, before they are cut
unfoldable pub walk_reads : List Float → List Float → Float → ℕ → List Float
walk_reads htr fnsq ht n = placed (place_at (ht ≥f f0)) (λ k. value_of (read_at htr fnsq ht k).reading) n

unfoldable pub scan_reads : List Float → List Float → Float → ℕ → List Float
scan_reads htr fnsq ht n = placed (λ k. k) (λ k. value_of (reading_of htr fnsq (height_of (at htr 0) ht (k / 2) (k % 2)))) n

abbrev pub table_by : Bool → List Float → List Float → Float → Float → List Float
table_by true htr fnsq ht fr = walk_table htr fnsq ht fr 40
table_by false htr fnsq ht fr = scan_table htr fnsq ht fr 40
