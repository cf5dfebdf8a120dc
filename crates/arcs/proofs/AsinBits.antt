-- The cases of the arc sine's definition, and the ranges of what it is brought to for x from 2 ^ -12 on and below 1.
use mathlib.Core.Path.{◌≡◌, sym, ap, ap₂, ◌∙◌, subst}
use mathlib.Core.Bool.{Bool}
use Prim.Native.Nat.{ℕ, ◌+◌, ◌-◌, ◌*◌, ◌/◌, ◌%◌, ◌^◌, ◌≤◌, ◌<◌}
use native.Mathlib.Nat.{le_trans, le_of_lt, mul-le-mul, lt_of_le_of_lt}
use native.Mathlib.Omega.{arith}
use lib.Dec.{leb, ltb, lit≤, lit<}
use lib.Pow.{pow_mono}
use lib.ListN.{get_or}
use borrow.Author.Tests.{le-leb, lt-leb, le-ltb, lt-ltb}
use Rattle.cases.proofs.Cases.{split}
use Rattle.fixed.specs.Fixed.{pick, pattern, digits, scaled_of}
use Rattle.arc_tables.specs.Tables.{cosine_of, cosine_at, arcs, half_pi}
use Rattle.arcs.specs.Asin.{gentle_arc, steep_arc, mid_arc, low_arc, asin_mag, asin_bits}
use Rattle.fixed.proofs.Sizes.{dig-low, dig-high}
use Rattle.arcs.proofs.Reduce.{within}
use Rattle.arcs.proofs.Signed.{sign}
use Rattle.arc_tables.proofs.Nodes.{arc-most}
use Rattle.arcs.proofs.Arcs.{gentle-placed, steep-placed, turn-size, arc-big}

-- ---- the angle
pub gentle-is : (n : ℕ) → n ≤ 3037000499 → mid_arc n ≡ gentle_arc n (cosine_of n)
unfolding mid_arc
gentle-is n h = ap (λ (x : Bool). pick x (gentle_arc n (cosine_of n)) (steep_arc n (cosine_of n))) (le-leb _ _ h)

pub steep-is : (n : ℕ) → 3037000499 < n → mid_arc n ≡ steep_arc n (cosine_of n)
unfolding mid_arc
steep-is n h = ap (λ (x : Bool). pick x (gentle_arc n (cosine_of n)) (steep_arc n (cosine_of n))) (lt-leb _ _ h)

pub low-is : (a : ℕ) → a < 0x3c00_0000 → asin_mag a ≡ low_arc a
unfolding asin_mag
low-is a h = ap (λ (x : Bool). pick x (low_arc a) (mid_arc (scaled_of a 118))) (lt-ltb _ _ h)

pub mid-is : (a : ℕ) → 0x3c00_0000 ≤ a → asin_mag a ≡ mid_arc (scaled_of a 118)
unfolding asin_mag
mid-is a h = ap (λ (x : Bool). pick x (low_arc a) (mid_arc (scaled_of a 118))) (le-ltb _ _ h)

-- ---- the ranges
pub low-range : (a : ℕ) → 0x3980_0000 ≤ a → a < 0x3c00_0000 → (2 ^ 44 ≤ scaled_of a 94) × (scaled_of a 94 ≤ 2 ^ 49)
low-range a l h = within (digits a) (a / 2 ^ 23 - 94) 21 25 (dig-low a) (dig-high a) (omega arith) (omega arith)

pub mid-range : (a : ℕ) → 0x3c00_0000 ≤ a → a < 0x3f80_0000 → (2 ^ 25 ≤ scaled_of a 118) × (scaled_of a 118 < 2 ^ 32)
mid-range a l h = (
  mul-le-mul (dig-low a) (pow_mono {i = 2} {j = a / 2 ^ 23 - 118} (omega arith)),
  lt_of_le_of_lt (mul-le-mul (most a) (pow_mono {i = a / 2 ^ 23 - 118} {j = 8} (omega arith))) (lit< tt),
)
  where
    most : (a : ℕ) → digits a ≤ 2 ^ 24 - 1
    most a = omega arith

mid-fits : (n : ℕ) → 2 ^ 25 ≤ n → n < 2 ^ 32 → (2 ^ 30 ≤ mid_arc n) × (mid_arc n < 2 ^ 64)
mid-fits n l h = split n 3037000500 gentle steep
  where
    gentle : n < 3037000500 → (2 ^ 30 ≤ mid_arc n) × (mid_arc n < 2 ^ 64)
    gentle k =
        let i = (n - 2 ^ 16) / 2 ^ 24 in
        let P = gentle-placed n l (omega arith) in
        let s = turn-size n (cosine_of n) (cosine_at i) (i * 2 ^ 24) P.2 in
        subst (λ (x : ℕ). (2 ^ 30 ≤ x) × (x < 2 ^ 64)) (sym (gentle-is n (omega arith))) (arc-big (get_or arcs i 0) ((cosine_at i * n - i * 2 ^ 24 * cosine_of n) / 2 ^ 8) (le_trans (arc-most i (omega arith)) (lit≤ tt)) s.0 s.1)

    steep : 3037000500 ≤ n → (2 ^ 30 ≤ mid_arc n) × (mid_arc n < 2 ^ 64)
    steep k =
        let j = (cosine_of n + 2 ^ 16) / 2 ^ 24 + 1 in
        let P = steep-placed n k h in
        let s = turn-size n (cosine_of n) (j * 2 ^ 24) (cosine_at j) P.2 in
        subst (λ (x : ℕ). (2 ^ 30 ≤ x) × (x < 2 ^ 64)) (sym (steep-is n (omega arith))) (arc-big (half_pi - get_or arcs j 0) ((j * 2 ^ 24 * n - cosine_at j * cosine_of n) / 2 ^ 8) (omega arith) s.0 s.1)

pub mag-fits : (a : ℕ) → 0x3980_0000 ≤ a → a < 0x3f80_0000 → (2 ^ 30 ≤ asin_mag a) × (asin_mag a < 2 ^ 64)
mag-fits a l h = split a 0x3c00_0000 low mid
  where
    low : a < 0x3c00_0000 → (2 ^ 30 ≤ asin_mag a) × (asin_mag a < 2 ^ 64)
    low k =
        let r = low-range a l k in
        subst (λ (x : ℕ). (2 ^ 30 ≤ x) × (x < 2 ^ 64)) (sym (low-is a k)) (arc-big 0 (scaled_of a 94) (lit≤ tt) (le_trans (lit≤ tt) r.0) r.1)

    mid : 0x3c00_0000 ≤ a → (2 ^ 30 ≤ asin_mag a) × (asin_mag a < 2 ^ 64)
    mid k =
        let r = mid-range a k h in
        subst (λ (x : ℕ). (2 ^ 30 ≤ x) × (x < 2 ^ 64)) (sym (mid-is a k)) (mid-fits (scaled_of a 118) r.0 r.1)

-- ---- the bit patterns
abbrev mid : ℕ → ℕ
mid b = sign b + pattern (asin_mag (b % 2 ^ 31))

pub small-bits : (b : ℕ) → b % 2 ^ 31 < 0x3980_0000 → asin_bits b ≡ b
unfolding asin_bits
small-bits b h = ap (λ (x : Bool). pick x b (pick (ltb (b % 2 ^ 31) 0x3f80_0000) (mid b) (pick (leb (b % 2 ^ 31) 0x3f80_0000) (sign b + 0x3fc9_0fdb) 0x7fc0_0000))) (lt-ltb _ _ h)

pub mid-bits : (b : ℕ) → 0x3980_0000 ≤ b % 2 ^ 31 → b % 2 ^ 31 < 0x3f80_0000 → asin_bits b ≡ b / 2 ^ 31 * 2 ^ 31 + pattern (asin_mag (b % 2 ^ 31))
unfolding asin_bits
mid-bits b l h = ap₂ (λ (x y : Bool). pick x b (pick y (mid b) (pick (leb (b % 2 ^ 31) 0x3f80_0000) (sign b + 0x3fc9_0fdb) 0x7fc0_0000))) (le-ltb _ _ l) (lt-ltb _ _ h)

pub one-bits : (b : ℕ) → 0x3f80_0000 ≤ b % 2 ^ 31 → b % 2 ^ 31 ≤ 0x3f80_0000 → asin_bits b ≡ b / 2 ^ 31 * 2 ^ 31 + 0x3fc9_0fdb
unfolding asin_bits
one-bits b l h =
    ap₂ (λ (x y : Bool). pick x b (pick y (mid b) (pick (leb (b % 2 ^ 31) 0x3f80_0000) (sign b + 0x3fc9_0fdb) 0x7fc0_0000))) (le-ltb _ _ (le_trans (lit≤ tt) l)) (le-ltb _ _ l)
    ∙ ap (λ (x : Bool). pick x (sign b + 0x3fc9_0fdb) 0x7fc0_0000) (le-leb _ _ h)

pub outside-bits : (b : ℕ) → 0x3f80_0000 < b % 2 ^ 31 → asin_bits b ≡ 0x7fc0_0000
unfolding asin_bits
outside-bits b h =
    ap₂ (λ (x y : Bool). pick x b (pick y (mid b) (pick (leb (b % 2 ^ 31) 0x3f80_0000) (sign b + 0x3fc9_0fdb) 0x7fc0_0000))) (le-ltb _ _ (le_trans (lit≤ tt) (le_of_lt h))) (le-ltb _ _ (le_of_lt h))
    ∙ ap (λ (x : Bool). pick x (sign b + 0x3fc9_0fdb) 0x7fc0_0000) (lt-leb _ _ h)
