-- The product by the pattern: a value of the exponent's field x above 0 is d * 2 ^ (x - 150) for its 24 digits d, so k times it is the fraction d * k / 2 ^ (150 - x), or a whole number from x = 150 on. Assumes nothing.
use Prim.Native.Nat.{ℕ, zero, suc, ◌+◌, ◌-◌, ◌*◌, ◌/◌, ◌%◌, ◌^◌, ◌≤◌, ◌<◌, min}
use mathlib.Core.Path.{◌≡◌, refl, sym, ap, ◌∙◌}
use mathlib.Core.Bool.{Bool, true, false, false≢true}
use native.Mathlib.Nat.{lt_of_lt_of_le, lt_of_le_of_lt, le_trans, le_of_eq, mul-le-mul, mul-le-mul_left}
use native.Mathlib.Omega.{arith}
use borrow.Author.Tests.{leb-true, leb-false, lt-leb}
use lib.Dec.{T, leb, eqb-suc-zero}
use lib.Pow.{pow-add, pow_pos, pow_mono, shl_lt}
use lib.Ieee.{Float, nan, inf, fin, binary32, up, down, fits, is_nan, of_fields, of_bits, to_bits}
use lib.Ieee.Bits.{of_bits-to_bits}
use lib.Ieee.Fits.{down_pos}
use lib.Ieee.Exact.{HasValue}
use Rattle.std.specs.Float.{float_is_infinite, is_sign_negative}
use Rattle.scalar.proofs.Patterns.{of_bits_is, fields-low, fields-mid}
use Rattle.figures.specs.declared.Printed.{Printed}
use Rattle.figures.specs.Nearest.{nearest, past, times_of}
use Rattle.figures.specs.Figure.{signed_tenths, figure_of}
use Rattle.figures.proofs.HalfToEven.{nearest-same, below_half, whole}

-- ---- by a value's sign and fraction

times-at : (k : ℕ) (v : Float) (s : Bool) (n d : ℕ) → 0 < d → HasValue v s n d → times_of k v ≡ min (nearest (k * n) d) past
unfolding times_of
times-at k nan s n d p h = elim h [ ]
times-at k (inf _) s n d p h = elim h [ ]
times-at k (fin t m e) s n d p h = ap (λ (x : ℕ). min x past) (nearest-same (k * m * up e) (down e) (k * n) d (down_pos e) p (cross (up e) (down e) h.1))
  where
    cross : (u w : ℕ) → m * u * d ≡ n * w → k * m * u * d ≡ k * n * w
    cross u w g = let f = ap (λ (x : ℕ). k * x) g in omega arith

-- what is kept of a number changes no figure
kept-signed : (s : Bool) (n : ℕ) → signed_tenths s n ≡ signed_tenths s (min n past)
kept-signed s n = go (leb n past) refl
  where
    large : (s : Bool) (n : ℕ) → past < n → signed_tenths s n ≡ signed_tenths s past
    large false n l = rw (lt-leb n 9999 (omega arith))
    large true zero l = absurd (omega arith)
    large true (suc n) l = rw (lt-leb (suc n) 999 (omega arith))

    go : (b : Bool) → leb n past ≡ b → signed_tenths s n ≡ signed_tenths s (min n past)
    go true e = ap (λ (x : ℕ). signed_tenths s x) (let l = leb-true n past e in omega arith)
    go false e = let l = leb-false n past e in large s n l ∙ ap (λ (x : ℕ). signed_tenths s x) (omega arith)

-- ---- the figure by a value's case

other : {A : Type 0} → false ≡ true → A
other e = absurd (false≢true e)

pub not-a-number : (v : Float) → is_nan v ≡ true → Printed.NotANumber ≡ figure_of v
unfolding figure_of is_nan
not-a-number nan e = refl
not-a-number (inf s) e = other e
not-a-number (fin s m x) e = other e

pub infinite : (v : Float) → is_nan v ≡ false → float_is_infinite v ≡ true → Printed.Infinite ≡ figure_of v
unfolding figure_of is_nan float_is_infinite
infinite nan n e = other (sym n)
infinite (inf s) n e = refl
infinite (fin s m x) n e = other e

pub finite : (v : Float) (s : Bool) → is_nan v ≡ false → float_is_infinite v ≡ false → is_sign_negative v ≡ s → signed_tenths s (times_of 10 v) ≡ figure_of v
unfolding figure_of times_of is_nan float_is_infinite is_sign_negative
finite nan s n e h = other (sym n)
finite (inf t) s n e h = other (sym e)
finite (fin t m x) s n e h = sym (ap (λ (y : Bool). signed_tenths y (nearest (10 * m * up x) (down x))) h ∙ kept-signed s (nearest (10 * m * up x) (down x)))

-- ---- by the fields

module _ (k : ℕ) (s : Bool) (t : ℕ) (few : k < 2 ^ 32) (last : t < 2 ^ 23) where
  product_lt : (d : ℕ) → d ≤ 2 ^ 24 → k * d < 2 ^ 56
  product_lt d h = lt_of_le_of_lt (mul-le-mul_left k h) (shl_lt 32 24 few)

  tiny : (d y : ℕ) → d ≤ 2 ^ 24 → y < 93 → 2 * (k * (d * 2 ^ y)) < 2 ^ 149
  tiny d y h l = lt_of_le_of_lt (le_of_eq (twice (k * d) refl (2 ^ y) (2 ^ (y + 1)) (pow-add 2 y 1))) (lt_of_lt_of_le (shl_lt 56 (y + 1) (product_lt d h)) (pow_mono {i = 56 + (y + 1)} {j = 149} (omega arith)))
    where
      twice : (a : ℕ) → k * d ≡ a → (p q : ℕ) → q ≡ p * 2 → 2 * (k * (d * p)) ≡ a * q
      twice a i p q e = let f = ap (λ (x : ℕ). x * p) i in let g = ap (λ (x : ℕ). a * x) e in omega arith

  pub below : (x : ℕ) → x < 94 → 0 ≡ times_of k (of_fields binary32 s x t)
  below zero l =
      sym (times-at k (of_fields binary32 s 0 t) s t (2 ^ 149) (pow_pos 149) (fields-low s t)
      ∙ ap (λ (x : ℕ). min x past) (below_half (k * t) (2 ^ 149) (one (2 ^ 149) (tiny t 0 (omega arith) (omega arith)))))
    where
      one : (p : ℕ) → 2 * (k * (t * 2 ^ 0)) < p → 2 * (k * t) < p
      one p h = omega arith
  below (suc y) l =
      sym (times-at k (of_fields binary32 s (suc y) t) s ((2 ^ 23 + t) * 2 ^ y) (2 ^ 149) (pow_pos 149) (fields-mid s y t (omega arith))
      ∙ ap (λ (x : ℕ). min x past) (below_half (k * ((2 ^ 23 + t) * 2 ^ y)) (2 ^ 149) (tiny (2 ^ 23 + t) y (omega arith) (omega arith))))

  pub fraction : (x : ℕ) → 94 ≤ x → x < 150 → min (nearest ((2 ^ 23 + t) * k) (2 ^ (150 - x))) past ≡ times_of k (of_fields binary32 s x t)
  fraction zero l h = absurd (omega arith)
  fraction (suc y) l h =
      sym (times-at k (of_fields binary32 s (suc y) t) s ((2 ^ 23 + t) * 2 ^ y) (2 ^ 149) (pow_pos 149) (fields-mid s y t (omega arith))
      ∙ ap (λ (x : ℕ). min x past) (nearest-same (k * ((2 ^ 23 + t) * 2 ^ y)) (2 ^ 149) ((2 ^ 23 + t) * k) (2 ^ (150 - suc y)) (pow_pos 149) (pow_pos (150 - suc y))
      (cross (2 ^ 23 + t) (2 ^ y) (2 ^ (150 - suc y)) (2 ^ 149) (sym (pow-add 2 y (150 - suc y)) ∙ ap (λ (x : ℕ). 2 ^ x) {y = 149} (omega arith)))))
    where
      cross : (d p q r : ℕ) → p * q ≡ r → k * (d * p) * q ≡ d * k * r
      cross d p q r e = let f = ap (λ (x : ℕ). d * k * x) e in omega arith

  pub multiple : (x : ℕ) → 150 ≤ x → x < 255 → min ((2 ^ 23 + t) * k * 2 ^ (x - 150)) past ≡ times_of k (of_fields binary32 s x t)
  multiple zero l h = absurd (omega arith)
  multiple (suc y) l h =
      sym (times-at k (of_fields binary32 s (suc y) t) s ((2 ^ 23 + t) * 2 ^ y) (2 ^ 149) (pow_pos 149) (fields-mid s y t h)
      ∙ ap (λ (x : ℕ). min (nearest x (2 ^ 149)) past) (cross (2 ^ 23 + t) (2 ^ y) (2 ^ (suc y - 150)) (2 ^ 149) (ap (λ (x : ℕ). 2 ^ x) {x = y} {y = suc y - 150 + 149} (omega arith) ∙ pow-add 2 (suc y - 150) 149))
      ∙ ap (λ (x : ℕ). min x past) (whole ((2 ^ 23 + t) * k * 2 ^ (suc y - 150)) (2 ^ 149) (pow_pos 149)))
    where
      cross : (d p q r : ℕ) → p ≡ q * r → k * (d * p) ≡ d * k * q * r
      cross d p q r e = let f = ap (λ (x : ℕ). d * k * x) e in omega arith

  pub none : (x : ℕ) → k ≡ 0 → 159 ≤ x → x < 255 → 0 ≡ times_of k (of_fields binary32 s x t)
  none x z l h = ap (λ (y : ℕ). min y past) (zero-times (2 ^ 23 + t) (2 ^ (x - 150))) ∙ multiple x (omega arith) h
    where
      zero-times : (d p : ℕ) → 0 ≡ d * k * p
      zero-times d p = rw z (omega arith)

  pub large : (x : ℕ) → (k ≡ 0 → ⊥) → 159 ≤ x → x < 255 → past ≡ times_of k (of_fields binary32 s x t)
  large x z l h = top ((2 ^ 23 + t) * k * 2 ^ (x - 150)) (mul-le-mul {n₁ = 2 ^ 23} (reach (2 ^ 23 + t) (omega arith) (omega arith)) (pow_mono {i = 9} {j = x - 150} (omega arith))) ∙ multiple x (omega arith) h
    where
      reach : (d : ℕ) → 2 ^ 23 ≤ d → 0 < k → 2 ^ 23 ≤ d * k
      reach d h p = le_trans h (let f = mul-le-mul_left d p in omega arith)

      top : (n : ℕ) → 2 ^ 32 ≤ n → past ≡ min n past
      top n h = omega arith

-- ---- NaN and the infinities

pub past_is : (k : ℕ) (s : Bool) (t : ℕ) → past ≡ times_of k (of_fields binary32 s 255 t)
unfolding of_fields times_of
past_is k s zero = refl
past_is k s (suc t) = rw (eqb-suc-zero t)

-- ---- by the pattern

pattern-is : (b : ℕ) → of_bits binary32 b ≡ of_fields binary32 (leb (2 ^ 31) b) (b % 2 ^ 31 / 2 ^ 23) (b % 2 ^ 31 % 2 ^ 23)
pattern-is b = of_bits_is b ∙ ap (λ (x : ℕ). of_fields binary32 (leb (2 ^ 31) b) (b % 2 ^ 31 / 2 ^ 23) x) (last b)
  where
    last : (b : ℕ) → b % 2 ^ 23 ≡ b % 2 ^ 31 % 2 ^ 23
    last b = omega arith

-- a value of the format, by the pattern b that the code has of it
pub by-fields : (v : Float) (b : ℕ) → T (fits binary32 v) → b ≡ to_bits binary32 v → of_fields binary32 (leb (2 ^ 31) b) (b % 2 ^ 31 / 2 ^ 23) (b % 2 ^ 31 % 2 ^ 23) ≡ v
by-fields v b f e = sym (pattern-is b) ∙ ap (λ (x : ℕ). of_bits binary32 x) e ∙ of_bits-to_bits binary32 v f
