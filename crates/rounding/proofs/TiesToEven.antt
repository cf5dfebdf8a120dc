-- The logic's `round` is IEEE 754's roundTiesToEven, in either format (`round-ties-to-even`): the cell's argument (`Cells`), carried from units (`Units`) to values, with the last digit of the pattern (`LastDigit`) and the limit (`Limit`). Assumes nothing.
use mathlib.Core.Path.{◌≡◌, refl, sym, ap, ◌∙◌}
use mathlib.Core.Logic.{◌⊎◌, inl, inr}
use mathlib.Core.Bool.{Bool, true, false, beq, cond}
use Prim.Native.Nat.{ℕ, ◌+◌, ◌-◌, ◌*◌, ◌/◌, ◌%◌, ◌^◌, ◌≤◌, ◌<◌}
use native.Mathlib.Nat.{le_trans, le_of_eq, zero-mul, eq_of_mul-eq-mul_right}
use native.Mathlib.Omega.{arith}
use lib.Dec.{T}
use lib.Pow.{pow_pos}
use lib.Ieee.{Float, nan, inf, fin, Format, prec, low, up, down, size, round, fits, to_bits}
use lib.Ieee.Fits.{two, two-le_pos, round-fits, down_pos}
use lib.Ieee.Exact.{HasValue}
use lib.Ieee.Order.{drop, kept}
use lib.Ieee.Scale.{grid, finite}
use lib.Ieee.Positive.{den}
use Rattle.rounding.specs.TiesToEven.{gap, off, Nearest}
use Rattle.rounding.specs.Laws.{RoundTiesToEven}
use Rattle.rounding.proofs.Cells.{grid-nearest, grid-tie}
use Rattle.rounding.proofs.Limit.{round-inf, round-value}
use Rattle.rounding.proofs.Units.{dist, in-units, on-grid, fractions, units_of, bits_of, same-value, own-dist}
use Rattle.rounding.proofs.LastDigit.{kept-le, last-even, even-pattern}

-- ---- the nearest

-- zero is a value too
from_zero : (c n : ℕ) → gap (0 * 2 ^ 0 * c) n ≡ n
from_zero c n = ap (λ (x : ℕ). gap x n) (zero-mul c) ∙ z n
  where
    z : (n : ℕ) → gap 0 n ≡ n
    z n = omega arith

near-dist : (f : Format) (s t : Bool) (n c q j : ℕ) → 0 < c → q < 2 ^ prec f → gap (kept (prec f) n c * 2 ^ drop (prec f) n c * c) n ≤ dist s t (q * 2 ^ j) c n
near-dist f s t n c q j C Q = go (beq s t)
  where
    P : 0 < prec f
    P = two-le_pos (prec f) (two f)

    most : (x m : ℕ) → x ≤ n → x ≤ m + n
    most x m h = omega arith

    go : (b : Bool) → gap (kept (prec f) n c * 2 ^ drop (prec f) n c * c) n ≤ cond b (gap (q * 2 ^ j * c) n) (q * 2 ^ j * c + n)
    go true = grid-nearest (prec f) n c q j P C Q
    go false = most (gap (kept (prec f) n c * 2 ^ drop (prec f) n c * c) n) (q * 2 ^ j * c) (le_trans (grid-nearest (prec f) n c 0 0 P C (pow_pos (prec f))) (le_of_eq (from_zero c n)))

zero-kept : (q k c : ℕ) → 0 < c → 0 * 2 ^ 0 * c ≡ q * 2 ^ k * c → q % 2 ≡ 0
zero-kept q k c C e = ap (λ (x : ℕ). x % 2) (sym (eq_of_mul-eq-mul_right (2 ^ k) (pow_pos k) 0 q (zero-mul (2 ^ k) ∙ eq_of_mul-eq-mul_right c C 0 (q * 2 ^ k) e)))

-- where y is as near as the result: y has the result's sign and size, or the kept number is even
tie-dist : (f : Format) (s t : Bool) (n c q j : ℕ) → 0 < c → q < 2 ^ prec f
    → gap (kept (prec f) n c * 2 ^ drop (prec f) n c * c) n ≡ dist s t (q * 2 ^ j) c n
    → ((s ≡ t) × (q * 2 ^ j ≡ kept (prec f) n c * 2 ^ drop (prec f) n c)) ⊎ (kept (prec f) n c % 2 ≡ 0)
tie-dist f s t n c q j C Q = go s t
  where
    p : ℕ
    p = prec f

    P : 0 < prec f
    P = two-le_pos (prec f) (two f)

    N : ℕ
    N = kept p n c * 2 ^ drop p n c

    alike : (s : Bool) → (q * 2 ^ j * c ≡ N * c) ⊎ (kept p n c % 2 ≡ 0) → ((s ≡ s) × (q * 2 ^ j ≡ N)) ⊎ (kept p n c % 2 ≡ 0)
    alike s (inl e) = inl (refl, eq_of_mul-eq-mul_right c C (q * 2 ^ j) N e)
    alike s (inr e) = inr e

    none : (x m : ℕ) → x ≤ n → x ≡ m + n → x ≡ n
    none x m h e = omega arith

    even : (0 * 2 ^ 0 * c ≡ N * c) ⊎ (kept p n c % 2 ≡ 0) → kept p n c % 2 ≡ 0
    even (inl e) = zero-kept (kept p n c) (drop p n c) c C e
    even (inr e) = e

    unlike : {X : Type 0} → gap (N * c) n ≡ q * 2 ^ j * c + n → X ⊎ (kept p n c % 2 ≡ 0)
    unlike e = inr (even (grid-tie p n c 0 0 P C (pow_pos p)
        (none (gap (N * c) n) (q * 2 ^ j * c) (le_trans (grid-nearest p n c 0 0 P C (pow_pos p)) (le_of_eq (from_zero c n))) e ∙ sym (from_zero c n))))

    go : (s t : Bool) → gap (N * c) n ≡ dist s t (q * 2 ^ j) c n → ((s ≡ t) × (q * 2 ^ j ≡ N)) ⊎ (kept p n c % 2 ≡ 0)
    go true true e = alike true (grid-tie p n c q j P C Q e)
    go false false e = alike false (grid-tie p n c q j P C Q e)
    go true false e = unlike e
    go false true e = unlike e

-- ---- the theorem

-- any value r of the format that has the sign s and the size of the rounded fraction
module _ (f : Format) (s : Bool) (a c : ℕ) (C : 0 < c) where
  rounded : (r : Float) → T (fits f r) → HasValue r s (grid f a c) (2 ^ low f) → Nearest f s a c r
  rounded nan h v = elim v [ ]
  rounded (inf _) h v = elim v [ ]
  rounded (fin t m e) h v = record {
    held = h;
    is_finite = tt;
    sign = v.0;
    nearest = closer;
    even = ties;
  }
    where
      L : ℕ
      L = 2 ^ low f

      N : ℕ
      N = grid f a c

      mine : off s a c (fin t m e) * L ≡ gap (N * c) (a * L) * down e
      mine = in-units s t a c m e N L v.1 ∙ ap (λ (x : Bool). dist s x N c (a * L) * down e) v.0 ∙ ap (λ (x : ℕ). x * down e) (own-dist s N c (a * L))

      closer : (y : Float) → T (fits f y) → T (finite y) → off s a c (fin t m e) * den y ≤ off s a c y * down e
      closer nan k z = absurd z
      closer (inf u) k z = absurd z
      closer (fin u n d) k z =
          let g = on-grid f u n d k in
          fractions (off s a c (fin t m e)) (off s a c (fin u n d)) L (down d) (down e) (gap (N * c) (a * L)) (dist s u (g.0 * 2 ^ g.1) c (a * L))
          (pow_pos (low f)) mine (in-units s u a c n d (g.0 * 2 ^ g.1) L g.3) (near-dist f s u (a * L) c g.0 g.1 C g.2)

      ties : (y : Float) → T (fits f y) → T (finite y) → off s a c (fin t m e) * den y ≡ off s a c y * down e → (y ≡ fin t m e → ⊥) → to_bits f (fin t m e) % 2 ≡ 0
      ties nan k z q differs = absurd z
      ties (inf u) k z q differs = absurd z
      ties (fin u n d) k z q differs =
          let g = on-grid f u n d k in
          let w = units_of (off s a c (fin t m e)) (off s a c (fin u n d)) L (down d) (down e) (gap (N * c) (a * L)) (dist s u (g.0 * 2 ^ g.1) c (a * L)) (down_pos d) (down_pos e) mine (in-units s u a c n d (g.0 * 2 ^ g.1) L g.3) q in
          go g.0 g.1 g.3 (tie-dist f s u (a * L) c g.0 g.1 C g.2 w)
        where
          go : (q j : ℕ) → n * up d * L ≡ q * 2 ^ j * down d → ((s ≡ u) × (q * 2 ^ j ≡ N)) ⊎ (kept (prec f) (a * L) c % 2 ≡ 0) → to_bits f (fin t m e) % 2 ≡ 0
          go q j x (inl y) = absurd (differs (same-value f u t n d m e N k h (sym y.0 ∙ sym v.0) (x ∙ ap (λ (z : ℕ). z * down d) y.1) v.1))
          go q j x (inr y) =
              ap (λ (z : ℕ). z % 2) (bits_of f t m e N v.1)
              ∙ even-pattern f t (size N - prec f) (N / 2 ^ (size N - prec f)) (last-even (prec f) (kept (prec f) (a * L) c) (drop (prec f) (a * L) c) (two f) (kept-le (prec f) (a * L) c) y)

-- roundTiesToEven
pub round-ties-to-even : RoundTiesToEven
round-ties-to-even f s a c C = record {
  below = λ h. rounded f s a c C (round f s a c) (round-fits f s a c) (round-value f s a c C h);
  above = λ h. round-inf f s a c C h;
}
