-- The parts of e ^ x fit 64 bits: each term of the series is at most a thirty-second of the one before, and the table's entries are below 2 ^ 63.
use mathlib.Core.Path.{◌≡◌, refl}
use mathlib.Core.Bool.{Bool, ◌&&◌}
use Prim.Native.Nat.{ℕ, ◌+◌, ◌-◌, ◌*◌, ◌/◌, ◌^◌, ◌≤◌, ◌<◌}
use native.Mathlib.Nat.{le_trans, le_of_lt, mul-le-mul, mul-le-mul_right, div-le_of_le-mul}
use native.Mathlib.Omega.{arith}
use lib.Dec.{T, leb, leb→le, lit≤}
use lib.Pow.{pow_mono}
use lib.Ieee.Fits.{and_l, and_r}
use lib.ListN.{get_or}
use Rattle.cases.proofs.Entries.{entry}
use Rattle.exponential.specs.Tables.{ln2, sixteenths}
use Rattle.exponential.specs.Exp.{term, sum_to, rise_of, factor, left, power_of}

module _ (u : ℕ) (h : u < 2 ^ 32) where
  pub term-1 : term u 1 ≤ 2 ^ 27
  unfolding term
  term-1 = omega (arith, mul-le-mul (le_of_lt h) (le_of_lt h))

  pub term-2 : term u 2 ≤ 2796202
  unfolding term
  term-2 = omega (arith, mul-le-mul term-1 (le_of_lt h))

  pub term-3 : term u 3 ≤ 43691
  unfolding term
  term-3 = omega (arith, mul-le-mul term-2 (le_of_lt h))

  pub term-4 : term u 4 ≤ 547
  unfolding term
  term-4 = omega (arith, mul-le-mul term-3 (le_of_lt h))

  sum_is : sum_to u 4 ≡ u + term u 1 + term u 2 + term u 3 + term u 4
  unfolding sum_to
  sum_is = refl

  pub rise-le : rise_of u ≤ 2 ^ 32 + 2 ^ 28
  rise-le = omega (arith, sum_is, term-1, term-2, term-3, term-4)

-- ---- the table
wide : ℕ → ℕ → Bool
wide j F = leb (2 ^ 62) F && leb F (2 ^ 63 - 2 ^ 46)

module _ (j : ℕ) (h : j < 12) where
  widths : T (wide j (get_or sixteenths j 0))
  unfolding wide sixteenths
  widths = entry wide sixteenths tt j h

  pub entry-ge : 2 ^ 62 ≤ get_or sixteenths j 0
  unfolding wide
  entry-ge = leb→le (2 ^ 62) (get_or sixteenths j 0) (and_l (leb (2 ^ 62) (get_or sixteenths j 0)) (leb (get_or sixteenths j 0) (2 ^ 63 - 2 ^ 46)) widths)

  pub entry-le : get_or sixteenths j 0 ≤ 2 ^ 63 - 2 ^ 46
  unfolding wide
  entry-le = leb→le (get_or sixteenths j 0) (2 ^ 63 - 2 ^ 46) (and_r (leb (2 ^ 62) (get_or sixteenths j 0)) (leb (get_or sixteenths j 0) (2 ^ 63 - 2 ^ 46)) widths)

-- ---- F * (1 + p), with the product of 32 digits by 33
pub product_le : (F p : ℕ) → F ≤ 2 ^ 63 - 2 ^ 46 → p ≤ 2 ^ 32 + 2 ^ 28 → F / 2 ^ 32 * p ≤ 2 ^ 63 + 2 ^ 59
product_le F p h k = let a : F / 2 ^ 32 ≤ 2 ^ 31 = omega arith in le_trans (mul-le-mul a k) (omega arith)

pub power-lt : (R : ℕ) → R ≤ ln2 → power_of R < 2 ^ 64
unfolding power_of
power-lt R h =
    let f = entry-le (R / 2 ^ 52) (omega arith) in
    omega (arith, product_le (factor R) (rise_of (left R)) f (rise-le (left R) (omega arith)))

-- h moved down by at least 39 places
pub cut-le : (h e : ℕ) → h < 2 ^ 64 → 125 < e → h / 2 ^ (e - 87) ≤ 2 ^ 25
cut-le h e f k = div-le_of_le-mul (2 ^ (e - 87)) (le_trans (le_of_lt f) (le_trans {m = 2 ^ 39 * 2 ^ 25} (lit≤ tt) (mul-le-mul_right (2 ^ 25) (pow_mono {i = 39} {j = e - 87} (omega arith)))))
