-- The ends of e ^ x: 2 ^ 128 at x = 88.72283935546875, 2 ^ -150 at -104, and 1 about 0. Each is one computed partial sum, since the sums grow with x.
use mathlib.Core.Path.{◌≡◌}
use Prim.Native.Nat.{ℕ, ◌+◌, ◌-◌, ◌*◌, ◌^◌, ◌≤◌, ◌<◌}
use native.Mathlib.Nat.{le_trans, le_of_eq, le_refl, mul_comm}
use native.Mathlib.Omega.{arith}
use lib.Dec.{lit≤, lit<, leb→le}
use lib.Pow.{pow_pos}
use lib.Ieee.{size}
use Rattle.series.specs.Series.{full, num, one, ExpLe}
use Rattle.series.proofs.Exponential.{Enc, ok, tested}
use Rattle.series.proofs.ExpFraction.{beyond}
use Rattle.exponential.specs.Tables.{ln2}
use Rattle.exponential_bounds.proofs.Units.{unit, unit_below}
use Rattle.exponential_bounds.proofs.Exponents.{enc-le, lower-le}
use Rattle.exponential_bounds.proofs.ExpNear.{Sums, Recs, from-enc, from-rec}

-- ---- from 0xb17218 / 2 ^ 17 up
at_top : 2 ^ 128 * full (2 ^ 17) 250 ≤ num one 0xb1_7218 (2 ^ 17) 250
unfolding num full
at_top = leb→le (2 ^ 128 * full (2 ^ 17) 250) (num one 0xb1_7218 (2 ^ 17) 250) tt

pub past_top : (n d : ℕ) → 0xb1_7218 * d ≤ n * 2 ^ 17 → (k : ℕ) × (2 ^ 128 * full d k ≤ num one n d k)
past_top n d h = (250, beyond n d 0xb1_7218 (2 ^ 17) (2 ^ 128) 250 (pow_pos 17) h at_top)

-- ---- from 104 up
at-bottom : 2 ^ 150 * full 1 342 ≤ num one 104 1 342
unfolding num full
at-bottom = leb→le (2 ^ 150 * full 1 342) (num one 104 1 342) tt

pub past-bottom : (n d : ℕ) → 0 < d → 104 * d ≤ n * 1 → Recs n d 0
unfolding size
past-bottom n d D h =
    from-rec n d 0 1 (2 ^ 150) (16 * 2 ^ 149) (16 * 0) (15 * unit_below 0) (15 * unit 0) D (lit< tt) (lit≤ tt) (lit≤ tt)
    (record { low = λ k. nothing (num one n d k) (2 ^ 150 * full d k); at = 342; high = le_trans (beyond n d 104 1 (2 ^ 150) 342 (omega arith) h at-bottom) (le_of_eq (once (num one n d 342))) })
  where
    nothing : (x y : ℕ) → 0 * x ≤ y
    nothing x y = omega arith

    once : (x : ℕ) → x ≡ 1 * x
    once x = omega arith

-- ---- below 2 ^ -25, where e ^ x is from 1 to 1 + 7 / 2 ^ 27
module _ (n d : ℕ) (D : 0 < d) (h : n * 2 ^ 25 ≤ d) where
  under-8 : ExpLe n d (2 ^ 27 + 7) (2 ^ 27)
  unfolding ok num full
  under-8 = lower-le n d 1 (2 ^ 25) (2 ^ 27 + 7) (2 ^ 27) D (lit< tt) (omega arith) (enc-le 1 (2 ^ 25) 0 (2 ^ 27 + 7) (2 ^ 27) (tested 1 (2 ^ 25) 0 (2 ^ 27 + 7) (2 ^ 27) 2 (lit< tt) tt))

  -- 1 in units of 2 ^ -149
  abbrev w : ℕ
  w = 2 ^ 23 * 2 ^ 126

  pub tiny-up : Sums n d w
  unfolding num full size
  tiny-up =
      from-enc n d (2 ^ 27) (2 ^ 27 + 7) (2 ^ 27) (16 * 2 ^ 149) (16 * w) (15 * unit_below w) (15 * unit w) D (lit< tt) (lit≤ tt) (lit≤ tt)
      (record { at = 0; low = le_refl (2 ^ 27 * 1); high = λ k. le_trans (le_of_eq (mul_comm (2 ^ 27) (num one n d k))) (under-8 k) })

  pub tiny-down : Recs n d w
  unfolding num full size
  tiny-down =
      from-rec n d (2 ^ 27) (2 ^ 27 + 7) (2 ^ 27 + 7) (16 * 2 ^ 149) (16 * w) (15 * unit_below w) (15 * unit w) D (lit< tt) (lit≤ tt) (lit≤ tt)
      (record { low = λ k. le_trans (le_of_eq (mul_comm (2 ^ 27) (num one n d k))) (under-8 k); at = 0; high = le_refl ((2 ^ 27 + 7) * 1) })

-- ---- the largest x below the top: e to what is left after 127 times ln 2
abbrev pub last : ℕ
last = 0xb1_7217 * 2 ^ 39 - 127 * ln2

pub last-enc : Enc last (2 ^ 56) 0 (2 ^ 63 - 2 ^ 39) (2 ^ 62)
unfolding ok num full
last-enc = tested last (2 ^ 56) 0 (2 ^ 63 - 2 ^ 39) (2 ^ 62) 25 (lit< tt) tt
