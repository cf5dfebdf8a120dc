-- Powers of two as powers of e: e ^ (E * ln 2) is 2 ^ E, but for 66 * E units of 2 ^ -62 below, since `ln2` is cut off.
use mathlib.Core.Path.{◌≡◌, sym, ap, subst}
use Prim.Native.Nat.{ℕ, zero, suc, ◌+◌, ◌-◌, ◌*◌, ◌^◌, ◌≤◌, ◌<◌, zero-le}
use native.Mathlib.Nat.{le_trans, le_of_eq, mul-le-mul_left, le_of_mul-le-mul_right, pow-suc, sub-add_cancel}
use native.Mathlib.Omega.{arith}
use lib.Dec.{lit<}
use lib.Pow.{pow_pos}
use Rattle.series.specs.Series.{full, num, one}
use Rattle.cases.proofs.Cases.{split}
use Rattle.series.proofs.Exponential.{Enc, ok, tested, times}
use Rattle.series.proofs.ExpFraction.{weaken}
use Rattle.exponential.specs.Tables.{ln2}

-- one factor of all three taken out
pub cancel : (n d lo hi m M : ℕ) → 0 < M → Enc n d (M * lo) (M * hi) (M * m) → Enc n d lo hi m
cancel n d lo hi m M P E = record { at = E.at; low = go lo m (full d E.at) (num one n d E.at) E.low; high = λ k. go m hi (num one n d k) (full d k) (E.high k) }
  where
    go : (a b x y : ℕ) → M * a * x ≤ M * b * y → a * x ≤ b * y
    go a b x y h = le_of_mul-le-mul_right {k = M} (omega (arith, h)) P

pub two : Enc ln2 (2 ^ 56) (2 * (2 ^ 62 - 66)) (2 * 2 ^ 62) (2 ^ 62)
unfolding ok num full
two = tested ln2 (2 ^ 56) (2 * (2 ^ 62 - 66)) (2 * 2 ^ 62) (2 ^ 62) 25 (lit< tt) tt

one_power : Enc (0 * ln2) (2 ^ 56) (2 ^ 0 * (2 ^ 62 - 66 * 0)) (2 ^ 0 * 2 ^ 62) (2 ^ 62)
unfolding ok num full
one_power = tested 0 (2 ^ 56) (2 ^ 62) (2 ^ 62) (2 ^ 62) 1 (lit< tt) tt

module _ (P P' q : ℕ) (e : P' ≡ P * 2) (big : 66 ≤ q) where
  low-go : (u v : ℕ) → u ≤ q → v ≡ u - 66 → q * (P' * v) ≤ P * u * (2 * (q - 66))
  low-go u v h f =
      split u 66
      (λ l. le_trans (le_of_eq (nothing v (omega arith))) zero-le)
      (λ l. some v (q - 66) (omega arith) (sub-add_cancel big))
    where
      nothing : (v : ℕ) → v ≡ 0 → q * (P' * v) ≡ 0
      nothing v g = omega (arith, ap (λ (x : ℕ). q * (P' * x)) g)

      some : (v w : ℕ) → v + 66 ≡ u → w + 66 ≡ q → q * (P' * v) ≤ P * u * (2 * w)
      some v w f g =
          let b : q * v ≤ u * w = omega (arith, ap (λ (x : ℕ). x * v) g, ap (λ (x : ℕ). x * w) f) in
          omega (arith, mul-le-mul_left (P * 2) b, ap (λ (x : ℕ). x * (q * v)) e)

  high-go : P * q * (2 * q) ≡ q * (P' * q)
  high-go = omega (arith, ap (λ (x : ℕ). q * (x * q)) e)

pub two-power : (E : ℕ) → Enc (E * ln2) (2 ^ 56) (2 ^ E * (2 ^ 62 - 66 * E)) (2 ^ E * 2 ^ 62) (2 ^ 62)
two-power zero = one_power
two-power (suc E) =
    cancel (suc E * ln2) (2 ^ 56) (2 ^ suc E * (2 ^ 62 - 66 * suc E)) (2 ^ suc E * 2 ^ 62) (2 ^ 62) (2 ^ 62) (pow_pos 62)
    (weaken (suc E * ln2) (2 ^ 56) (2 ^ E * (2 ^ 62 - 66 * E) * (2 * (2 ^ 62 - 66))) (2 ^ E * 2 ^ 62 * (2 * 2 ^ 62)) (2 ^ 62 * 2 ^ 62) (2 ^ 62 * (2 ^ suc E * (2 ^ 62 - 66 * suc E))) (2 ^ 62 * (2 ^ suc E * 2 ^ 62))
    (low-go (2 ^ E) (2 ^ suc E) (2 ^ 62) (pow-suc 2 E) (omega arith) (2 ^ 62 - 66 * E) (2 ^ 62 - 66 * suc E) (omega arith) (omega arith))
    (le_of_eq (high-go (2 ^ E) (2 ^ suc E) (2 ^ 62) (pow-suc 2 E) (omega arith)))
    (subst (λ (x : ℕ). Enc x (2 ^ 56) (2 ^ E * (2 ^ 62 - 66 * E) * (2 * (2 ^ 62 - 66))) (2 ^ E * 2 ^ 62 * (2 * 2 ^ 62)) (2 ^ 62 * 2 ^ 62)) (sym (line E))
    (times (E * ln2) ln2 (2 ^ 56) (2 ^ E * (2 ^ 62 - 66 * E)) (2 ^ E * 2 ^ 62) (2 ^ 62) (2 * (2 ^ 62 - 66)) (2 * 2 ^ 62) (2 ^ 62) (pow_pos 56) (two-power E) two)))
  where
    line : (E : ℕ) → suc E * ln2 ≡ E * ln2 + ln2
    line E = omega arith
