-- `power_of R` is e ^ (R / 2 ^ 56) in units of 2 ^ -62, at most 2 ^ 37 units too small: the table's entry, the series, and the digits of R that neither sees.
use mathlib.Core.Path.{◌≡◌, sym, subst, subst₂}
use mathlib.Core.Bool.{Bool}
use Prim.Native.Nat.{ℕ, ◌+◌, ◌-◌, ◌*◌, ◌/◌, ◌%◌, ◌^◌, ◌≤◌, ◌<◌}
use native.Mathlib.Nat.{le_trans, le_of_eq, mul_assoc, mul_comm, mul-le-mul, mul-le-mul_right, le_of_mul-le-mul_right}
use native.Mathlib.Omega.{arith}
use lib.Dec.{lit<}
use lib.Pow.{pow_pos}
use lib.ListN.{get_or}
use Rattle.series.specs.Series.{full, num, one}
use Rattle.series.proofs.Addition.{full-pos}
use Rattle.cases.proofs.Entries.{entry}
use Rattle.series.proofs.Exponential.{Enc, ok, tested, enclosed, times}
use Rattle.series.proofs.ExpFraction.{scale, weaken}
use Rattle.series.proofs.Fractions.{num-mono}
use Rattle.exponential.specs.Tables.{ln2, sixteenths}
use Rattle.exponential.specs.Exp.{rise_of, factor, left, power_of}
use Rattle.exponential.proofs.ExpRange.{rise-le, entry-ge, entry-le}
use Rattle.series.proofs.Terms.{pow-1, full-1}
use Rattle.exponential_bounds.proofs.Terms.{num-1, rise-enc}
use Rattle.exponential_bounds.proofs.PowerOfTwo.{cancel, two}

-- ---- the table
right : ℕ → ℕ → Bool
unfolding ok
right j F = ok j 16 F (F + 1) (2 ^ 62) 25

pub tabled : (j : ℕ) → j < 12 → Enc j 16 (get_or sixteenths j 0) (get_or sixteenths j 0 + 1) (2 ^ 62)
unfolding right sixteenths num full ok
tabled j h = tested j 16 (get_or sixteenths j 0) (get_or sixteenths j 0 + 1) (2 ^ 62) 25 (lit< tt) (entry right sixteenths tt j h)

-- ---- e ^ t about 1: t = v / 2 ^ 56 below 2 ^ -36
tiny : (v : ℕ) → v ≤ 2 ^ 20 → Enc v (2 ^ 56) (2 ^ 35) (2 ^ 35 + 1) (2 ^ 35)
tiny v h =
    enclosed v (2 ^ 56) (2 ^ 35) (2 ^ 35 + 1) (2 ^ 35) 1 (lit< tt) (omega arith)
    (subst₂ (λ (x y : ℕ). 2 ^ 35 * x ≤ 2 ^ 35 * y) (sym (full-1 (2 ^ 56))) (sym (num-1 v (2 ^ 56))) (omega arith))
    (subst₂ (λ (x y : ℕ). 2 ^ 35 * (y + v ^ 1) ≤ (2 ^ 35 + 1) * x) (sym (full-1 (2 ^ 56))) (sym (num-1 v (2 ^ 56))) (subst (λ (z : ℕ). 2 ^ 35 * (2 ^ 56 + v + z) ≤ (2 ^ 35 + 1) * 2 ^ 56) (sym (pow-1 v)) (omega arith)))

-- ---- F * (1 + p), as `power_of` has it: h is F + G * p / 16 with G the upper half of F
module _ (F S : ℕ) (top : F ≤ 2 ^ 63 - 2 ^ 46) (most : S ≤ 2 ^ 32 + 2 ^ 28) where
  abbrev h : ℕ
  h = F + F / 2 ^ 32 * S / 2 ^ 4

  low : h * 2 ^ 36 ≤ F * (2 ^ 36 + S)
  low = let a : F / 2 ^ 32 * 2 ^ 32 ≤ F = omega arith in go (F / 2 ^ 32) (mul-le-mul_right S a)
    where
      go : (G : ℕ) → G * 2 ^ 32 * S ≤ F * S → (F + G * S / 2 ^ 4) * 2 ^ 36 ≤ F * (2 ^ 36 + S)
      go G a = omega (arith, a)

  product : F * (2 ^ 36 + S) ≤ h * 2 ^ 36 + 2 ^ 65
  product = let a : F ≤ F / 2 ^ 32 * 2 ^ 32 + 2 ^ 32 = omega arith in go (F / 2 ^ 32) (mul-le-mul_right S a)
    where
      go : (G : ℕ) → F * S ≤ (G * 2 ^ 32 + 2 ^ 32) * S → F * (2 ^ 36 + S) ≤ (F + G * S / 2 ^ 4) * 2 ^ 36 + 2 ^ 65
      go G a = omega (arith, a, most)

  high : (F + 1) * ((2 ^ 36 + S + 600) * (2 ^ 35 + 1)) ≤ (h + 2 ^ 37) * (2 ^ 36 * 2 ^ 35)
  high =
      let a : (F + 1) * (2 ^ 36 + S + 600) ≤ h * 2 ^ 36 + 3 * 2 ^ 71 = go (F / 2 ^ 32 * S / 2 ^ 4) product in
      let b : h ≤ 2 ^ 64 = small in
      le_trans (le_of_eq (sym (mul_assoc (F + 1) (2 ^ 36 + S + 600) (2 ^ 35 + 1)))) (fin h ((F + 1) * (2 ^ 36 + S + 600)) a b)
    where
      go : (x : ℕ) → F * (2 ^ 36 + S) ≤ (F + x) * 2 ^ 36 + 2 ^ 65 → (F + 1) * (2 ^ 36 + S + 600) ≤ (F + x) * 2 ^ 36 + 3 * 2 ^ 71
      go x p = omega (arith, p, top, most)

      small : h ≤ 2 ^ 64
      small = let g : F / 2 ^ 32 ≤ 2 ^ 31 = omega arith in omega (arith, mul-le-mul g most)

      fin : (h x : ℕ) → x ≤ h * 2 ^ 36 + 3 * 2 ^ 71 → h ≤ 2 ^ 64 → x * (2 ^ 35 + 1) ≤ (h + 2 ^ 37) * (2 ^ 36 * 2 ^ 35)
      fin h x p q = omega arith

module _ (R : ℕ) (r : R ≤ ln2) where
  abbrev j : ℕ
  j = R / 2 ^ 52

  abbrev u : ℕ
  u = left R

  abbrev v : ℕ
  v = R % 2 ^ 20

  abbrev F : ℕ
  F = factor R

  abbrev S : ℕ
  S = rise_of u

  J : j < 12
  J = omega arith

  U : u < 2 ^ 32
  U = omega arith

  parts : Enc R (2 ^ 56) (F * ((2 ^ 36 + S) * 2 ^ 35)) ((F + 1) * ((2 ^ 36 + S + 600) * (2 ^ 35 + 1))) (2 ^ 62 * (2 ^ 36 * 2 ^ 35))
  parts =
      subst (λ (x : ℕ). Enc x (2 ^ 56) (F * ((2 ^ 36 + S) * 2 ^ 35)) ((F + 1) * ((2 ^ 36 + S + 600) * (2 ^ 35 + 1))) (2 ^ 62 * (2 ^ 36 * 2 ^ 35))) (whole R)
      (times (j * 2 ^ 52) (u * 2 ^ 20 + v) (2 ^ 56) F (F + 1) (2 ^ 62) ((2 ^ 36 + S) * 2 ^ 35) ((2 ^ 36 + S + 600) * (2 ^ 35 + 1)) (2 ^ 36 * 2 ^ 35) (pow_pos 56)
      (scale j 16 (2 ^ 52) F (F + 1) (2 ^ 62) (tabled j J))
      (times (u * 2 ^ 20) v (2 ^ 56) (2 ^ 36 + S) (2 ^ 36 + S + 600) (2 ^ 36) (2 ^ 35) (2 ^ 35 + 1) (2 ^ 35) (pow_pos 56) (scale u (2 ^ 36) (2 ^ 20) (2 ^ 36 + S) (2 ^ 36 + S + 600) (2 ^ 36) (rise-enc u U)) (tiny v (omega arith))))
    where
      whole : (R : ℕ) → R / 2 ^ 52 * 2 ^ 52 + (R % 2 ^ 52 / 2 ^ 20 * 2 ^ 20 + R % 2 ^ 20) ≡ R
      whole R = omega arith

  pub power-enc : Enc R (2 ^ 56) (power_of R) (power_of R + 2 ^ 37) (2 ^ 62)
  unfolding power_of
  power-enc =
      let h = F + F / 2 ^ 32 * S / 2 ^ 4 in
      let top = entry-le j J in
      let most = rise-le u U in
      cancel R (2 ^ 56) h (h + 2 ^ 37) (2 ^ 62) (2 ^ 36 * 2 ^ 35) (lit< tt)
      (subst (λ (m : ℕ). Enc R (2 ^ 56) (2 ^ 36 * 2 ^ 35 * h) (2 ^ 36 * 2 ^ 35 * (h + 2 ^ 37)) m) (mul_comm (2 ^ 62) (2 ^ 36 * 2 ^ 35))
      (weaken R (2 ^ 56) (F * ((2 ^ 36 + S) * 2 ^ 35)) ((F + 1) * ((2 ^ 36 + S + 600) * (2 ^ 35 + 1))) (2 ^ 62 * (2 ^ 36 * 2 ^ 35)) (2 ^ 36 * 2 ^ 35 * h) (2 ^ 36 * 2 ^ 35 * (h + 2 ^ 37))
      (lower F (2 ^ 36 + S) h (low F S top most))
      (le_trans (high F S top most) (le_of_eq (mul_comm (h + 2 ^ 37) (2 ^ 36 * 2 ^ 35))))
      parts))
    where
      lower : (F x h : ℕ) → h * 2 ^ 36 ≤ F * x → 2 ^ 36 * 2 ^ 35 * h ≤ F * (x * 2 ^ 35)
      lower F x h p = omega (arith, p)

  -- from 1 to 2
  pub power-ge : 2 ^ 62 ≤ power_of R
  unfolding power_of
  power-ge = go F (F / 2 ^ 32 * S / 2 ^ 4) (entry-ge j J)
    where
      go : (F x : ℕ) → 2 ^ 62 ≤ F → 2 ^ 62 ≤ F + x
      go F x h = omega arith

  -- below each upper bound of a later power
  pub power-under : (R' hi : ℕ) → R ≤ R' → ((k : ℕ) → 2 ^ 62 * num one R' (2 ^ 56) k ≤ hi * full (2 ^ 56) k) → power_of R ≤ hi
  power-under R' hi l H =
      let E = power-enc in
      let k = E.at in
      go (power_of R) (num one R (2 ^ 56) k) (num one R' (2 ^ 56) k) (full (2 ^ 56) k) (full-pos (2 ^ 56) k (pow_pos 56)) E.low (num-mono one R R' (2 ^ 56) k l) (H k)
    where
      go : (h x y f : ℕ) → 0 < f → h * f ≤ 2 ^ 62 * x → x ≤ y → 2 ^ 62 * y ≤ hi * f → h ≤ hi
      go h x y f P a b c = le_of_mul-le-mul_right {k = f} (omega arith) P

  pub power_le : power_of R ≤ 2 ^ 63
  power_le = power-under ln2 (2 * 2 ^ 62) r two.high
