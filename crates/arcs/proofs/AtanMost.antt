-- No angle of the arc tangent is rounded above the f32 nearest to half pi, whose pattern is 0x3fc9_0fdb: only half pi less the table's angle 1 comes near it, and what is added there
-- is at most 2 ^ -7 less a third of its cube.
use mathlib.Core.Path.{◌≡◌, refl, sym, ap, ◌∙◌, subst}
use mathlib.Core.Bool.{◌||◌}
use mathlib.Core.Logic.{◌⊎◌, inl, inr}
use Prim.Native.Nat.{ℕ, zero, suc, ◌+◌, ◌-◌, ◌*◌, ◌/◌, ◌^◌, ◌≤◌, ◌<◌}
use native.Mathlib.Nat.{le_trans, le_of_mul-le-mul_right, lt_of_le_of_lt, lt_of_not-le, not-le_of_lt, lt_of_lt_of_le, div-mul-le_self, mul-le-mul, mul-le-mul_left, mul-le-mul_right}
use native.Mathlib.Omega.{arith}
use lib.Dec.{T, leb, leb→le, lit<, lit≤}
use lib.Pow.{pow_mono}
use lib.Count.{count_leading_zeros, leading_top}
use lib.ListN.{get_or}
use mir.Facts.{or_yes}
use Rattle.cases.proofs.Cases.{split}
use Rattle.cases.proofs.Entries as table
use Rattle.fixed.specs.Fixed.{digits, mant, pattern, scaled_of}
use Rattle.fixed.proofs.Round.{rounded}
use Rattle.arc_tables.specs.Tables.{angles, half_pi}
use Rattle.arcs.specs.Atan.{cube_of, angle_of, gentle_of, steep_of, atan_mag}
use Rattle.fixed.proofs.Sizes.{dig-low, dig-high}
use Rattle.arcs.proofs.Reduce.{within, high-top, high-fine, high-coarse, low-is, mid-is, high_is, i_lt, q-most, at_lt, quo-most}
use Rattle.arcs.proofs.Angle.{cube-high}

-- the largest angle that is rounded to half pi, in units of 2 ^ -56
abbrev pub limit : ℕ
limit = 113187811477159935

-- ---- the tables
gentle-most : (i : ℕ) → i < 128 → get_or angles i 0 ≤ 2 ^ 56
unfolding angles
gentle-most i h = leb→le (get_or angles i 0) (2 ^ 56) (table.entry (λ i A. leb A (2 ^ 56)) angles tt i (omega (arith, h)))

-- half pi less the table's angles
steep-test : (j : ℕ) → j < 130 → T (leb j 1 || leb (half_pi - get_or angles j 0) 112061995738161969)
unfolding angles
steep-test j h = table.entry (λ j A. leb j 1 || leb (half_pi - A) 112061995738161969) angles tt j h

steep-cases : (i : ℕ) → i < 129 → (i ≡ 0) ⊎ (half_pi - get_or angles (i + 1) 0 ≤ 112061995738161969)
steep-cases i h = go (or_yes (leb (i + 1) 1) (leb (half_pi - get_or angles (i + 1) 0) 112061995738161969) (steep-test (i + 1) (omega (arith, h))))
  where
    go : T (leb (i + 1) 1) ⊎ T (leb (half_pi - get_or angles (i + 1) 0) 112061995738161969) → (i ≡ 0) ⊎ (half_pi - get_or angles (i + 1) 0 ≤ 112061995738161969)
    go (inl t) = inl (omega (arith, leb→le (i + 1) 1 t))
    go (inr t) = inr (leb→le (half_pi - get_or angles (i + 1) 0) 112061995738161969 t)

steep-first : half_pi - get_or angles 1 0 ≡ 112624865531860443
unfolding angles
steep-first = refl

-- ---- sums
sum-le : (A q j : ℕ) → A + (q - j) ≤ A + q
sum-le A q j = omega arith

-- the first steep angle and a tangent of at most 2 ^ -7
first-most : (q : ℕ) → q ≤ 2 ^ 49 → 112624865531860443 + (q - cube_of q) ≤ limit
first-most q h = split q (2 ^ 49 - 2 ^ 36) (λ l. le_trans (sum-le 112624865531860443 q (cube_of q)) (omega arith)) (λ l. large (cube_of q) (cube-large l))
  where
    large : (j : ℕ) → 11000000000 ≤ j → 112624865531860443 + (q - j) ≤ limit
    large j g = omega arith

    cube-large : 2 ^ 49 - 2 ^ 36 ≤ q → 11000000000 ≤ cube_of q
    cube-large l = go (cube_of q) (le_trans (mul-le-mul (mul-le-mul l l) l) (cube-high q (le_trans h (lit≤ tt))))
      where
        go : (j : ℕ) → (2 ^ 49 - 2 ^ 36) * (2 ^ 49 - 2 ^ 36) * (2 ^ 49 - 2 ^ 36) ≤ 3 * (2 ^ 56 * 2 ^ 56) * (j + 2) → 11000000000 ≤ j
        go j g = split j 11000000000 (λ k. absurd (not-le_of_lt (lt_of_le_of_lt (mul-le-mul_left (3 * (2 ^ 56 * 2 ^ 56)) (up j k)) (lit< tt)) g)) (λ k. k)
          where
            up : (j : ℕ) → j < 11000000000 → j + 2 ≤ 11000000001
            up j k = omega arith

-- ---- the steep case
module _ (n c d : ℕ) (top : c ≤ n) (pos : 0 < d) (fine : d * 2 ^ 8 ≤ n) (coarse : 129 * (c + n) ≤ d * (2 ^ 18 - 2 ^ 10)) where
  i : ℕ
  i = (2 ^ 7 * c + d) / n

  q : ℕ
  q = (n * ((2 ^ 7 * c + d) / n + 1) - 2 ^ 7 * c) * 2 ^ 56 / (c * ((2 ^ 7 * c + d) / n + 1) + 2 ^ 7 * n)

  q-le : q ≤ 2 ^ 49 + 2 ^ 41
  unfolding q
  q-le = quo-most n c d top pos fine coarse

  -- at the first entry
  q-first : (2 ^ 7 * c + d) / n ≡ 0 → q ≤ 2 ^ 49
  unfolding q
  q-first e = le_of_mul-le-mul_right {k = n} (go ((2 ^ 7 * c + d) / n) e ((n * ((2 ^ 7 * c + d) / n + 1) - 2 ^ 7 * c) * 2 ^ 56 / (c * ((2 ^ 7 * c + d) / n + 1) + 2 ^ 7 * n)) (div-mul-le_self ((n * ((2 ^ 7 * c + d) / n + 1) - 2 ^ 7 * c) * 2 ^ 56) (c * ((2 ^ 7 * c + d) / n + 1) + 2 ^ 7 * n))) (omega arith)
    where
      go : (i : ℕ) → i ≡ 0 → (q : ℕ) → q * (c * (i + 1) + 2 ^ 7 * n) ≤ (n * (i + 1) - 2 ^ 7 * c) * 2 ^ 56 → q * n ≤ 2 ^ 49 * n
      go zero e q h = omega (arith, h)
      go (suc i) e q h = absurd (no i e)
        where
          no : (i : ℕ) → suc i ≡ 0 → ⊥
          no i e = omega arith

  pub steep-most : steep_of n c d ≤ limit
  unfolding i q
  steep-most = go (steep-cases ((2 ^ 7 * c + d) / n) (at_lt n c d top pos fine coarse))
    where
      later : (A q : ℕ) → A ≤ 112061995738161969 → q ≤ 2 ^ 49 + 2 ^ 41 → A + q ≤ limit
      later A q a b = omega arith

      go : ((2 ^ 7 * c + d) / n ≡ 0) ⊎ (half_pi - get_or angles ((2 ^ 7 * c + d) / n + 1) 0 ≤ 112061995738161969) → steep_of n c d ≤ limit
      go (inl e) = subst (λ (A : ℕ). A + (q - cube_of q) ≤ limit) (sym (ap (λ (i : ℕ). half_pi - get_or angles (i + 1) 0) e ∙ steep-first)) (first-most q (q-first e))
      go (inr h) = le_trans (sum-le (half_pi - get_or angles ((2 ^ 7 * c + d) / n + 1) 0) q (cube_of q)) (later (half_pi - get_or angles ((2 ^ 7 * c + d) / n + 1) 0) q h q-le)

-- ---- all of them
pub atan-most : (a : ℕ) → 0x3980_0000 ≤ a → a < 0x4c80_0000 → atan_mag a ≤ limit
atan-most a l h = split a 0x3c00_0000 (λ x. subst (λ (y : ℕ). y ≤ limit) (sym (low-is a x)) (low x)) (λ x. split a 0x3f80_0000 (λ y. subst (λ (z : ℕ). z ≤ limit) (sym (mid-is a x y)) (mid x y)) (λ y. subst (λ (z : ℕ). z ≤ limit) (sym (high_is a x y)) (high y)))
  where
    low : a < 0x3c00_0000 → angle_of 0 (scaled_of a 94) ≤ limit
    low x =
        let w = within (digits a) (a / 2 ^ 23 - 94) 21 25 (dig-low a) (dig-high a) (omega arith) (omega arith) in
        le_trans (alone (scaled_of a 94) (cube_of (scaled_of a 94))) (le_trans w.1 (lit≤ tt))
      where
        alone : (q j : ℕ) → 0 + (q - j) ≤ q
        alone q j = omega arith

    mid : 0x3c00_0000 ≤ a → a < 0x3f80_0000 → gentle_of (scaled_of a 120) (2 ^ 30) (2 ^ 20) ≤ limit
    mid x y =
        let X = scaled_of a 120 in
        let w = within (digits a) (a / 2 ^ 23 - 120) 0 6 (dig-low a) (dig-high a) (omega arith) (omega arith) in
        let least = le_trans (lit≤ tt) (mul-le-mul_right (2 ^ 12) w.0) in
        let i = (2 ^ 7 * X - 2 ^ 20) / 2 ^ 30 in
        let q = (2 ^ 7 * X - i * 2 ^ 30) * 2 ^ 56 / (2 ^ 7 * 2 ^ 30 + i * X) in
        le_trans (sum-le (get_or angles i 0) q (cube_of q)) (sum (get_or angles i 0) q (gentle-most i (i_lt X (2 ^ 30) (2 ^ 20) w.1 (lit< tt) (lit≤ tt) (lit≤ tt) least)) (q-most X (2 ^ 30) (2 ^ 20) w.1 (lit< tt) (lit≤ tt) (lit≤ tt) least))
      where
        sum : (A q : ℕ) → A ≤ 2 ^ 56 → q ≤ 2 ^ 49 + 2 ^ 41 → A + q ≤ limit
        sum A q a b = omega arith

    high : 0x3f80_0000 ≤ a → steep_of (4 * digits a) (2 ^ (152 - a / 2 ^ 23)) (2 ^ 16) ≤ limit
    high x =
        let e = 2 ^ (152 - a / 2 ^ 23) in
        let top : e ≤ 2 ^ 25 = pow_mono {i = 152 - a / 2 ^ 23} {j = 25} (omega arith) in
        steep-most (4 * digits a) e (2 ^ 16) (high-top (digits a) e (dig-low a) top) (lit< tt) (high-fine (digits a) (dig-low a)) (high-coarse (digits a) e (dig-high a) top)

-- ---- and what they are rounded to
pub pattern-most : (s : ℕ) → 2 ^ 30 ≤ s → s ≤ limit → pattern s ≤ 0x3fc9_0fdb
pattern-most s l h =
    let fits : s < 2 ^ 64 = lt_of_le_of_lt h (lit< tt) in
    let top = leading_top 64 s (lt_of_lt_of_le (lit< tt) l) fits in
    split (count_leading_zeros 64 s) 8 (λ k. seven (count_leading_zeros 64 s) top.0 top.1 k top.2) (λ k. more (count_leading_zeros 64 s) (mant s) k (rounded s l fits).most)
  where
    more : (z m : ℕ) → 8 ≤ z → m ≤ 2 ^ 24 → (133 - z) * 2 ^ 23 + m ≤ 0x3fc9_0fdb
    more z m k g = omega arith

    seven : (z j : ℕ) → z + suc j ≡ 64 → z < 8 → 2 ^ j ≤ s → (133 - z) * 2 ^ 23 + (s * 2 ^ z / 2 ^ 39 + 1) / 2 ≤ 0x3fc9_0fdb
    seven z j e k g = at z j e k (lt_of_not-le (λ (x : 57 ≤ j). not-le_of_lt (lt_of_le_of_lt h (lit< tt)) (le_trans (pow_mono x) g)))
      where
        is-seven : (z j : ℕ) → z + suc j ≡ 64 → z < 8 → j < 57 → z ≡ 7
        is-seven z j e k x = omega arith

        at : (z j : ℕ) → z + suc j ≡ 64 → z < 8 → j < 57 → (133 - z) * 2 ^ 23 + (s * 2 ^ z / 2 ^ 39 + 1) / 2 ≤ 0x3fc9_0fdb
        at z j e k x = subst (λ (y : ℕ). (133 - y) * 2 ^ 23 + (s * 2 ^ y / 2 ^ 39 + 1) / 2 ≤ 0x3fc9_0fdb) (sym (is-seven z j e k x)) (omega arith)
