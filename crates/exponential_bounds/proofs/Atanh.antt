-- ln ((1 + s) / (1 - s)) is 2 (s + s³ / 3 + s⁵ / 5) but for 2 ^ -27 of it, for s up to 1/32.
-- With s = n / D the bounds hold at n = 0, and one step of n multiplies (D + n) / (D - n) by 1 + 2 D / ((D - n - 1) (D + n)), and e to the bounds' growth is on the right side of that: 1 + w ≤ e ^ w ≤ 1 + w + w².
use mathlib.Core.Path.{◌≡◌, sym, ap, subst, subst₂}
use Prim.Native.Nat.{ℕ, zero, suc, ◌+◌, ◌-◌, ◌*◌, ◌^◌, ◌≤◌, ◌<◌}
use native.Mathlib.Nat.{le_trans, le_of_eq, le_refl, mul-le-mul, mul-le-mul_left, mul-le-mul_right, mul-pos, le_intro}
use native.Mathlib.Omega.{arith}
use lib.Dec.{lit<}
use Rattle.series.specs.Series.{full, num, one, ExpLe, ExpGe}
use Rattle.series.proofs.Exponential.{enclosed}
use Rattle.exponential_bounds.specs.OwnSeries.{three_terms, LnOwnSeries}
use Rattle.series.proofs.Terms.{pow-1, pow-2, full-1}
use Rattle.exponential_bounds.proofs.Terms.{num-1}
use Rattle.exponential_bounds.proofs.Exponents.{zero-le, le-times, ge-times, same-le, same-ge, enc-le}

-- ---- 1 + w + w² / 2 at w / Y
full-2 : (Y : ℕ) → full Y 2 ≡ 2 * (Y * Y)
unfolding full
full-2 Y = omega arith

num-2 : (w Y : ℕ) → num one w Y 2 ≡ 2 * (Y * Y) + 2 * (w * Y) + w * w
unfolding num
num-2 w Y = omega (arith, ap (λ (x : ℕ). x * Y) (pow-1 w), pow-2 w)

-- e ^ (w / Y) ≤ (s + t) / s where s * (w Y + w²) ≤ t * Y²
small-le : (w Y s t : ℕ) → 0 < Y → w ≤ Y → s * (w * Y + w * w) ≤ t * (Y * Y) → ExpLe w Y (s + t) s
small-le w Y s t P h k =
    enc-le w Y 0 (s + t) s
    (enclosed w Y 0 (s + t) s 2 P (omega arith) (omega arith)
    (subst₂ (λ (x y : ℕ). s * (y + w ^ 2) ≤ (s + t) * x) (sym (full-2 Y)) (sym (num-2 w Y)) (subst (λ (z : ℕ). s * (2 * (Y * Y) + 2 * (w * Y) + w * w + z) ≤ (s + t) * (2 * (Y * Y))) (sym (pow-2 w)) (omega (arith, k)))))

-- (s + t) / s ≤ 1 + w / Y ≤ e ^ (w / Y)
small-ge : (w Y s t : ℕ) → t * Y ≤ w * s → ExpGe w Y (s + t) s
small-ge w Y s t h = (1, subst₂ (λ (x y : ℕ). (s + t) * x ≤ y * s) (sym (full-1 Y)) (sym (num-1 w Y)) (omega (arith, h)))

-- its growth from n to n + 1, and D⁶ times that of the series cut after s⁴: 1 + s² + s⁴ = (1 - s⁶) / (1 - s²)
abbrev growth : (n E : ℕ) → ℕ
growth n E = 15 * (E * E) + 5 * (3 * (n * n) + 3 * n + 1) * E + 3 * (5 * (n * n * n * n) + 10 * (n * n * n) + 10 * (n * n) + 5 * n + 1)

abbrev slope : (N E : ℕ) → ℕ
slope N E = E * E + N * N * E + N * N * (N * N)

grown : (n E : ℕ) → three_terms (suc n) E ≡ three_terms n E + growth n E
grown n E = omega arith

growth-le : (n E : ℕ) → growth n E ≤ 15 * slope (suc n) E
growth-le n E = omega arith

growth-ge : (n E : ℕ) → 15 * slope n E ≤ growth n E
growth-ge n E = omega arith

cube : (K M : ℕ) → K * ((K + M) * (K + M) + M * (K + M) + M * M) + M * M * M ≡ (K + M) * (K + M) * (K + M)
cube K M = omega arith

-- K = D² - N²
slope-cube : (K N E : ℕ) → K + N * N ≡ E → K * slope N E + N * N * (N * N) * (N * N) ≡ E * E * E
slope-cube K N E e = subst (λ (x : ℕ). K * slope N x + N * N * (N * N) * (N * N) ≡ x * x * x) e (cube K (N * N))

slope-le : (N E : ℕ) → 2 * (N * N) ≤ E → slope N E ≤ 2 * (E * E)
slope-le N E h = go (N * N) h
  where
    go : (M : ℕ) → 2 * M ≤ E → E * E + M * E + M * M ≤ 2 * (E * E)
    go M k = omega (arith, mul-le-mul_right E k, mul-le-mul_left M k)

-- what is left of C after m, a 2 ^ 30th part, and four of its 2 ^ 48th parts
outweighs : (x r m C F : ℕ) → x + r + m ≡ C → m * 2 ^ 30 ≤ C → r ≤ 4 * F → F * 2 ^ 48 ≤ C → 2 ^ 27 * C ≤ (2 ^ 27 + 1) * x
outweighs x r m C F a b c d = sum x r m C a (half m C b) (quarter r F C c d)
  where
    half : (m C : ℕ) → m * 2 ^ 30 ≤ C → 2 * ((2 ^ 27 + 1) * m) ≤ C
    half m C h = omega arith

    quarter : (r F C : ℕ) → r ≤ 4 * F → F * 2 ^ 48 ≤ C → 2 * ((2 ^ 27 + 1) * r) ≤ C
    quarter r F C h k = omega arith

    sum : (x r m C : ℕ) → x + r + m ≡ C → 2 * ((2 ^ 27 + 1) * m) ≤ C → 2 * ((2 ^ 27 + 1) * r) ≤ C → 2 ^ 27 * C ≤ (2 ^ 27 + 1) * x
    sum x r m C e h k = omega arith

module _ (D : ℕ) (big : 2 ^ 48 ≤ D) where
  abbrev E : ℕ
  E = D * D

  abbrev pub unit : ℕ
  unit = 15 * (E * E * D) * 2 ^ 27

  unit-pos : 0 < unit
  unit-pos = mul-pos {m = 15 * (E * E * D)} (mul-pos {m = 15} (lit< tt) (mul-pos (mul-pos (mul-pos P P) (mul-pos P P)) P)) (lit< tt)
    where
      P : 0 < D
      P = omega arith

  abbrev pub lower : ℕ → ℕ
  lower n = 2 * (2 ^ 27 - 1) * three_terms n E

  abbrev pub upper : ℕ → ℕ
  upper n = 2 * (2 ^ 27 + 1) * three_terms n E

  -- ---- one step: N = n + 1 and z = D - N
  module _ (n z : ℕ) (e : D ≡ suc n + z) (h : 32 * suc n ≤ D) where
    abbrev s : ℕ
    s = z * (D + n)

    abbrev w : ℕ
    w = 2 * (2 ^ 27 - 1) * growth n E

    abbrev v : ℕ
    v = 2 * (2 ^ 27 + 1) * growth n E

    half : (N : ℕ) → N ≤ suc n → 2 * (N * N) ≤ E
    half N k = let a : 2 * N ≤ D = omega arith in omega (arith, mul-le-mul a a)

    -- z (D + n) ≤ z (D + N) = D² - N²
    slope-s : s * slope (suc n) E ≤ E * E * E
    slope-s =
        let K = z * (D + suc n) in
        let k : K + suc n * suc n ≡ E = omega (arith, ap (λ (x : ℕ). x * D) e, ap (λ (x : ℕ). suc n * x) e) in
        let a : s ≤ K = mul-le-mul_left z (omega arith) in
        le_trans (mul-le-mul_right (slope (suc n) E) a) (le_intro (K * slope (suc n) E) (suc n * suc n * (suc n * suc n) * (suc n * suc n)) (slope-cube K (suc n) E k))

    -- 2 ^ 27 w ≤ unit
    w-small : 2 ^ 27 * w ≤ unit
    w-small = go (E * E) (growth n E) (slope (suc n) E) (growth-le n E) (slope-le (suc n) E (half (suc n) (le_refl (suc n))))
      where
        go : (F g t : ℕ) → g ≤ 15 * t → t ≤ 2 * F → 2 ^ 27 * (2 * (2 ^ 27 - 1) * g) ≤ 15 * (F * D) * 2 ^ 27
        go F g t a b = omega (arith, mul-le-mul_left F big)

    s-w : s * w ≤ 30 * (2 ^ 27 - 1) * (E * E * E)
    s-w = go s (growth n E) (slope (suc n) E) (E * E * E) (growth-le n E) slope-s
      where
        go : (s g t C : ℕ) → g ≤ 15 * t → s * t ≤ C → s * (2 * (2 ^ 27 - 1) * g) ≤ 30 * (2 ^ 27 - 1) * C
        go s g t C a b = omega (arith, mul-le-mul_left s a, b)

    up_step : ExpLe w unit (s + 2 * D) s
    up_step =
        small-le w unit s (2 * D) unit-pos (omega (arith, w-small))
        (go s w unit (E * E * E) s-w w-small (line E))
      where
        line : (F : ℕ) → 2 * D * (15 * (F * F * D) * 2 ^ 27) ≡ 30 * 2 ^ 27 * (F * F * (D * D))
        line F = omega arith

        go : (s w Y C : ℕ) → s * w ≤ 30 * (2 ^ 27 - 1) * C → 2 ^ 27 * w ≤ Y → 2 * D * Y ≡ 30 * 2 ^ 27 * C → s * (w * Y + w * w) ≤ 2 * D * (Y * Y)
        go s w Y C a b c =
            let t : (2 ^ 27 - 1) * (Y + w) ≤ 2 ^ 27 * Y = omega arith in
            omega (arith, mul-le-mul_right (Y + w) a, mul-le-mul_left (30 * C) t, ap (λ (x : ℕ). x * Y) c)

    -- D⁶ is large against n⁶ and (D + n) slope
    down_step : ExpGe v unit (s + 2 * D) s
    down_step =
        small-ge v unit s (2 * D)
        (go s (growth n E) (slope n E) (E * E * E) (E * E * D) (n * n * (n * n) * (n * n)) ((D + n) * slope n E) (growth-ge n E) whole six seven (line E))
      where
        line : (F : ℕ) → F * F * D * D ≡ F * F * (D * D)
        line F = omega arith

        K : ℕ
        K = (z + 1) * (D + n)

        K-is : (z + 1) * (D + n) + n * n ≡ E
        K-is = omega (arith, ap (λ (x : ℕ). x * D) e, ap (λ (x : ℕ). n * x) e)

        whole : s * slope n E + (D + n) * slope n E + n * n * (n * n) * (n * n) ≡ E * E * E
        whole = omega (arith, slope-cube ((z + 1) * (D + n)) n E K-is)

        -- (32 n)⁶ ≤ D⁶
        six : n * n * (n * n) * (n * n) * 2 ^ 30 ≤ E * E * E
        six =
            let a : 32 * n ≤ D = omega arith in
            let b : 1024 * (n * n) ≤ E = omega (arith, mul-le-mul a a) in
            let c : 0x10_0000 * (n * n * (n * n)) ≤ E * E = omega (arith, mul-le-mul b b) in
            omega (arith, mul-le-mul c b)

        seven : (D + n) * slope n E ≤ 4 * (E * E * D)
        seven =
            let a : D + n ≤ 2 * D = omega arith in
            le_trans (mul-le-mul a (slope-le n E (half n (omega arith)))) (le_of_eq (turn D (E * E)))
          where
            turn : (D F : ℕ) → 2 * D * (2 * F) ≡ 4 * (F * D)
            turn D F = omega arith

        go : (s g t C F m r : ℕ) → 15 * t ≤ g → s * t + r + m ≡ C → m * 2 ^ 30 ≤ C → r ≤ 4 * F → F * D ≡ C → 2 * D * (15 * F * 2 ^ 27) ≤ 2 * (2 ^ 27 + 1) * g * s
        go s g t C F m r a b c d f =
            let x = outweighs (s * t) r m C F b c d (le_trans (mul-le-mul_left F big) (le_of_eq f)) in
            le_trans (le_of_eq (turn F C f)) (last g s (s * t) C x (le_trans (le_of_eq (swap s t)) (mul-le-mul_right s a)))
          where
            turn : (F C : ℕ) → F * D ≡ C → 2 * D * (15 * F * 2 ^ 27) ≡ 30 * (2 ^ 27 * C)
            turn F C p = omega (arith, p)

            swap : (s t : ℕ) → 15 * (s * t) ≡ 15 * t * s
            swap s t = omega arith

            last : (g s y C : ℕ) → 2 ^ 27 * C ≤ (2 ^ 27 + 1) * y → 15 * y ≤ g * s → 30 * (2 ^ 27 * C) ≤ 2 * (2 ^ 27 + 1) * g * s
            last g s y C p q = omega (arith, p, q)

    -- (D + n) / (D - n) times (s + 2 D) / s is (D + N) / (D - N)
    joined : (D + n) * (s + 2 * D) * z ≡ (D + suc n) * (suc z * s)
    joined = omega (arith, ap (λ (x : ℕ). x * (z * (D + n))) e, ap (λ (x : ℕ). x * z) e)

  -- ---- from 0 up: z = D - n
  pub atanh-le : (n z : ℕ) → D ≡ n + z → 32 * n ≤ D → ExpLe (lower n) unit (D + n) z
  atanh-le zero z e h =
      subst (λ (x : ℕ). ExpLe x unit (D + 0) z) (none E) (same-le 0 unit 1 1 (D + 0) z (lit< tt) (omega arith) (zero-le unit))
    where
      none : (F : ℕ) → 0 ≡ 2 * (2 ^ 27 - 1) * three_terms 0 F
      none F = omega arith
  atanh-le (suc n) z e h =
      subst (λ (x : ℕ). ExpLe x unit (D + suc n) z) (sum (three_terms n E) (growth n E) (three_terms (suc n) E) (grown n E))
      (same-le (lower n + w n z e h) unit ((D + n) * (s n z e h + 2 * D)) (suc z * s n z e h) (D + suc n) z (mul-pos {m = suc z} (omega arith) s-pos) (joined n z e h)
      (le-times (lower n) (w n z e h) unit unit-pos (D + n) (suc z) (s n z e h + 2 * D) (s n z e h) (atanh-le n (suc z) (omega arith) (omega arith)) (up_step n z e h)))
    where
      s-pos : 0 < z * (D + n)
      s-pos = mul-pos (omega (arith, e, h)) (omega arith)

      sum : (a g b : ℕ) → b ≡ a + g → 2 * (2 ^ 27 - 1) * a + 2 * (2 ^ 27 - 1) * g ≡ 2 * (2 ^ 27 - 1) * b
      sum a g b p = omega arith

  pub atanh-ge : (n z : ℕ) → D ≡ n + z → 32 * n ≤ D → ExpGe (upper n) unit (D + n) z
  unfolding num full
  atanh-ge zero z e h = (0, go (D + 0) z (omega arith))
    where
      go : (a b : ℕ) → a ≡ b → a * 1 ≤ 1 * b
      go a b p = omega arith
  atanh-ge (suc n) z e h =
      subst (λ (x : ℕ). ExpGe x unit (D + suc n) z) (sum (three_terms n E) (growth n E) (three_terms (suc n) E) (grown n E))
      (same-ge (upper n + v n z e h) unit ((D + n) * (s n z e h + 2 * D)) (suc z * s n z e h) (D + suc n) z (mul-pos {m = suc z} (omega arith) s-pos) (joined n z e h)
      (ge-times (upper n) (v n z e h) unit unit-pos (D + n) (suc z) (s n z e h + 2 * D) (s n z e h) (atanh-ge n (suc z) (omega arith) (omega arith)) (down_step n z e h)))
    where
      s-pos : 0 < z * (D + n)
      s-pos = mul-pos (omega (arith, e, h)) (omega arith)

      sum : (a g b : ℕ) → b ≡ a + g → 2 * (2 ^ 27 + 1) * a + 2 * (2 ^ 27 + 1) * g ≡ 2 * (2 ^ 27 + 1) * b
      sum a g b p = omega arith

pub ln-own-series : LnOwnSeries
ln-own-series d n z big e h = (atanh-le d big n z e h, atanh-ge d big n z e h)
