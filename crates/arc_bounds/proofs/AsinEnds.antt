-- The two ends of the arc sine's angle, 15/16 of a unit below and above: the tangent at the lower one is at most X over the cosine and 16 units, at the upper one at least X over the cosine less 8.
-- The sine of a small angle w is w - w³ / 6, and s + s³ / 6 undoes that within a small part of the 28 v that rounding leaves to spare.
-- What the way from these tangents to the sine needs is in SineRoom.
use mathlib.Core.Path.{◌≡◌, refl, sym, ap, subst}
use mathlib.Core.Logic.{◌⊎◌, inl, inr}
use Prim.Native.Nat.{ℕ, ◌+◌, ◌-◌, ◌*◌, ◌/◌, ◌^◌, ◌≤◌, ◌<◌}
use native.Mathlib.Nat.{le_trans, le_of_eq, le_of_lt, le_dest, mul_assoc, mul-pos, mul-le-mul, mul-le-mul_left, mul-le-mul_right, le_of_mul-le-mul_right, div-mul-le_self, sub-add_cancel, sub-le}
use native.Mathlib.Omega.{arith}
use lib.Dec.{lit≤}
use lib.Pow.{pow_pos}
use Rattle.series.specs.Series.{SinLe, SinGe}
use Rattle.cases.proofs.Cases.{split}
use Rattle.arcs.specs.Asin.{sixth_of, arc_of}
use Rattle.arcs.proofs.Angle.{Sizes, wide-le, wide_ok}
use Rattle.arc_tables.proofs.Angles.{Entry}
use Rattle.arcs.proofs.Cosine.{Cosine}
use Rattle.arcs.proofs.Step as step
use Rattle.scalar.proofs.WholeRoot.{square-back}
use Rattle.arc_bounds.proofs.SmallCircle.{twice, W², g-w, circle-low, circle-high, under-tangent, over-tangent, sides}

-- the sine X and the cosine 8 r, brought by the table's angle A to a small angle whose sine is s * 2 ^ -56
pub record Turned (X r A s : ℕ) : Type 0 where
  pub x₀ : ℕ
  pub y₀ : ℕ
  pub R : ℕ
  pub entry : Entry (2 ^ 25) x₀ y₀ A
  pub norm-low : x₀ * x₀ + y₀ * y₀ ≤ 2 ^ 64
  pub norm-high : 2 ^ 64 - 2 ^ 34 ≤ x₀ * x₀ + y₀ * y₀
  pub e_r : R + y₀ * (8 * r) ≡ x₀ * X
  pub R-large : y₀ * 16 ≤ R
  pub s-low : s * 2 ^ 11 ≤ R
  pub s-high : R ≤ (s + 1) * 2 ^ 11
  pub most : s ≤ 2 ^ 49
  pub large : 2 ^ 43 ≤ A + s
  pub way : (A ≡ 0) ⊎ (2 ^ 38 ≤ s)

-- ---- s³ / 6: the cut of s, of its square, of the cube and of the sixth
cut_low : (s t m u j : ℕ) → t * 2 ^ 24 ≤ s → m * 2 ^ 20 ≤ t * t → u * 2 ^ 20 ≤ m * t → j * 6 ≤ u → 6 * (2 ^ 56 * 2 ^ 56) * j ≤ s * s * s
cut_low s t m u j a b c d = omega (arith, mul-le-mul (mul-le-mul a a) a, mul-le-mul_right t b, c, d)

cut_high : (s t m u j : ℕ) → s ≤ 2 ^ 49 → t * 2 ^ 24 ≤ s → s ≤ t * 2 ^ 24 + 2 ^ 24 → t * t ≤ m * 2 ^ 20 + 2 ^ 20 → m * t ≤ u * 2 ^ 20 + 2 ^ 20 → u ≤ j * 6 + 6 → s * s * s ≤ 6 * (2 ^ 56 * 2 ^ 56) * (j + 520)
cut_high s t m u j most z a b c d =
    let l : t ≤ 2 ^ 25 = omega (arith, z, most) in
    omega (arith, mul-le-mul (mul-le-mul a a) a, mul-le-mul_right t b, c, d, mul-le-mul l l, l)

sixth-low : (s : ℕ) → 6 * (2 ^ 56 * 2 ^ 56) * sixth_of s ≤ s * s * s
sixth-low s =
    let t = s / 2 ^ 24 in
    let m = t * t / 2 ^ 20 in
    let u = m * t / 2 ^ 20 in
    cut_low s t m u (u / 6) (div-mul-le_self s (2 ^ 24)) (div-mul-le_self (t * t) (2 ^ 20)) (div-mul-le_self (m * t) (2 ^ 20)) (div-mul-le_self u 6)

sixth-high : (s : ℕ) → s ≤ 2 ^ 49 → s * s * s ≤ 6 * (2 ^ 56 * 2 ^ 56) * (sixth_of s + 520)
sixth-high s most =
    let t = s / 2 ^ 24 in
    let m = t * t / 2 ^ 20 in
    let u = m * t / 2 ^ 20 in
    cut_high s t m u (u / 6) most (div-mul-le_self s (2 ^ 24)) (omega arith) (omega arith) (omega arith) (omega arith)

sixth-small : (s : ℕ) → s ≤ 2 ^ 49 → 86400 * sixth_of s ≤ s
sixth-small s most = le_of_mul-le-mul_right {k = 2 ^ 98} (go (2 ^ 98) (sixth_of s) (sixth-low s) (mul-le-mul most most)) (pow_pos 98)
  where
    go : (T j : ℕ) → 6 * (2 ^ 14 * T) * j ≤ s * s * s → s * s ≤ T → 86400 * j * T ≤ s * T
    go T j a b = omega (arith, a, mul-le-mul_right s b)

fits : (A s p o v w j : ℕ) → 86400 * j ≤ s → A + w ≡ 64 * p + 60 * v → 64 * p ≤ A + (s + j) + 32 * o → v ≤ 2 * o → o ≤ 2 ^ 29 → s ≤ 2 ^ 49 → 120 * w ≤ 2 ^ 56
fits A s p o v w j a b c d e f = omega arith

-- ---- the sine σ = w - g of a small angle w against s, where w lies 28 v below or above s + j; g is w³ / 6 and j is s³ / 6, BB the unit's square
below-sine : (s j w g σ v BB : ℕ) → 0 < BB → 6 * BB * j ≤ s * s * s → w * w * w ≤ (g + 1) * (6 * BB) → 14400 * (s * s) ≤ BB → σ + g ≡ w → w + 28 * v ≤ s + j → 2 ^ 12 ≤ 2 * v + 2 → σ + 27 * v ≤ s
below-sine s j w g σ v BB P J G S e h big = split w s (λ l. short (le_dest (le_of_lt l))) (λ l. long (le_of_mul-le-mul_right {k = 6 * BB} (omega (arith, J, G, mul-le-mul (mul-le-mul l l) l)) (mul-pos (omega arith) P)))
  where
    long : j ≤ g + 1 → σ + 27 * v ≤ s
    long k = omega arith

    short : (d : ℕ) × (w + d ≡ s) → σ + 27 * v ≤ s
    short o = end o.0 o.1 (le_of_mul-le-mul_right {k = BB} (omega (arith, J, G, cube, mul-le-mul_left o.0 S)) P)
      where
        go : (d : ℕ) → (w + d) * (w + d) * (w + d) ≤ w * w * w + 3 * (d * ((w + d) * (w + d)))
        go d = omega arith

        cube : s * s * s ≤ w * w * w + 3 * (o.0 * (s * s))
        cube = subst (λ (x : ℕ). x * x * x ≤ w * w * w + 3 * (o.0 * (x * x))) o.1 (go o.0)

        end : (d : ℕ) → w + d ≡ s → 28800 * j ≤ 28800 * (g + 1) + d → σ + 27 * v ≤ s
        end d f k = omega (arith, e, f, h, k, big)

over-sine : (s j w g σ v BB : ℕ) → 0 < BB → s * s * s ≤ 6 * BB * (j + 520) → g * (6 * BB) ≤ w * w * w → 14400 * (w * w) ≤ BB → 86400 * g ≤ w → σ + g ≡ w → s + j + 28 * v ≤ w → w ≤ 2 ^ 31 * v → 2 ^ 12 ≤ 2 * v + 2 → s + 26 * v ≤ σ
over-sine s j w g σ v BB P J G S g-w e h W big = at (le_dest (le_trans (low s j v) h))
  where
    low : (s j v : ℕ) → s ≤ s + j + 28 * v
    low s j v = omega arith

    at : (d : ℕ) × (s + d ≡ w) → s + 26 * v ≤ σ
    at o = end o.0 o.1 (le_of_mul-le-mul_right {k = BB} (omega (arith, J, G, cube, mul-le-mul_left o.0 S)) P)
      where
        go : (d : ℕ) → (s + d) * (s + d) * (s + d) ≤ s * s * s + 3 * (d * ((s + d) * (s + d)))
        go d = omega arith

        cube : w * w * w ≤ s * s * s + 3 * (o.0 * (w * w))
        cube = subst (λ (x : ℕ). x * x * x ≤ s * s * s + 3 * (o.0 * (x * x))) o.1 (go o.0)

        end : (d : ℕ) → s + d ≡ w → 28800 * g ≤ 28800 * (j + 520) + d → s + 26 * v ≤ σ
        end d f k = omega (arith, e, f, h, k, big, W, g-w)

-- the sides of the two: c + n is at most the root of 2 N, so 2 ^ 31 times it is well below P
far : (M N R P c n : ℕ) → R * R + P * P ≡ M * N → N ≡ c * c + n * n → 2 ^ 64 - 2 ^ 34 ≤ M → 2 ^ 69 ≤ N → R ≤ 2 ^ 61 → 64 * (2 ^ 25 * (c + n)) ≤ P
far M N R P c n e f h l r =
    square-back (64 * (2 ^ 25 * (c + n))) P (le_trans (le_of_eq (square (c + n)))
    (go (2 ^ 62 * ((c + n) * (c + n))) (2 ^ 62 * N) (R * R) (P * P) (M * N) (le_trans (mul-le-mul_left (2 ^ 62) sum) (twofold (2 ^ 62) N)) (le_trans (le_of_eq (threefold (2 ^ 62) N)) (mul-le-mul_right N (le_trans (lit≤ tt) h))) (le_trans (mul-le-mul r r) (le_trans (lit≤ tt) (mul-le-mul_left (2 ^ 62) l))) e))
  where
    square : (q : ℕ) → 64 * (2 ^ 25 * q) * (64 * (2 ^ 25 * q)) ≡ 2 ^ 62 * (q * q)
    square q = omega arith

    sum : (c + n) * (c + n) ≤ 2 * N
    sum = omega (arith, twice c n, f)

    twofold : (k x : ℕ) → k * (2 * x) ≤ 2 * (k * x)
    twofold k x = omega arith

    threefold : (k x : ℕ) → 3 * (k * x) ≡ 3 * k * x
    threefold k x = omega arith

    go : (q k r p m : ℕ) → q ≤ 2 * k → 3 * k ≤ m → r ≤ k → r + p ≡ m → q ≤ p
    go q k r p m a b c d = omega arith

-- ---- what rounding leaves: w₁ and w₂ are the ends less A
module _ (X r A s p o v : ℕ) (T : Turned X r A s) (Z : Sizes (arc_of A s) p o v) where
  abbrev j : ℕ
  j = sixth_of s

  j-small : 86400 * j ≤ s
  j-small = sixth-small s T.most

  pub small : 736 * o ≤ s
  small = go j j-small Z.s-over T.way
    where
      go : (j : ℕ) → 86400 * j ≤ s → 64 * p ≤ A + (s + j) + 32 * o → (A ≡ 0) ⊎ (2 ^ 38 ≤ s) → 736 * o ≤ s
      go j a b (inl e) = omega (arith, a, b, Z.p-least)
      go j a b (inr l) = omega (arith, a, b, Z.p-least, T.entry.most, T.most)

  v-large : 2 ^ 12 ≤ 2 * v + 2
  v-large = go j Z.s-under
    where
      go : (j : ℕ) → A + (s + j) ≤ 64 * p + 32 * o → 2 ^ 12 ≤ 2 * v + 2
      go j a = omega (arith, a, Z.p-most, Z.o-v, T.large)

  sum-v : A + s ≤ 2 ^ 31 * v
  sum-v = go j Z.s-under
    where
      go : (j : ℕ) → A + (s + j) ≤ 64 * p + 32 * o → A + s ≤ 2 ^ 31 * v
      go j a = omega (arith, a, Z.p-most, Z.o-v)

  pub w₁ : ℕ
  w₁ = 64 * p - 60 * v - A

  pub w₂ : ℕ
  w₂ = 64 * p + 60 * v - A

  pub at₁ : A + w₁ ≡ 64 * p - 60 * v
  unfolding w₁
  at₁ = go j Z.s-under
    where
      go : (j : ℕ) → A + (s + j) ≤ 64 * p + 32 * o → A + (64 * p - 60 * v - A) ≡ 64 * p - 60 * v
      go j a = omega (arith, a, Z.v-o, small)

  pub at₂ : A + w₂ ≡ 64 * p + 60 * v
  unfolding w₂
  at₂ = go j Z.s-under
    where
      go : (j : ℕ) → A + (s + j) ≤ 64 * p + 32 * o → A + (64 * p + 60 * v - A) ≡ 64 * p + 60 * v
      go j a = omega (arith, a, small)

  core₁ : w₁ + 28 * v ≤ s + j
  core₁ = go w₁ j at₁ Z.s-over Z.s-under
    where
      go : (w j : ℕ) → A + w ≡ 64 * p - 60 * v → 64 * p ≤ A + (s + j) + 32 * o → A + (s + j) ≤ 64 * p + 32 * o → w + 28 * v ≤ s + j
      go w j e a b = omega (arith, e, a, b, Z.o-v, Z.v-o, small)

  core₂ : s + j + 28 * v ≤ w₂
  core₂ = go w₂ j at₂ Z.s-under
    where
      go : (w j : ℕ) → A + w ≡ 64 * p + 60 * v → A + (s + j) ≤ 64 * p + 32 * o → s + j + 28 * v ≤ w
      go w j e a = omega (arith, e, a, Z.o-v)

  less₁ : w₁ ≤ 2 ^ 31 * v
  less₁ = go w₁ at₁
    where
      go : (w : ℕ) → A + w ≡ 64 * p - 60 * v → w ≤ 2 ^ 31 * v
      go w e = omega (arith, e, Z.p-most, Z.o-v)

  less₂ : w₂ ≤ 2 ^ 31 * v
  less₂ = go w₂ at₂
    where
      go : (w : ℕ) → A + w ≡ 64 * p + 60 * v → w ≤ 2 ^ 31 * v
      go w e = omega (arith, e, Z.p-most, Z.o-v)

  fits₁ : 120 * w₁ ≤ 2 ^ 56
  fits₁ = go w₁ j j-small core₁
    where
      go : (w j : ℕ) → 86400 * j ≤ s → w + 28 * v ≤ s + j → 120 * w ≤ 2 ^ 56
      go w j a b = omega (arith, a, b, T.most)

  o-most : o ≤ 2 ^ 29
  o-most = go j j-small Z.s-over
    where
      go : (j : ℕ) → 86400 * j ≤ s → 64 * p ≤ A + (s + j) + 32 * o → o ≤ 2 ^ 29
      go j a b = omega (arith, a, b, Z.p-least, T.most, T.entry.most)

  fits₂ : 120 * w₂ ≤ 2 ^ 56
  fits₂ = fits A s p o v w₂ j j-small at₂ Z.s-over Z.v-o o-most T.most

  -- the angle stays below 2
  pub end-2 : 64 * p + 60 * v ≤ 2 ^ 57
  end-2 = go j j-small Z.s-over
    where
      go : (j : ℕ) → 86400 * j ≤ s → 64 * p ≤ A + (s + j) + 32 * o → 64 * p + 60 * v ≤ 2 ^ 57
      go j a b = omega (arith, a, b, Z.v-o, small, T.most, T.entry.most)

  -- y₀ in units v
  y-v : T.y₀ * 2 ^ 23 ≤ 2 ^ 31 * v
  y-v = go T.y₀ T.entry.least
    where
      go : (y : ℕ) → y * 2 ^ 48 ≤ 2 ^ 25 * A → y * 2 ^ 23 ≤ 2 ^ 31 * v
      go y a = omega (arith, a, sum-v)

-- ---- the ends
abbrev ρ : ℕ → ℕ
ρ w = 2571 + 33 * (w / 2 ^ 33 + 2)

ρ-wide : (w : ℕ) → w ≤ 2 ^ 28 * ρ w
ρ-wide w = go (w / 2 ^ 33 + 2) (wide_ok w)
  where
    go : (d : ℕ) → w + 2 ^ 33 ≤ d * 2 ^ 33 → w ≤ 2 ^ 28 * (2571 + 33 * d)
    go d h = omega arith

ρ-v : (w v : ℕ) → w ≤ 2 ^ 31 * v → 2 ^ 12 ≤ 2 * v + 2 → ρ w ≤ 11 * v
ρ-v w v h l = go (w / 2 ^ 33 + 2) (wide-le w v h)
  where
    go : (d : ℕ) → 33 * d ≤ 9 * v + 66 → 2571 + 33 * d ≤ 11 * v
    go d k = omega arith

-- the sine with its room against the hypotenuse
leg-under : (u t v : ℕ) → u ≤ 2 ^ 31 * v → u + 13 * v ≤ t → u * (2 ^ 56 + 2 ^ 27) ≤ (2 ^ 56 - 2) * t
leg-under u t v a b = le_trans (go (2 ^ 56 - 2) (2 ^ 27) (le_trans (mul-le-mul_left (2 ^ 27 + 2) a) (le_trans (le_of_eq (sym (mul_assoc (2 ^ 27 + 2) (2 ^ 31) v))) (mul-le-mul_right v (lit≤ tt))))) (mul-le-mul_left (2 ^ 56 - 2) b)
  where
    go : (N K : ℕ) → (K + 2) * u ≤ 13 * N * v → u * (N + 2 + K) ≤ N * (u + 13 * v)
    go N K h = omega (arith, h)

leg-over : (u t v : ℕ) → u ≤ 2 ^ 31 * v → t + 13 * v ≤ u → (2 ^ 56 + 2) * t ≤ u * (2 ^ 56 - 2 ^ 27)
leg-over u t v a b = le_trans (go (2 ^ 56 - 2 ^ 27) (2 ^ 27) (le_trans (mul-le-mul_left (2 ^ 27 + 2) (le_trans (less t v) (le_trans b a))) (le_trans (le_of_eq (sym (mul_assoc (2 ^ 27 + 2) (2 ^ 31) v))) (mul-le-mul_right v (lit≤ tt))))) (mul-le-mul_right (2 ^ 56 - 2 ^ 27) b)
  where
    less : (t v : ℕ) → t ≤ t + 13 * v
    less t v = omega arith

    go : (N K : ℕ) → (K + 2) * t ≤ 13 * N * v → (N + K + 2) * t ≤ (t + 13 * v) * N
    go N K h = omega (arith, h)

leg-low : (u s y R R' v : ℕ) → u + 16 * v ≤ s → s ≤ 2 ^ 31 * v → s * 2 ^ 11 ≤ R → R ≤ (s + 1) * 2 ^ 11 → R' + y * 16 ≡ R → y * 2 ^ 23 ≤ 2 ^ 31 * v → 2 ^ 12 ≤ 2 * v + 2 → u * (2 ^ 67 + 2 ^ 38) ≤ (2 ^ 56 - 2) * R'
leg-low u s y R R' v a b c d e f g =
    le_trans (le_of_eq (cut u)) (le_trans (mul-le-mul_right (2 ^ 11) (leg-under u (R' / 2 ^ 11) v (omega arith) (apart (R' / 2 ^ 11) (omega arith)))) (le_trans (le_of_eq (mul_assoc (2 ^ 56 - 2) (R' / 2 ^ 11) (2 ^ 11))) (mul-le-mul_left (2 ^ 56 - 2) (div-mul-le_self R' (2 ^ 11)))))
  where
    cut : (u : ℕ) → u * (2 ^ 67 + 2 ^ 38) ≡ u * (2 ^ 56 + 2 ^ 27) * 2 ^ 11
    cut u = omega arith

    apart : (t : ℕ) → R' ≤ t * 2 ^ 11 + 2 ^ 11 → u + 13 * v ≤ t
    apart t h = omega arith

leg-high : (u s y R v : ℕ) → s + 15 * v ≤ u → u ≤ 2 ^ 31 * v → R ≤ (s + 1) * 2 ^ 11 → y * 2 ^ 23 ≤ 2 ^ 31 * v → 2 ^ 12 ≤ 2 * v + 2 → (2 ^ 56 + 2) * (R + y * 8) ≤ u * (2 ^ 67 - 2 ^ 38)
leg-high u s y R v a b c d e =
    le_trans (mul-le-mul_left (2 ^ 56 + 2) over) (le_trans (le_of_eq (sym (mul_assoc (2 ^ 56 + 2) (s + 1 + v) (2 ^ 11)))) (le_trans (mul-le-mul_right (2 ^ 11) (leg-over u (s + 1 + v) v b (omega arith))) (le_of_eq (cut u))))
  where
    over : R + y * 8 ≤ (s + 1 + v) * 2 ^ 11
    over = omega arith

    cut : (u : ℕ) → u * (2 ^ 56 - 2 ^ 27) * 2 ^ 11 ≡ u * (2 ^ 67 - 2 ^ 38)
    cut u = omega arith

module _ (X r A s p o v : ℕ) (T : Turned X r A s) (Z : Sizes (arc_of A s) p o v) (C : Cosine X r) where
  abbrev M : ℕ
  M = T.x₀ * T.x₀ + T.y₀ * T.y₀

  W₁ : ℕ
  W₁ = w₁ X r A s p o v T Z

  f₁ : 120 * W₁ ≤ 2 ^ 56
  unfolding W₁
  f₁ = fits₁ X r A s p o v T Z

  abbrev σ₁ : ℕ
  σ₁ = step.σ (2 ^ 56) W₁ (W₁ / 2 ^ 33 + 2) (pow_pos 56) f₁ (wide_ok W₁)

  sine₁ : σ₁ + 27 * v ≤ s
  unfolding W₁
  sine₁ =
      let P = step.parts (2 ^ 56) W₁ (W₁ / 2 ^ 33 + 2) (pow_pos 56) f₁ (wide_ok W₁) in
      below-sine s (sixth_of s) W₁ (step.g (2 ^ 56) W₁ (W₁ / 2 ^ 33 + 2) (pow_pos 56) f₁ (wide_ok W₁)) σ₁ v (2 ^ 56 * 2 ^ 56) (pow_pos 112) (sixth-low s) P.g-high (square s T.most) (step.eσ (2 ^ 56) W₁ (W₁ / 2 ^ 33 + 2) (pow_pos 56) f₁ (wide_ok W₁)) (core₁ X r A s p o v T Z) (v-large X r A s p o v T Z)
    where
      square : (s : ℕ) → s ≤ 2 ^ 49 → 14400 * (s * s) ≤ 2 ^ 56 * 2 ^ 56
      square s h = le_trans (mul-le-mul_left 14400 (mul-le-mul h h)) (lit≤ tt)

  R₁ : ℕ
  R₁ = T.R - T.y₀ * 16

  R₁-is : R₁ + T.y₀ * 16 ≡ T.R
  unfolding R₁
  R₁-is = sub-add_cancel T.R-large

  e₁ : R₁ + T.y₀ * (8 * r + 16) ≡ T.x₀ * X
  e₁ = go T.x₀ T.y₀ T.R R₁ R₁-is T.e_r
    where
      go : (x y R R' : ℕ) → R' + y * 16 ≡ R → R + y * (8 * r) ≡ x * X → R' + y * (8 * r + 16) ≡ x * X
      go x y R R' e f = omega (arith, e, f)

  abbrev N₁ : ℕ
  N₁ = (8 * r + 16) * (8 * r + 16) + X * X

  N₁-most : N₁ ≤ 2 ^ 70 + 2 ^ 40 + 2 ^ 8
  N₁-most = omega (arith, C.low, C.r-lt)

  N₁-least : 2 ^ 69 ≤ N₁
  N₁-least = omega (arith, C.high)

  R-most : T.R ≤ 2 ^ 60 + 2 ^ 11
  R-most = go T.R T.s-high T.most
    where
      go : (R : ℕ) → R ≤ (s + 1) * 2 ^ 11 → s ≤ 2 ^ 49 → R ≤ 2 ^ 60 + 2 ^ 11
      go R a b = omega arith

  far₁ : 64 * (2 ^ 25 * (8 * r + 16 + X)) ≤ T.x₀ * (8 * r + 16) + T.y₀ * X
  far₁ = far M N₁ R₁ (T.x₀ * (8 * r + 16) + T.y₀ * X) (8 * r + 16) X (sides T.x₀ T.y₀ (8 * r + 16) X R₁ e₁) refl T.norm-high N₁-least (go T.R (T.y₀ * 16) R₁ R₁-is R-most)
    where
      go : (R y R' : ℕ) → R' + y ≡ R → R ≤ 2 ^ 60 + 2 ^ 11 → R' ≤ 2 ^ 61
      go R y R' a b = omega arith

  y-most : T.y₀ * 2 ^ 23 ≤ 2 ^ 31 * v
  y-most = y-v X r A s p o v T Z

  leg₁ : (σ₁ + ρ W₁) * (2 ^ 67 + 2 ^ 38) ≤ (2 ^ 56 - 2) * R₁
  unfolding W₁
  leg₁ = leg-low (σ₁ + ρ W₁) s T.y₀ T.R R₁ v (go σ₁ (ρ W₁) sine₁ (ρ-v W₁ v wide₁ large)) (more A (sum-v X r A s p o v T Z)) T.s-low T.s-high R₁-is y-most large
    where
      large : 2 ^ 12 ≤ 2 * v + 2
      large = v-large X r A s p o v T Z

      wide₁ : W₁ ≤ 2 ^ 31 * v
      wide₁ = less₁ X r A s p o v T Z

      go : (x y : ℕ) → x + 27 * v ≤ s → y ≤ 11 * v → x + y + 16 * v ≤ s
      go x y a b = omega arith

      more : (A : ℕ) → A + s ≤ 2 ^ 31 * v → s ≤ 2 ^ 31 * v
      more A h = omega arith

  pub lower : SinLe (64 * p - 60 * v) (2 ^ 56) X (8 * r + 16)
  unfolding W₁
  lower =
      let D = W₁ / 2 ^ 33 + 2 in
      let P = step.parts (2 ^ 56) W₁ D (pow_pos 56) f₁ (wide_ok W₁) in
      let eσ = step.eσ (2 ^ 56) W₁ D (pow_pos 56) f₁ (wide_ok W₁) in
      let eκ = step.eκ (2 ^ 56) W₁ D (pow_pos 56) f₁ (wide_ok W₁) in
      let f = step.f (2 ^ 56) W₁ D (pow_pos 56) f₁ (wide_ok W₁) in
      let g = step.g (2 ^ 56) W₁ D (pow_pos 56) f₁ (wide_ok W₁) in
      let k = step.k (2 ^ 56) W₁ D (pow_pos 56) f₁ (wide_ok W₁) in
      let κ = step.κ (2 ^ 56) W₁ D (pow_pos 56) f₁ (wide_ok W₁) in
      let c : (2 ^ 56 - 2) * (2 ^ 56 - 2) ≤ κ * κ + (σ₁ + ρ W₁) * (σ₁ + ρ W₁) = circle-low W₁ (2 ^ 56) f g k D σ₁ κ (ρ W₁) P eσ eκ (lit≤ tt) f₁ (ρ-wide W₁) (2 ^ 56 - 2) refl in
      subst (λ (y : ℕ). SinLe y (2 ^ 56) X (8 * r + 16)) (at₁ X r A s p o v T Z)
      (step.tan-below (2 ^ 56) W₁ D (pow_pos 56) f₁ (wide_ok W₁)
      (2 ^ 25) T.x₀ T.y₀ A T.entry.C T.entry.S T.entry.a₂ T.entry.a₃ (8 * r + 16) X R₁ T.entry.fit e₁ far₁
      (under-tangent (σ₁ + ρ W₁) κ (T.x₀ * (8 * r + 16) + T.y₀ * X) R₁ (2 ^ 67 + 2 ^ 38) (2 ^ 56 - 2) c (le_trans (le_of_eq (sides T.x₀ T.y₀ (8 * r + 16) X R₁ e₁)) (le_trans (mul-le-mul T.norm-low N₁-most) (lit≤ tt))) leg₁))

  -- ---- above
  W₂ : ℕ
  W₂ = w₂ X r A s p o v T Z

  f₂ : 120 * W₂ ≤ 2 ^ 56
  unfolding W₂
  f₂ = fits₂ X r A s p o v T Z

  abbrev D₂ : ℕ
  D₂ = W₂ / 2 ^ 33 + 2

  abbrev g₂ : ℕ
  g₂ = step.g (2 ^ 56) W₂ D₂ (pow_pos 56) f₂ (wide_ok W₂)

  abbrev σ₂ : ℕ
  σ₂ = step.σ (2 ^ 56) W₂ D₂ (pow_pos 56) f₂ (wide_ok W₂)

  abbrev κ₂ : ℕ
  κ₂ = step.κ (2 ^ 56) W₂ D₂ (pow_pos 56) f₂ (wide_ok W₂)

  abbrev k₂ : ℕ
  k₂ = step.k (2 ^ 56) W₂ D₂ (pow_pos 56) f₂ (wide_ok W₂)

  abbrev h₂ : ℕ
  h₂ = step.f (2 ^ 56) W₂ D₂ (pow_pos 56) f₂ (wide_ok W₂)

  large : 2 ^ 12 ≤ 2 * v + 2
  large = v-large X r A s p o v T Z

  wide₂ : W₂ ≤ 2 ^ 31 * v
  unfolding W₂
  wide₂ = less₂ X r A s p o v T Z

  sine₂ : s + 26 * v ≤ σ₂
  unfolding W₂
  sine₂ =
      let P = step.parts (2 ^ 56) W₂ D₂ (pow_pos 56) f₂ (wide_ok W₂) in
      let eσ = step.eσ (2 ^ 56) W₂ D₂ (pow_pos 56) f₂ (wide_ok W₂) in
      let eκ = step.eκ (2 ^ 56) W₂ D₂ (pow_pos 56) f₂ (wide_ok W₂) in
      over-sine s (sixth_of s) W₂ g₂ σ₂ v (2 ^ 56 * 2 ^ 56) (pow_pos 112) (sixth-high s T.most) P.g-low
      (W² W₂ (2 ^ 56) h₂ g₂ k₂ D₂ σ₂ κ₂ (ρ W₂) P eσ eκ (lit≤ tt) f₂ (ρ-wide W₂)) (g-w W₂ (2 ^ 56) h₂ g₂ k₂ D₂ σ₂ κ₂ (ρ W₂) P eσ eκ (lit≤ tt) f₂ (ρ-wide W₂)) eσ (core₂ X r A s p o v T Z) wide₂ large

  τ₂ : ℕ
  τ₂ = σ₂ - ρ W₂

  ρ₂ : ρ W₂ ≤ 11 * v
  ρ₂ = ρ-v W₂ v wide₂ large

  τ₂-is : τ₂ + ρ W₂ ≡ σ₂
  unfolding τ₂
  τ₂-is = go σ₂ (ρ W₂) sine₂ ρ₂
    where
      go : (x y : ℕ) → s + 26 * v ≤ x → y ≤ 11 * v → x - y + y ≡ x
      go x y a b = omega arith

  σ₂-w : σ₂ ≤ W₂
  σ₂-w = sub-le W₂ g₂

  leg₂ : (2 ^ 56 + 2) * (T.R + T.y₀ * 8) ≤ τ₂ * (2 ^ 67 - 2 ^ 38)
  leg₂ = leg-high τ₂ s T.y₀ T.R v (go σ₂ (ρ W₂) τ₂ sine₂ ρ₂ τ₂-is) (most σ₂ W₂ τ₂ (ρ W₂) σ₂-w wide₂ τ₂-is) T.s-high y-most large
    where
      go : (x y t : ℕ) → s + 26 * v ≤ x → y ≤ 11 * v → t + y ≡ x → s + 15 * v ≤ t
      go x y t a b e = omega arith

      most : (x w t y : ℕ) → x ≤ w → w ≤ 2 ^ 31 * v → t + y ≡ x → t ≤ 2 ^ 31 * v
      most x w t y a b e = omega arith

  module _ (c' : ℕ) (ec : c' + 8 ≡ 8 * r) where
    e₂ : T.R + T.y₀ * 8 + T.y₀ * c' ≡ T.x₀ * X
    e₂ = go T.x₀ T.y₀ T.R T.e_r
      where
        go : (x y R : ℕ) → R + y * (8 * r) ≡ x * X → R + y * 8 + y * c' ≡ x * X
        go x y R e = omega (arith, e, ap (λ (t : ℕ). y * t) ec)

    abbrev N₂ : ℕ
    N₂ = c' * c' + X * X

    N₂-least : 2 ^ 70 - 2 ^ 40 ≤ N₂
    N₂-least = go (X * X) (subst (λ (t : ℕ). 2 ^ 70 ≤ (t + 8) * (t + 8) + X * X) (sym ec) C.high) C.r-lt
      where
        go : (x : ℕ) → 2 ^ 70 ≤ (c' + 8 + 8) * (c' + 8 + 8) + x → r < 2 ^ 32 → 2 ^ 70 - 2 ^ 40 ≤ c' * c' + x
        go x a b = omega (arith, a, b, ec)

    far₂ : 64 * (2 ^ 25 * (c' + X)) ≤ T.x₀ * c' + T.y₀ * X
    far₂ = far M N₂ (T.R + T.y₀ * 8) (T.x₀ * c' + T.y₀ * X) c' X (sides T.x₀ T.y₀ c' X (T.R + T.y₀ * 8) e₂) refl T.norm-high (le_trans (lit≤ tt) N₂-least) (go T.R T.y₀ R-most T.R-large)
      where
        go : (R y : ℕ) → R ≤ 2 ^ 60 + 2 ^ 11 → y * 16 ≤ R → R + y * 8 ≤ 2 ^ 61
        go R y a b = omega arith

    pub upper : SinGe (64 * p + 60 * v) (2 ^ 56) X c'
    unfolding W₂
    upper =
        let P = step.parts (2 ^ 56) W₂ D₂ (pow_pos 56) f₂ (wide_ok W₂) in
        let eσ = step.eσ (2 ^ 56) W₂ D₂ (pow_pos 56) f₂ (wide_ok W₂) in
        let eκ = step.eκ (2 ^ 56) W₂ D₂ (pow_pos 56) f₂ (wide_ok W₂) in
        let R' = T.R + T.y₀ * 8 in
        let P' = T.x₀ * c' + T.y₀ * X in
        let c = circle-high W₂ (2 ^ 56) h₂ g₂ k₂ D₂ σ₂ κ₂ (ρ W₂) P eσ eκ (lit≤ tt) f₂ (ρ-wide W₂) τ₂ τ₂-is in
        let t : κ₂ * R' ≤ τ₂ * P' = over-tangent τ₂ κ₂ P' R' (2 ^ 67 - 2 ^ 38) (2 ^ 56 + 2) c (le_trans (lit≤ tt) (le_trans (mul-le-mul T.norm-high N₂-least) (le_of_eq (sym (sides T.x₀ T.y₀ c' X R' e₂))))) leg₂ in
        subst (λ (y : ℕ). SinGe y (2 ^ 56) X c') (at₂ X r A s p o v T Z)
        (step.tan-over (2 ^ 56) W₂ D₂ (pow_pos 56) f₂ (wide_ok W₂)
        (2 ^ 25) T.x₀ T.y₀ A T.entry.C T.entry.S T.entry.a₂ T.entry.a₃ c' X R' T.entry.fit e₂ far₂
        (le_trans (add (κ₂ * R') τ₂ (ρ W₂) P' t) (le_of_eq (ap (λ (x : ℕ). x * P') τ₂-is))))
      where
        add : (x t y P : ℕ) → x ≤ t * P → x + y * P ≤ (t + y) * P
        add x t y P h = omega (arith, h)
