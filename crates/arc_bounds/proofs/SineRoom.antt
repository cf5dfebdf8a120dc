-- From a tangent with room to the sine: where tan y ≤ X / (c + 16), the cosine c being the whole root's, sin y ≤ X / 2 ^ 35; where X / (c - 8) ≤ tan y, X / 2 ^ 35 ≤ sin y, or y is past half pi.
-- The room of 8 units is far more than what the enclosures' width takes off cos² + sin² = 1.
use mathlib.Core.Path.{◌≡◌, ap}
use mathlib.Core.Logic.{◌⊎◌, inl, inr}
use Prim.Native.Nat.{ℕ, ◌+◌, ◌-◌, ◌*◌, ◌^◌, ◌≤◌, ◌<◌}
use native.Mathlib.Nat.{le_trans, le_of_lt, le_refl, mul-le-mul, mul-le-mul_left, mul-le-mul_right, le-add_left}
use native.Mathlib.Omega.{arith}
use lib.Dec.{lit<, lit≤}
use lib.Pow.{pow_pos}
use Rattle.series.specs.Series.{SinLe, SinGe}
use Rattle.cases.proofs.Cases.{split}
use Rattle.series.proofs.Circle.{circle-above, circle-below, sine-under, sine-over}
use Rattle.arcs.proofs.Cosine.{Cosine}
use Rattle.arc_bounds.proofs.Fine.{fine, enc, most, apart, from_le, from-ge}

-- the width of the circle's enclosure
abbrev ε : ℕ → ℕ → ℕ
ε p₁ p₂ = 4 * (2 * (p₁ + 2 + (p₂ + 2)))

width : (p₁ p₂ X : ℕ) → p₁ ≤ 2 ^ 113 → p₂ ≤ 2 ^ 113 → X < 2 ^ 35 → ε p₁ p₂ * (X * X) ≤ 2 ^ 118 * (2 ^ 35 * 2 ^ 35)
width p₁ p₂ X a b h = mul-le-mul (go p₁ p₂ a b) (mul-le-mul (le_of_lt h) (le_of_lt h))
  where
    go : (p q : ℕ) → p ≤ 2 ^ 113 → q ≤ 2 ^ 113 → 4 * (2 * (p + 2 + (q + 2))) ≤ 2 ^ 118
    go p q a b = omega arith

module _ (y X r : ℕ) (large : 2 ^ 42 ≤ y) (small : y ≤ 2 ^ 57) (C : Cosine X r) (X-lt : X < 2 ^ 35) where
  abbrev p₀ : ℕ
  p₀ = fine 0 y

  abbrev p₁ : ℕ
  p₁ = fine 1 y

  abbrev p₂ : ℕ
  p₂ = fine 2 y

  abbrev p₃ : ℕ
  p₃ = fine 3 y

  split-1 : p₃ + (p₁ - p₃) ≡ p₁
  split-1 = go p₃ p₁ (apart y large small)
    where
      go : (p q : ℕ) → p + 2 ^ 94 ≤ q → p + (q - p) ≡ q
      go p q h = omega arith

  gap : 2 ^ 94 ≤ p₁ - p₃
  gap = go p₃ p₁ (apart y large small)
    where
      go : (p q : ℕ) → p + 2 ^ 94 ≤ q → 2 ^ 94 ≤ q - p
      go p q h = omega arith

  -- ---- below
  module _ (L : SinLe y (2 ^ 56) X (8 * r + 16)) where
    T : p₁ * (8 * r + 16) + p₂ * X ≤ (p₃ + 2) * (8 * r + 16) + (p₀ + 2) * X
    T = from_le y large small X (8 * r + 16) L

    pub cos-low : p₂ + 2 ≤ p₀
    cos-low = split p₀ (p₂ + 2) (λ l. absurd (no p₀ p₁ p₂ p₃ l (apart y large small) T)) (λ l. l)
      where
        no : (p₀ p₁ p₂ p₃ : ℕ) → p₀ < p₂ + 2 → p₃ + 2 ^ 94 ≤ p₁ → p₁ * (8 * r + 16) + p₂ * X ≤ (p₃ + 2) * (8 * r + 16) + (p₀ + 2) * X → ⊥
        no p₀ p₁ p₂ p₃ l a t =
            let m : p₀ + 2 ≤ p₂ + 3 = omega arith in
            omega (arith, t, mul-le-mul_right (8 * r + 16) a, mul-le-mul_right X m, X-lt)

    abbrev a : ℕ
    a = p₁ - p₃

    abbrev k : ℕ
    k = p₀ - (p₂ + 2)

    k-is : k + (p₂ + 2) ≡ p₀
    k-is = go p₀ p₂ cos-low
      where
        go : (p q : ℕ) → q + 2 ≤ p → p - (q + 2) + (q + 2) ≡ p
        go p q h = omega arith

    room : (a + 2) * (8 * r + 8) + 4 * a ≤ k * X
    room = go p₀ p₁ p₂ p₃ a k split-1 k-is gap T C.r-lt
      where
        go : (p₀ p₁ p₂ p₃ a k : ℕ) → p₃ + a ≡ p₁ → k + (p₂ + 2) ≡ p₀ → 2 ^ 94 ≤ a → p₁ * (8 * r + 16) + p₂ * X ≤ (p₃ + 2) * (8 * r + 16) + (p₀ + 2) * X → r < 2 ^ 32 → (a + 2) * (8 * r + 8) + 4 * a ≤ k * X
        go p₀ p₁ p₂ p₃ a k e f g t h = omega (arith, t, g, h, X-lt, ap (λ (x : ℕ). x * (8 * r + 16)) e, ap (λ (x : ℕ). x * X) f)

    circle : (a + 2) * (a + 2) + k * k ≤ 2 ^ 110 * 2 ^ 110 + ε p₁ p₂
    circle = circle-above y (2 ^ 56) (2 ^ 110) p₀ p₁ p₂ p₃ 2 (a + 2) k (pow_pos 56) (enc y large small) (turn p₃ p₁ a split-1) k-is
      where
        turn : (p q a : ℕ) → p + a ≡ q → a + 2 + p ≡ q + 2
        turn p q a e = omega arith

    enough : ε p₁ p₂ * (X * X) ≤ 2 * ((a + 2) * (8 * r + 8) * (4 * a))
    enough = le_trans (width p₁ p₂ X (most y large small 1 (lit< tt)) (most y large small 2 (lit< tt)) X-lt) (le_trans (lit≤ tt) (mul-le-mul_left 2 (mul-le-mul (mul-le-mul (up a gap) (eight r)) (mul-le-mul_left 4 gap))))
      where
        up : (a : ℕ) → 2 ^ 94 ≤ a → 2 ^ 94 ≤ a + 2
        up a h = omega arith

        eight : (r : ℕ) → 8 ≤ 8 * r + 8
        eight r = omega arith

    pub sine-low : (p₁ + 2) * 2 ^ 35 ≤ p₃ * 2 ^ 35 + X * 2 ^ 110
    sine-low = go p₁ p₃ a (X * 2 ^ 110) split-1 (sine-under (a + 2) k X (8 * r + 8) (2 ^ 35) (2 ^ 110) (4 * a) (ε p₁ p₂) room C.high circle enough)
      where
        go : (p q a z : ℕ) → q + a ≡ p → (a + 2) * 2 ^ 35 ≤ z → (p + 2) * 2 ^ 35 ≤ q * 2 ^ 35 + z
        go p q a z e h = omega arith

  -- ---- above
  module _ (c' : ℕ) (ec : c' + 8 ≡ 8 * r) (L : SinGe y (2 ^ 56) X c') where
    T' : p₃ * c' + p₀ * X ≤ (p₁ + 2) * c' + (p₂ + 2) * X
    T' = from-ge y large small X c' L

    module _ (near : p₂ < p₀ + 2) where
      abbrev u : ℕ
      u = p₁ - (p₃ + 2)

      abbrev h : ℕ
      h = p₀ + 2 - p₂

      u-is : u + (p₃ + 2) ≡ p₁
      u-is = go p₃ p₁ (apart y large small)
        where
          go : (p q : ℕ) → p + 2 ^ 94 ≤ q → q - (p + 2) + (p + 2) ≡ q
          go p q h = omega arith

      h-is : h + p₂ ≡ p₀ + 2
      h-is = go p₀ p₂ near
        where
          go : (p q : ℕ) → q < p + 2 → p + 2 - q + q ≡ p + 2
          go p q h = omega arith

      u-large : 2 ^ 93 ≤ u
      u-large = go p₃ p₁ u u-is (apart y large small)
        where
          go : (p q u : ℕ) → u + (p + 2) ≡ q → p + 2 ^ 94 ≤ q → 2 ^ 93 ≤ u
          go p q u e h = omega arith

      room' : h * X + 4 * u ≤ u * (8 * r)
      room' = go p₀ p₁ p₂ p₃ u h u-is h-is u-large T' C.r-lt
        where
          go : (p₀ p₁ p₂ p₃ u h : ℕ) → u + (p₃ + 2) ≡ p₁ → h + p₂ ≡ p₀ + 2 → 2 ^ 93 ≤ u → p₃ * c' + p₀ * X ≤ (p₁ + 2) * c' + (p₂ + 2) * X → r < 2 ^ 32 → h * X + 4 * u ≤ u * (8 * r)
          go p₀ p₁ p₂ p₃ u h e f g t i = omega (arith, t, g, i, X-lt, ap (λ (x : ℕ). x * c') e, ap (λ (x : ℕ). x * X) f, ap (λ (x : ℕ). u * x) ec, ec)

      abbrev s : ℕ
      s = u * (8 * r) - h * X

      s-is : h * X + s ≡ u * (8 * r)
      s-is = go (h * X) (u * (8 * r)) u room'
        where
          go : (x z u : ℕ) → x + 4 * u ≤ z → x + (z - x) ≡ z
          go x z u l = omega arith

      s-large : 4 * u ≤ s
      s-large = go (h * X) (u * (8 * r)) u room'
        where
          go : (x z u : ℕ) → x + 4 * u ≤ z → 4 * u ≤ z - x
          go x z u l = omega arith

      circle' : 2 ^ 110 * 2 ^ 110 ≤ u * u + h * h + ε p₁ p₂
      circle' = circle-below y (2 ^ 56) (2 ^ 110) p₀ p₁ p₂ p₃ 2 u h (pow_pos 56) (enc y large small) u-is h-is

      enough' : ε p₁ p₂ * (X * X) ≤ 2 * (h * X * s) + s * s
      enough' =
          let l : 4 * 2 ^ 93 ≤ s = le_trans (mul-le-mul_left 4 u-large) s-large in
          le_trans (width p₁ p₂ X (most y large small 1 (lit< tt)) (most y large small 2 (lit< tt)) X-lt) (le_trans (lit≤ tt) (le_trans (mul-le-mul l l) (le-add_left (s * s) (2 * (h * X * s)))))

      sine-near : X * 2 ^ 110 ≤ u * 2 ^ 35
      sine-near = sine-over u h X (8 * r) (2 ^ 35) (2 ^ 110) s (h * X) (ε p₁ p₂) (le_refl (h * X)) s-is C.low circle' enough'

      pub sine-high : (p₃ + 2) * 2 ^ 35 + X * 2 ^ 110 ≤ p₁ * 2 ^ 35
      sine-high = go p₁ p₃ u (X * 2 ^ 110) u-is sine-near
        where
          go : (p q u z : ℕ) → u + (q + 2) ≡ p → z ≤ u * 2 ^ 35 → (q + 2) * 2 ^ 35 + z ≤ p * 2 ^ 35
          go p q u z e l = omega arith

    pub either-high : (p₀ + 2 ≤ p₂) ⊎ ((p₃ + 2) * 2 ^ 35 + X * 2 ^ 110 ≤ p₁ * 2 ^ 35)
    either-high = split p₂ (p₀ + 2) (λ l. inr (sine-high l)) (λ l. inl l)
