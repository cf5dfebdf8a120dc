-- At y = v - w with w = v³ / 3: sin y is at most y - y³ / 6 + y⁵ / 120, and cos y at least 1 - y² / 2, and with y² (2 v + w) = 2 v³ - 3 v² w + w³ the first is at most v times the second, since y⁵ / 120 + w³ / 6 is at most v² w / 2.
-- At z = v - a with a = w - b and b = v⁵ / 4 in the same way: sin z is at least z - z³ / 6, cos z at most 1 - z² / 2 + z⁴ / 24, and v z⁴ / 24 + v² a / 2 is at most b, as 1 / 24 + 1 / 6 is at most 1 / 4.
use mathlib.Core.Path.{◌≡◌, refl, sym, ap, ap₂, ◌∙◌}
use Prim.Native.Nat.{ℕ, ◌+◌, ◌-◌, ◌*◌, ◌^◌, ◌≤◌, ◌<◌}
use native.Mathlib.Nat.{le_trans, le_of_eq, mul-pos, mul-le-mul, mul-le-mul_left, mul-le-mul_right, le_of_mul-le-mul_right, le-add_right, le-add_left, sub-add_cancel, mul_assoc}
use native.Mathlib.Omega.{arith}
use lib.Dec.{lit≤, lit<}
use Rattle.series.proofs.Terms.{pow-1, pow-2, pow-3, pow-4, pow-5}
use Rattle.series.specs.Series.{full, num, class, SinLe, SinGe}
use Rattle.series.proofs.Addition.{full-pos}
use Rattle.exact.proofs.Enclosure.{one-wave}
use Rattle.arc_series.specs.OwnSeries.{AtanOwnSeries}

-- ---- the first partial sums
module _ (y d : ℕ) where
  full-3 : full d 3 ≡ 6 * (d * d * d)
  unfolding full
  full-3 = omega arith

  full-4 : full d 4 ≡ 24 * (d * d * (d * d))
  unfolding full
  full-4 = omega arith

  full-5 : full d 5 ≡ 120 * (d * d * (d * d) * d)
  unfolding full
  full-5 = omega arith

  sine-plus-5 : num (class 1) y d 5 ≡ 120 * (y * (d * d * (d * d))) + y * y * y * y * y
  unfolding num class
  sine-plus-5 = go (y ^ 1) (y ^ 2) (y ^ 3) (y ^ 4) (y ^ 5) (pow-1 y) (pow-5 y)
    where
      go : (p₁ p₂ p₃ p₄ p₅ : ℕ) → p₁ ≡ y → p₅ ≡ y * y * y * y * y → ((((0 * (d * 1) + 1 * p₁) * (d * 2) + 0 * p₂) * (d * 3) + 0 * p₃) * (d * 4) + 0 * p₄) * (d * 5) + 1 * p₅ ≡ 120 * (y * (d * d * (d * d))) + y * y * y * y * y
      go p₁ p₂ p₃ p₄ p₅ a b = omega (arith, b, ap (λ (x : ℕ). x * (d * d * (d * d))) a)

  sine-minus-5 : num (class 3) y d 5 ≡ 20 * (y * y * y * (d * d))
  unfolding num class
  sine-minus-5 = go (y ^ 1) (y ^ 2) (y ^ 3) (y ^ 4) (y ^ 5) (pow-3 y)
    where
      go : (p₁ p₂ p₃ p₄ p₅ : ℕ) → p₃ ≡ y * y * y → ((((0 * (d * 1) + 0 * p₁) * (d * 2) + 0 * p₂) * (d * 3) + 1 * p₃) * (d * 4) + 0 * p₄) * (d * 5) + 0 * p₅ ≡ 20 * (y * y * y * (d * d))
      go p₁ p₂ p₃ p₄ p₅ a = omega (arith, ap (λ (x : ℕ). x * (d * d)) a)

  cosine-plus-3 : num (class 0) y d 3 ≡ 6 * (d * d * d)
  unfolding num class
  cosine-plus-3 = go (y ^ 1) (y ^ 2) (y ^ 3)
    where
      go : (p₁ p₂ p₃ : ℕ) → ((1 * (d * 1) + 0 * p₁) * (d * 2) + 0 * p₂) * (d * 3) + 0 * p₃ ≡ 6 * (d * d * d)
      go p₁ p₂ p₃ = omega arith

  cosine-minus-3 : num (class 2) y d 3 ≡ 3 * (y * y * d)
  unfolding num class
  cosine-minus-3 = go (y ^ 1) (y ^ 2) (y ^ 3) (pow-2 y)
    where
      go : (p₁ p₂ p₃ : ℕ) → p₂ ≡ y * y → ((0 * (d * 1) + 0 * p₁) * (d * 2) + 1 * p₂) * (d * 3) + 0 * p₃ ≡ 3 * (y * y * d)
      go p₁ p₂ p₃ a = omega (arith, ap (λ (x : ℕ). x * d) a)

  sine-plus-4 : num (class 1) y d 4 ≡ 24 * (y * (d * d * d))
  unfolding num class
  sine-plus-4 = go (y ^ 1) (y ^ 2) (y ^ 3) (y ^ 4) (pow-1 y)
    where
      go : (p₁ p₂ p₃ p₄ : ℕ) → p₁ ≡ y → (((0 * (d * 1) + 1 * p₁) * (d * 2) + 0 * p₂) * (d * 3) + 0 * p₃) * (d * 4) + 0 * p₄ ≡ 24 * (y * (d * d * d))
      go p₁ p₂ p₃ p₄ a = omega (arith, ap (λ (x : ℕ). x * (d * d * d)) a)

  sine-minus-4 : num (class 3) y d 4 ≡ 4 * (y * y * y * d)
  unfolding num class
  sine-minus-4 = go (y ^ 1) (y ^ 2) (y ^ 3) (y ^ 4) (pow-3 y)
    where
      go : (p₁ p₂ p₃ p₄ : ℕ) → p₃ ≡ y * y * y → (((0 * (d * 1) + 0 * p₁) * (d * 2) + 0 * p₂) * (d * 3) + 1 * p₃) * (d * 4) + 0 * p₄ ≡ 4 * (y * y * y * d)
      go p₁ p₂ p₃ p₄ a = omega (arith, ap (λ (x : ℕ). x * d) a)

  cosine-plus-4 : num (class 0) y d 4 ≡ 24 * (d * d * (d * d)) + y * y * y * y
  unfolding num class
  cosine-plus-4 = go (y ^ 1) (y ^ 2) (y ^ 3) (y ^ 4) (pow-4 y)
    where
      go : (p₁ p₂ p₃ p₄ : ℕ) → p₄ ≡ y * y * y * y → (((1 * (d * 1) + 0 * p₁) * (d * 2) + 0 * p₂) * (d * 3) + 0 * p₃) * (d * 4) + 1 * p₄ ≡ 24 * (d * d * (d * d)) + y * y * y * y
      go p₁ p₂ p₃ p₄ a = omega (arith, a)

  cosine-minus-4 : num (class 2) y d 4 ≡ 12 * (y * y * (d * d))
  unfolding num class
  cosine-minus-4 = go (y ^ 1) (y ^ 2) (y ^ 3) (y ^ 4) (pow-2 y)
    where
      go : (p₁ p₂ p₃ p₄ : ℕ) → p₂ ≡ y * y → (((0 * (d * 1) + 0 * p₁) * (d * 2) + 1 * p₂) * (d * 3) + 0 * p₃) * (d * 4) + 0 * p₄ ≡ 12 * (y * y * (d * d))
      go p₁ p₂ p₃ p₄ a = omega (arith, ap (λ (x : ℕ). x * (d * d)) a)

fifth : (x z : ℕ) → x ≤ z → x * x * x * x * x ≤ z * z * z * z * z
fifth x z h = mul-le-mul (mul-le-mul (mul-le-mul (mul-le-mul h h) h) h) h

fourth : (x z : ℕ) → x ≤ z → x * x * x * x ≤ z * z * z * z
fourth x z h = mul-le-mul (mul-le-mul (mul-le-mul h h) h) h

-- ---- below: y and w in units of 1 / d, and v = y + w; D is d²
low-core : (Y W D : ℕ) → 3 * D * W ≡ (Y + W) * (Y + W) * (Y + W) → 120 * (Y * (D * D)) + Y * Y * Y * Y * Y + 60 * ((Y + W) * (Y * Y) * D) ≤ 120 * ((Y + W) * (D * D)) + 20 * (Y * Y * Y * D)
low-core Y W D cube =
    let S = Y + W in
    open_up (Y * Y * Y * Y * Y)
    (finish (Y * Y * (2 * S + W) * D) (S * S * W * D) (S * S * S * D) (W * W * W * D) (W * D * D) (Y * Y * Y * Y * Y) (S * S * S * S * S)
    (square Y W) (ap (λ (x : ℕ). x * D) (sym cube) ∙ turn D W) (fifth Y S (le-add_right Y W)) (cubes S cube) (fifths S cube))
  where
    square : (Y W : ℕ) → 20 * (Y * Y * (2 * (Y + W) + W) * D) + 60 * ((Y + W) * (Y + W) * W * D) ≡ 40 * ((Y + W) * (Y + W) * (Y + W) * D) + 20 * (W * W * W * D)
    square Y W = omega arith

    turn : (D W : ℕ) → 3 * D * W * D ≡ 3 * (W * D * D)
    turn D W = omega arith

    cubes : (S : ℕ) → 3 * D * W ≡ S * S * S → 3 * (W * W * W * D) ≤ (Y + W) * (Y + W) * (Y + W) * (Y + W) * (Y + W)
    cubes S e = le_trans (le_of_eq (go (Y + W) cube)) (le_trans (mul-le-mul_right ((Y + W) * (Y + W) * (Y + W)) (mul-le-mul (le-add_left W Y) (le-add_left W Y))) (le_of_eq (flat (Y + W))))
      where
        go : (S : ℕ) → 3 * D * W ≡ S * S * S → 3 * (W * W * W * D) ≡ W * W * (S * S * S)
        go S e = omega (arith, ap (λ (x : ℕ). x * (W * W)) e)

        flat : (S : ℕ) → S * S * (S * S * S) ≡ S * S * S * S * S
        flat S = omega arith

    fifths : (S : ℕ) → 3 * D * W ≡ S * S * S → 3 * (S * S * W * D) ≡ S * S * S * S * S
    fifths S e = omega (arith, ap (λ (x : ℕ). x * (S * S)) e)

    finish : (g a b w t y v : ℕ) → 20 * g + 60 * a ≡ 40 * b + 20 * w → b ≡ 3 * t → y ≤ v → 3 * w ≤ v → 3 * a ≡ v → y + 20 * g ≤ 120 * t
    finish g a b w t y v i e f h k = omega arith

    open_up : (p : ℕ) → p + 20 * (Y * Y * (2 * (Y + W) + W) * D) ≤ 120 * (W * D * D) → 120 * (Y * (D * D)) + p + 60 * ((Y + W) * (Y * Y) * D) ≤ 120 * ((Y + W) * (D * D)) + 20 * (Y * Y * Y * D)
    open_up p h = omega (arith, h)

low-poly : (Y S D d n c p : ℕ) → n * d ≡ S * c → 120 * (Y * (D * D)) + p + 60 * (S * (Y * Y) * D) ≤ 120 * (S * (D * D)) + 20 * (Y * Y * Y * D)
    → c * (120 * (Y * (D * D)) + p) * (6 * (D * d)) + n * (3 * (Y * Y * d)) * (120 * (D * D * d)) ≤ n * (6 * (D * d)) * (120 * (D * D * d)) + c * (20 * (Y * Y * Y * D)) * (6 * (D * d))
low-poly Y S D d n c p e h =
    le_trans (le_of_eq (ap₂ (λ (x y : ℕ). x + y) (part (120 * (Y * (D * D)) + p)) (turn (Y * Y) ∙ ap (λ (x : ℕ). x * (360 * (Y * Y * (D * (D * d))))) e ∙ group (Y * Y)) ∙ sum (120 * (Y * (D * D)) + p) (60 * (S * (Y * Y) * D))))
    (le_trans (mul-le-mul_left (6 * (c * (D * d))) h)
    (le_of_eq (sym (sum (120 * (S * (D * D))) (20 * (Y * Y * Y * D))) ∙ sym (ap₂ (λ (x y : ℕ). x + y) (turned ∙ ap (λ (x : ℕ). x * (720 * (D * (D * (D * d))))) e ∙ grouped) (part (20 * (Y * Y * Y * D)))))))
  where
    part : (q : ℕ) → c * q * (6 * (D * d)) ≡ 6 * (c * (D * d)) * q
    part q = omega arith

    sum : (q r : ℕ) → 6 * (c * (D * d)) * q + 6 * (c * (D * d)) * r ≡ 6 * (c * (D * d)) * (q + r)
    sum q r = go (6 * (c * (D * d)))
      where
        go : (k : ℕ) → k * q + k * r ≡ k * (q + r)
        go k = omega arith

    turn : (u : ℕ) → n * (3 * (u * d)) * (120 * (D * D * d)) ≡ n * d * (360 * (u * (D * (D * d))))
    turn u = omega arith

    group : (u : ℕ) → S * c * (360 * (u * (D * (D * d)))) ≡ 6 * (c * (D * d)) * (60 * (S * u * D))
    group u = omega arith

    turned : n * (6 * (D * d)) * (120 * (D * D * d)) ≡ n * d * (720 * (D * (D * (D * d))))
    turned = omega arith

    grouped : S * c * (720 * (D * (D * (D * d)))) ≡ 6 * (c * (D * d)) * (120 * (S * (D * D)))
    grouped = omega arith

low-joined : (p₀ p₁ p₂ p₃ F q₁ q₃ F₅ r₀ r₂ F₃ n c : ℕ) → 0 < F₃ → 0 < F₅ → p₁ * F₅ + q₃ * F ≤ q₁ * F + p₃ * F₅ → r₀ * F + p₂ * F₃ ≤ p₀ * F₃ + r₂ * F
    → c * q₁ * F₃ + n * r₂ * F₅ ≤ n * r₀ * F₅ + c * q₃ * F₃ → p₁ * c + p₂ * n ≤ p₃ * c + p₀ * n
low-joined p₀ p₁ p₂ p₃ F q₁ q₃ F₅ r₀ r₂ F₃ n c a b h k l =
    le_of_mul-le-mul_right {k = F₃ * F₅}
    (sums (c * F₃ * (p₁ * F₅)) (c * F₃ * (q₃ * F)) (c * F₃ * (q₁ * F)) (c * F₃ * (p₃ * F₅)) (n * F₅ * (r₀ * F)) (n * F₅ * (p₂ * F₃)) (n * F₅ * (p₀ * F₃)) (n * F₅ * (r₂ * F))
    (spread (c * F₃) (p₁ * F₅) (q₃ * F) (q₁ * F) (p₃ * F₅) h) (spread (n * F₅) (r₀ * F) (p₂ * F₃) (p₀ * F₃) (r₂ * F) k)
    (le_trans (le_of_eq (ap₂ (λ (x y : ℕ). x + y) (turn c q₁ F₃) (turn n r₂ F₅))) (le_trans (spread F (c * q₁ * F₃) (n * r₂ * F₅) (n * r₀ * F₅) (c * q₃ * F₃) l) (le_of_eq (sym (ap₂ (λ (x y : ℕ). x + y) (turn n r₀ F₅) (turn c q₃ F₃))))))
    (apart p₁ p₂) (apart p₃ p₀))
    (mul-pos a b)
  where
    spread : (m x y z w : ℕ) → x + y ≤ z + w → m * x + m * y ≤ m * z + m * w
    spread m x y z w h = omega (arith, mul-le-mul_left m h)

    turn : (m x G : ℕ) → m * G * (x * F) ≡ F * (m * x * G)
    turn m x G = omega arith

    apart : (x y : ℕ) → (x * c + y * n) * (F₃ * F₅) ≡ c * F₃ * (x * F₅) + n * F₅ * (y * F₃)
    apart x y = omega arith

    sums : (A B E G H I J K : ℕ) {x y : ℕ} → A + B ≤ E + G → H + I ≤ J + K → E + K ≤ H + B → x ≡ A + I → y ≡ G + J → x ≤ y
    sums A B E G H I J K h k l e f = omega arith

low : (Y W d n c : ℕ) → 0 < d → 3 * (d * d) * W ≡ (Y + W) * (Y + W) * (Y + W) → n * d ≡ (Y + W) * c → Y ≤ 4 * d → SinLe Y d n c
low Y W d n c D cube same small = (
  5,
  λ k h.
      low-joined (num (class 0) Y d k) (num (class 1) Y d k) (num (class 2) Y d k) (num (class 3) Y d k) (full d k) (num (class 1) Y d 5) (num (class 3) Y d 5) (full d 5) (num (class 0) Y d 3) (num (class 2) Y d 3) (full d 3) n c
      (full-pos d 3 D) (full-pos d 5 D) (one-wave.sine-nested Y d 1 D small (lit≤ tt) k h).1 (one-wave.cosine-nested Y d 0 D small k (le_trans (lit≤ tt) h)).0
      (rw (sine-plus-5 Y d, sine-minus-5 Y d, cosine-plus-3 Y d, cosine-minus-3 Y d, full-3 Y d, full-5 Y d) (low-poly Y (Y + W) (d * d) d n c (Y * Y * Y * Y * Y) same (low-core Y W (d * d) cube))),
)

-- ---- above: z and a, and w = a + b
high-core : (Z A B D : ℕ) → 3 * D * (A + B) ≡ (Z + A) * (Z + A) * (Z + A) → 4 * (D * D) * B ≡ (Z + A) * (Z + A) * (Z + A) * (Z + A) * (Z + A)
    → 24 * ((Z + A) * (D * D)) + (Z + A) * (Z * Z * Z * Z) + 4 * (Z * Z * Z * D) ≤ 24 * (Z * (D * D)) + 12 * ((Z + A) * (Z * Z) * D)
high-core Z A B D cube five =
    let S = Z + A in
    open_up (S * (Z * Z * Z * Z))
    (finish (Z * Z * (2 * S + A) * D) (S * S * A * D) (S * S * S * D) (A * A * A * D) (A * D * D) (B * D * D) (S * (Z * Z * Z * Z)) (S * S * S * S * S)
    (square Z A) (ap (λ (x : ℕ). x * D) (sym cube) ∙ turn D A B) (le_trans (mul-le-mul_left S (fourth Z S (le-add_right Z A))) (le_of_eq (flat S))) (parts S cube) (turned D B ∙ five))
  where
    square : (Z A : ℕ) → 4 * (Z * Z * (2 * (Z + A) + A) * D) + 12 * ((Z + A) * (Z + A) * A * D) ≡ 8 * ((Z + A) * (Z + A) * (Z + A) * D) + 4 * (A * A * A * D)
    square Z A = omega arith

    turn : (D A B : ℕ) → 3 * D * (A + B) * D ≡ 3 * (A * D * D) + 3 * (B * D * D)
    turn D A B = omega arith

    turned : (D B : ℕ) → 4 * (B * D * D) ≡ 4 * (D * D) * B
    turned D B = omega arith

    flat : (S : ℕ) → S * (S * S * S * S) ≡ S * S * S * S * S
    flat S = omega arith

    parts : (S : ℕ) → 3 * D * (A + B) ≡ S * S * S → 3 * (S * S * A * D) ≤ S * S * S * S * S
    parts S e = go (S * S * S * S * S) (ap (λ (x : ℕ). x * (S * S)) e)
      where
        go : (f : ℕ) → 3 * D * (A + B) * (S * S) ≡ S * S * S * (S * S) → 3 * (S * S * A * D) ≤ S * S * S * S * S
        go f i = omega (arith, i)

    finish : (g a b w s t y v : ℕ) → 4 * g + 12 * a ≡ 8 * b + 4 * w → b ≡ 3 * s + 3 * t → y ≤ v → 3 * a ≤ v → 4 * t ≡ v → y + 24 * s ≤ 4 * g
    finish g a b w s t y v i e f h k = omega arith

    open_up : (p : ℕ) → p + 24 * (A * D * D) ≤ 4 * (Z * Z * (2 * (Z + A) + A) * D) → 24 * ((Z + A) * (D * D)) + p + 4 * (Z * Z * Z * D) ≤ 24 * (Z * (D * D)) + 12 * ((Z + A) * (Z * Z) * D)
    open_up p h = omega (arith, h)

high-poly : (Z S D d n c p : ℕ) → 0 < d → d * d ≡ D → n * d ≡ S * c → 24 * (S * (D * D)) + S * p + 4 * (Z * Z * Z * D) ≤ 24 * (Z * (D * D)) + 12 * (S * (Z * Z) * D)
    → n * (24 * (D * D) + p) + c * (4 * (Z * Z * Z * d)) ≤ c * (24 * (Z * (D * d))) + n * (12 * (Z * Z * D))
high-poly Z S D d n c p P i e h =
    le_of_mul-le-mul_right {k = d}
    (le_trans (le_of_eq (left (Z * Z * Z) ∙ ap₂ (λ (x y : ℕ). x * (24 * (D * D)) + x * p + 4 * (c * (Z * Z * Z)) * y) e i ∙ lefts (Z * Z * Z)))
    (le_trans (mul-le-mul_left c h) (le_of_eq (sym (right (Z * Z) ∙ ap₂ (λ (x y : ℕ). 24 * (c * (Z * D)) * y + x * (12 * (Z * Z * D))) e i ∙ rights (Z * Z))))))
    P
  where
    left : (w : ℕ) → (n * (24 * (D * D) + p) + c * (4 * (w * d))) * d ≡ n * d * (24 * (D * D)) + n * d * p + 4 * (c * w) * (d * d)
    left w = omega arith

    lefts : (w : ℕ) → S * c * (24 * (D * D)) + S * c * p + 4 * (c * w) * D ≡ c * (24 * (S * (D * D)) + S * p + 4 * (w * D))
    lefts w = omega arith

    right : (u : ℕ) → (c * (24 * (Z * (D * d))) + n * (12 * (u * D))) * d ≡ 24 * (c * (Z * D)) * (d * d) + n * d * (12 * (u * D))
    right u = omega arith

    rights : (u : ℕ) → 24 * (c * (Z * D)) * D + S * c * (12 * (u * D)) ≡ c * (24 * (Z * (D * D)) + 12 * (S * u * D))
    rights u = omega arith

high-joined : (p₀ p₁ p₂ p₃ F q₁ q₃ r₀ r₂ F₄ n c : ℕ) → 0 < F₄ → q₁ * F + p₃ * F₄ ≤ p₁ * F₄ + q₃ * F → p₀ * F₄ + r₂ * F ≤ r₀ * F + p₂ * F₄
    → n * r₀ + c * q₃ ≤ c * q₁ + n * r₂ → p₃ * c + p₀ * n ≤ p₁ * c + p₂ * n
high-joined p₀ p₁ p₂ p₃ F q₁ q₃ r₀ r₂ F₄ n c P h k l = le_of_mul-le-mul_right {k = F₄} (omega (arith, mul-le-mul_left c h, mul-le-mul_left n k, mul-le-mul_right F l)) P

high : (Z A B d n c : ℕ) → 0 < d → 3 * (d * d) * (A + B) ≡ (Z + A) * (Z + A) * (Z + A) → 4 * (d * d * (d * d)) * B ≡ (Z + A) * (Z + A) * (Z + A) * (Z + A) * (Z + A) → n * d ≡ (Z + A) * c → Z ≤ 4 * d → SinGe Z d n c
high Z A B d n c D cube five same small = (
  5,
  λ k h.
      high-joined (num (class 0) Z d k) (num (class 1) Z d k) (num (class 2) Z d k) (num (class 3) Z d k) (full d k) (num (class 1) Z d 4) (num (class 3) Z d 4) (num (class 0) Z d 4) (num (class 2) Z d 4) (full d 4) n c
      (full-pos d 4 D) (one-wave.sine-nested Z d 1 D small (lit≤ tt) k h).0 (one-wave.cosine-nested Z d 0 D small k (le_trans (lit≤ tt) h)).1
      (rw (sine-plus-4 Z d, sine-minus-4 Z d, cosine-plus-4 Z d, cosine-minus-4 Z d) (high-poly Z (Z + A) (d * d) d n c (Z * Z * Z * Z) D refl same (high-core Z A B (d * d) cube five))),
)

-- ---- at v = n / c up to 1
module _ (n c : ℕ) (C : 0 < c) (h : n ≤ c) where
  thrice : n * n * n ≤ n * (c * c)
  thrice = le_trans (le_of_eq (turn n)) (mul-le-mul_left n (mul-le-mul h h))
    where
      turn : (n : ℕ) → n * n * n ≡ n * (n * n)
      turn n = omega arith

  five-times : n * n * n * n * n ≤ n * n * n * (c * c)
  five-times = le_trans (le_of_eq (turn n)) (mul-le-mul_left (n * n * n) (mul-le-mul h h))
    where
      turn : (n : ℕ) → n * n * n * n * n ≡ n * n * n * (n * n)
      turn n = omega arith

  below : SinLe (3 * n * (c * c) - n * n * n) (3 * (c * c) * c) n c
  below =
      low (3 * n * (c * c) - n * n * n) (n * n * n) (3 * (c * c) * c) n c (mul-pos (mul-pos {m = 3} (lit< tt) (mul-pos C C)) C)
      (powers n c ∙ ap (λ (x : ℕ). x * x * x) (sym whole)) (turn n (c * c) c ∙ ap (λ (x : ℕ). x * c) (sym whole)) (least n (c * c) c (mul-le-mul_right (c * c) h))
    where
      whole : 3 * n * (c * c) - n * n * n + n * n * n ≡ 3 * n * (c * c)
      whole = go (n * n * n) (n * (c * c)) (3 * n * (c * c)) thrice (mul_assoc 3 n (c * c))
        where
          go : (p q r : ℕ) → p ≤ q → r ≡ 3 * q → r - p + p ≡ r
          go p q r i e = omega arith

      powers : (n c : ℕ) → 3 * (3 * (c * c) * c * (3 * (c * c) * c)) * (n * n * n) ≡ 3 * n * (c * c) * (3 * n * (c * c)) * (3 * n * (c * c))
      powers n c = omega arith

      turn : (n C c : ℕ) → n * (3 * C * c) ≡ 3 * n * C * c
      turn n C c = omega arith

      least : (n C c : ℕ) → n * C ≤ c * C → 3 * n * C - n * n * n ≤ 4 * (3 * C * c)
      least n C c i = go (n * C) (c * C) (n * n * n) (3 * n * C) (4 * (3 * C * c)) i (mul_assoc 3 n C) (flat' C c)
        where
          flat' : (C c : ℕ) → 4 * (3 * C * c) ≡ 12 * (c * C)
          flat' C c = omega arith

          go : (p q r s t : ℕ) → p ≤ q → s ≡ 3 * p → t ≡ 12 * q → s - r ≤ t
          go p q r s t i e f = omega arith

  abbrev E : ℕ
  E = c * c * (c * c)

  abbrev P : ℕ
  P = n * n * n * n * n

  above : SinGe (12 * n * (c * c * (c * c)) + 3 * (n * n * n * n * n) - 4 * (n * n * n) * (c * c)) (12 * (c * c * (c * c)) * c) n c
  above =
      high (12 * n * E + 3 * P - 4 * (n * n * n) * (c * c)) (4 * (n * n * n) * (c * c) - 3 * P) (3 * P) (12 * E * c) n c (mul-pos (mul-pos {m = 12} (lit< tt) (mul-pos (mul-pos C C) (mul-pos C C))) C)
      (ap (λ (x : ℕ). 3 * (12 * E * c * (12 * E * c)) * x) joined ∙ powers n c ∙ ap (λ (x : ℕ). x * x * x) (sym whole)) (more-powers n c ∙ ap (λ (x : ℕ). x * x * x * x * x) (sym whole)) (turn n E c ∙ ap (λ (x : ℕ). x * c) (sym whole)) least
    where
      -- 3 p ≤ 4 n³ c², and 4 n³ c² ≤ 12 n c⁴
      first : 3 * P ≤ 4 * (n * n * n) * (c * c)
      first = go P (n * n * n * (c * c)) (4 * (n * n * n) * (c * c)) five-times (mul_assoc 4 (n * n * n) (c * c))
        where
          go : (p q r : ℕ) → p ≤ q → r ≡ 4 * q → 3 * p ≤ r
          go p q r i e = omega arith

      second : 4 * (n * n * n) * (c * c) ≤ 12 * n * E
      second = go (n * n * n * (c * c)) (n * (c * c) * (c * c)) (4 * (n * n * n) * (c * c)) (12 * n * E) (mul-le-mul_right (c * c) thrice) (mul_assoc 4 (n * n * n) (c * c)) (flat' n (c * c))
        where
          flat' : (n C : ℕ) → 12 * n * (C * C) ≡ 12 * (n * C * C)
          flat' n C = omega arith

          go : (p q r s : ℕ) → p ≤ q → r ≡ 4 * p → s ≡ 12 * q → r ≤ s
          go p q r s i e f = omega arith

      joined : 4 * (n * n * n) * (c * c) - 3 * P + 3 * P ≡ 4 * (n * n * n) * (c * c)
      joined = sub-add_cancel first

      whole : 12 * n * E + 3 * P - 4 * (n * n * n) * (c * c) + (4 * (n * n * n) * (c * c) - 3 * P) ≡ 12 * n * E
      whole = go (12 * n * E) (4 * (n * n * n) * (c * c)) (3 * P) first second
        where
          go : (v w b : ℕ) → b ≤ w → w ≤ v → v + b - w + (w - b) ≡ v
          go v w b i j = omega arith

      powers : (n c : ℕ) → 3 * (12 * (c * c * (c * c)) * c * (12 * (c * c * (c * c)) * c)) * (4 * (n * n * n) * (c * c)) ≡ 12 * n * (c * c * (c * c)) * (12 * n * (c * c * (c * c))) * (12 * n * (c * c * (c * c)))
      powers n c = omega arith

      more-powers : (n c : ℕ) → 4 * (12 * (c * c * (c * c)) * c * (12 * (c * c * (c * c)) * c) * (12 * (c * c * (c * c)) * c * (12 * (c * c * (c * c)) * c))) * (3 * (n * n * n * n * n)) ≡ 12 * n * (c * c * (c * c)) * (12 * n * (c * c * (c * c))) * (12 * n * (c * c * (c * c))) * (12 * n * (c * c * (c * c))) * (12 * n * (c * c * (c * c)))
      more-powers n c = omega arith

      turn : (n E c : ℕ) → n * (12 * E * c) ≡ 12 * n * E * c
      turn n E c = omega arith

      least : 12 * n * E + 3 * P - 4 * (n * n * n) * (c * c) ≤ 4 * (12 * E * c)
      least = go (12 * n * E) (4 * (n * n * n) * (c * c)) (3 * P) (12 * E * c) first (le_trans (le_of_eq (swap n E)) (mul-le-mul_left (12 * E) h))
        where
          swap : (n E : ℕ) → 12 * n * E ≡ 12 * E * n
          swap n E = omega arith

          go : (v w b t : ℕ) → b ≤ w → v ≤ t → v + b - w ≤ 4 * t
          go v w b t i j = omega arith

pub atan-own-series : AtanOwnSeries
atan-own-series n c C h = (below n c C h, above n c C h)
