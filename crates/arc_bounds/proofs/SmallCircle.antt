-- The tangent of a small angle w against R / P where R is known against the hypotenuse: cos² + sin² = 1, which the first terms of the two series keep within 2 units of the radius B.
use mathlib.Core.Path.{◌≡◌, ap, subst}
use Prim.Native.Nat.{ℕ, ◌+◌, ◌*◌, ◌^◌, ◌≤◌, ◌<◌}
use native.Mathlib.Nat.{le_of_lt, le_dest, mul-pos, mul-le-mul, mul-le-mul_left, mul-le-mul_right, le_of_mul-le-mul_right}
use native.Mathlib.Omega.{arith}
use Rattle.scalar.proofs.WholeRoot.{square-back}
use Rattle.cases.proofs.Cases.{split}
use Rattle.series.proofs.SmallAngle.{Parts}

pub twice : (a b : ℕ) → 2 * (a * b) ≤ a * a + b * b
twice a b = split a b (λ l. at a b (le_dest (le_of_lt l))) (λ l. turn (at b a (le_dest l)))
  where
    at : (a b : ℕ) → (d : ℕ) × (a + d ≡ b) → 2 * (a * b) ≤ a * a + b * b
    at a b o = subst (λ (x : ℕ). 2 * (a * x) ≤ a * a + x * x) o.1 (go a o.0)
      where
        go : (a d : ℕ) → 2 * (a * (a + d)) ≤ a * a + (a + d) * (a + d)
        go a d = omega arith

    turn : 2 * (b * a) ≤ b * b + a * a → 2 * (a * b) ≤ a * a + b * b
    turn h = omega (arith, h)

-- ---- the circle: κ and σ are cosine and sine of w (f, g, k: w² / 2, w³ / 6, w⁴ / 24), ρ is room
module _ (w B f g k D σ κ ρ : ℕ) (P : Parts w B f g k D) (eσ : σ + g ≡ w) (eκ : κ + f ≡ B + k) (big : 2 ^ 10 ≤ B) (W : 120 * w ≤ B) (wide : w ≤ 2 ^ 28 * ρ) where
  b : 0 < B
  b = omega arith

  pub W² : 14400 * (w * w) ≤ B * B
  W² = omega (arith, mul-le-mul W W)

  f-w : 240 * f ≤ w
  f-w = le_of_mul-le-mul_right {k = B} (omega (arith, P.f-low, mul-le-mul_right w W)) b

  pub g-w : 86400 * g ≤ w
  g-w = le_of_mul-le-mul_right {k = B * B} (omega (arith, P.g-low, mul-le-mul_right w W²)) (mul-pos b b)

  W³ : 1728000 * (w * w * w) ≤ B * B * B
  W³ = omega (arith, mul-le-mul W² W)

  k-w : 41472000 * k ≤ w
  k-w = le_of_mul-le-mul_right {k = B * B * B} (omega (arith, P.k-low, mul-le-mul_right w W³)) (mul-pos (mul-pos b b) b)

  κ-square : κ * κ + 2 * (B * f) + 2 * (k * f) ≡ f * f + B * B + 2 * (B * k) + k * k
  κ-square = omega (arith, ap (λ (x : ℕ). x * x) eκ, ap (λ (x : ℕ). x * f) eκ)

  -- ---- not much below the radius
  kf : k * f ≤ w * ρ
  kf = let m : k ≤ 240 * ρ = omega (arith, k-w) in omega (arith, mul-le-mul_right f m, mul-le-mul_right ρ f-w)

  quartic-low : 2 * (k * f) + 2 * (w * g) + 4 ≤ 4 * B + f * f + 2 * (B * k) + 2 * (w * ρ)
  quartic-low =
      let s : 2 * f + 5 ≤ 2 * B = omega (arith, f-w) in
      le_of_mul-le-mul_right {k = 12 * (B * B)}
      (omega (arith, mul-le-mul_left w P.g-low, mul-le-mul P.f-high P.f-high, P.k-high, mul-le-mul_right (B * B) kf, mul-le-mul_right (B * B) s))
      (mul-pos (omega arith) (mul-pos b b))

  pub circle-low : (B' : ℕ) → B' + 2 ≡ B → B' * B' ≤ κ * κ + (σ + ρ) * (σ + ρ)
  circle-low B' e =
      omega (arith, κ-square, quartic-low, P.f-low, twice ρ g, e, ap (λ (x : ℕ). x * x) e, ap (λ (x : ℕ). (x + ρ) * (x + ρ)) eσ, ap (λ (x : ℕ). (x + ρ) * g) eσ)

  -- ---- nor much above it
  k-f : k ≤ f
  k-f = go (le_of_mul-le-mul_right {k = 4 * (B * B * B)} (omega (arith, P.k-low, mul-le-mul P.f-high P.f-high, mul-le-mul_left ((f + 1) * (B * B)) s)) (mul-pos (omega arith) (mul-pos (mul-pos b b) b)))
    where
      s : f + 1 ≤ B
      s = omega (arith, f-w)

      go : 6 * k ≤ f + 1 → k ≤ f
      go h = omega arith

  quartic-high : f * f + 2 * (B * k) ≤ 2 * (w * g) + 2 * w
  quartic-high =
      le_of_mul-le-mul_right {k = 12 * (B * B)}
      (omega (arith, mul-le-mul P.f-low P.f-low, P.k-low, mul-le-mul_left w P.g-high))
      (mul-pos (omega arith) (mul-pos b b))

  module _ (τ : ℕ) (eτ : τ + ρ ≡ σ) where
    cut : (ρ + g) * (ρ + g) ≤ 2 * (w * ρ)
    cut =
        let m : g ≤ 43200 * ρ = omega (arith, g-w) in
        let r : ρ ≤ w = omega arith in
        omega (arith, mul-le-mul_left ρ r, mul-le-mul_right ρ g-w, mul-le-mul_left g m)

    pub circle-high : κ * κ + τ * τ ≤ (B + 2) * (B + 2)
    circle-high =
        let e : τ + (ρ + g) ≡ w = omega arith in
        omega (arith, κ-square, quartic-high, cut, P.f-high, mul-le-mul_left k k-f, W, ap (λ (x : ℕ). x * x) e, ap (λ (x : ℕ). x * (ρ + g)) e)

-- ---- from the sine to the tangent
pub under-tangent : (u κ P R H B : ℕ) → B * B ≤ κ * κ + u * u → R * R + P * P ≤ H * H → u * H ≤ B * R → u * P ≤ κ * R
under-tangent u κ P R H B c h s = square-back (u * P) (κ * R) (omega (arith, mul-le-mul s s, mul-le-mul_left (u * u) h, mul-le-mul_left (R * R) c))

pub over-tangent : (u κ P R H B : ℕ) → κ * κ + u * u ≤ B * B → H * H ≤ R * R + P * P → B * R ≤ u * H → κ * R ≤ u * P
over-tangent u κ P R H B c h s = square-back (κ * R) (u * P) (omega (arith, mul-le-mul s s, mul-le-mul_left (u * u) h, mul-le-mul_left (R * R) c))

-- R and P are the sides that two of squares M and N make together
pub sides : (x y c n R : ℕ) → R + y * c ≡ x * n → R * R + (x * c + y * n) * (x * c + y * n) ≡ (x * x + y * y) * (c * c + n * n)
sides x y c n R e = omega (arith, ap (λ (t : ℕ). t * t) e, ap (λ (t : ℕ). t * (y * c)) e)
