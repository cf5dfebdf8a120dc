-- The tangent of A + w against x, from the table's entry at A, the quotient q and a small angle w below or above q - q³ / 3.
use mathlib.Core.Path.{◌≡◌, sym, subst, subst₂}
use Prim.Native.Nat.{ℕ, ◌+◌, ◌-◌, ◌*◌, ◌/◌, ◌^◌, ◌≤◌, ◌<◌}
use native.Mathlib.Nat.{mul-pos, mul-le-mul, mul-le-mul_left, mul-le-mul_right, le_of_mul-le-mul_right, sub-add_cancel}
use native.Mathlib.Omega.{arith}
use Rattle.series.specs.Series.{SinLe, SinGe}
use Rattle.series.proofs.Waves.{Enc4}
use Rattle.series.proofs.SmallAngle.{Parts, parts-of, small-enc}
use Rattle.arc_tables.proofs.Tangent.{Angle, tan-le, tan-ge}
use Rattle.arcs.proofs.Cubic.{poly-le, poly-ge}

-- ---- q / B is R / P, within 1 / B
quotient_le : (B P σ κ R q ρ : ℕ) → 0 < B → q * P ≤ R * B → (σ + ρ) * B ≤ κ * q → (σ + ρ) * P ≤ κ * R
quotient_le B P σ κ R q ρ b v h = le_of_mul-le-mul_right {k = B} (omega (arith, mul-le-mul_left κ v, mul-le-mul_right P h)) b

quotient-ge : (B P σ κ R q ρ : ℕ) → 0 < B → R * B ≤ (q + 1) * P → κ * (q + 1) + B * ρ ≤ σ * B → κ * R + ρ * P ≤ σ * P
quotient-ge B P σ κ R q ρ b v h = le_of_mul-le-mul_right {k = B} (omega (arith, mul-le-mul_left κ v, mul-le-mul_right P h)) b

module _ (B w D : ℕ) (b : 0 < B) (W : 120 * w ≤ B) (d : w + 2 ^ 33 ≤ D * 2 ^ 33) where
  abbrev pub f : ℕ
  f = w * w / (2 * B)

  abbrev pub g : ℕ
  g = w * w * w / (6 * (B * B))

  abbrev pub k : ℕ
  k = w * w * w * w / (24 * (B * B * B))

  fourth : 207360000 * (w * w * w * w) ≤ B * B * B * B
  fourth = omega (arith, mul-le-mul (mul-le-mul (mul-le-mul W W) W) W)

  rest : w * w * w * w * w + 60 * (B * B * B * B) ≤ 60 * (B * B * B * B) * D
  rest = go (B * B * B * B) (w * w * w * w) fourth
    where
      go : (T t : ℕ) → 207360000 * t ≤ T → t * w + 60 * T ≤ 60 * T * D
      go T t h = omega (arith, mul-le-mul_right w h, mul-le-mul_left T d)

  pub parts : Parts w B f g k D
  parts = parts-of w B D b rest

  w≤B : w ≤ B
  w≤B = omega arith

  f-le : f ≤ w
  f-le = le_of_mul-le-mul_right {k = B} (go f parts.f-low (mul-le-mul_left w w≤B)) b
    where
      go : (f : ℕ) → f * (2 * B) ≤ w * w → w * w ≤ w * B → f * B ≤ w * B
      go f a c = omega arith

  g-le : g ≤ w
  g-le = le_of_mul-le-mul_right {k = B * B} (go g (B * B) (w * w) parts.g-low (mul-le-mul w≤B w≤B)) (mul-pos b b)
    where
      go : (g BB ww : ℕ) → g * (6 * BB) ≤ ww * w → ww ≤ BB → g * BB ≤ w * BB
      go g BB ww a c = omega (arith, mul-le-mul_right w c)

  k-le : k ≤ w
  k-le = le_of_mul-le-mul_right {k = B * B * B} (go k (B * B * B) (w * w * w) parts.k-low (mul-le-mul (mul-le-mul w≤B w≤B) w≤B)) (mul-pos (mul-pos b b) b)
    where
      go : (k T t : ℕ) → k * (24 * T) ≤ t * w → t ≤ T → k * T ≤ w * T
      go k T t a c = omega (arith, mul-le-mul_right w c)

  abbrev pub σ : ℕ
  σ = w - g

  abbrev pub κ : ℕ
  κ = B + k - f

  pub eσ : σ + g ≡ w
  eσ = sub-add_cancel g-le

  pub eκ : κ + f ≡ B + k
  eκ = go f k f-le
    where
      go : (f k : ℕ) → f ≤ w → B + k - f + f ≡ B + k
      go f k h = omega (arith, w≤B)

  total : σ + g + (κ + f) + g + f ≤ 2 * B
  total = go σ κ f g k eσ eκ f-le g-le k-le
    where
      go : (σ κ f g k : ℕ) → σ + g ≡ w → κ + f ≡ B + k → f ≤ w → g ≤ w → k ≤ w → σ + g + (κ + f) + g + f ≤ 2 * B
      go σ κ f g k a c l m n = omega arith

  angle : Enc4 (σ + g) B B (κ + f) (σ + g) f g (κ + f + D) (σ + g + D) (f + D) (g + D)
  angle = subst₂ (λ (x y : ℕ). Enc4 x B B y x f g (y + D) (x + D) (f + D) (g + D)) (sym eσ) (sym eκ) (small-enc w B f g k D b w≤B parts)

  module _ (m x₀ y₀ A C S a₂ a₃ c n R : ℕ) (T : Angle m x₀ y₀ A B C S a₂ a₃) (e_r : R + y₀ * c ≡ x₀ * n) (far : 64 * (m * (c + n)) ≤ x₀ * c + y₀ * n) where
    -- from sine and cosine of w
    pub tan-below : (σ + (2571 + 33 * D)) * (x₀ * c + y₀ * n) ≤ κ * R → SinLe (A + w) B n c
    tan-below h = subst (λ (x : ℕ). SinLe (A + x) B n c) eσ (tan-le m x₀ y₀ A B C S a₂ a₃ σ κ f g D c n R b T angle e_r far total h)

    pub tan-over : κ * R + (2571 + 33 * D) * (x₀ * c + y₀ * n) ≤ σ * (x₀ * c + y₀ * n) → SinGe (A + w) B n c
    tan-over h = subst (λ (x : ℕ). SinGe (A + x) B n c) eσ (tan-ge m x₀ y₀ A B C S a₂ a₃ σ κ f g D c n R b T angle e_r far total h)

    -- from the quotient q
    module _ (q j : ℕ) where
      pub below : q * (x₀ * c + y₀ * n) ≤ R * B → q * q * q ≤ 3 * (B * B) * (j + 2) → w + (j + 3 + (2571 + 33 * D)) ≤ q → SinLe (A + w) B n c
      below v J h = tan-below (quotient_le B (x₀ * c + y₀ * n) σ κ R q (2571 + 33 * D) b v (poly-le w q B f g k D σ κ j (2571 + 33 * D) b parts eσ eκ J h))

      pub over : (x : ℕ) → R * B ≤ (q + 1) * (x₀ * c + y₀ * n) → 120 * q ≤ B → w ≤ 2 * q → 5 ≤ q → q ≤ x * 2 ^ 29 → 3 * (B * B) * j ≤ q * q * q → q + (2 + x + (2571 + 33 * D)) ≤ w + j → SinGe (A + w) B n c
      over x v Q two five X J h = tan-over (quotient-ge B (x₀ * c + y₀ * n) σ κ R q (2571 + 33 * D) b v (poly-ge w q B f g k D σ κ j (2571 + 33 * D) b parts eσ eκ x Q W two five X J h))
