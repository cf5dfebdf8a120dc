-- What the table's angle and the small angle w must satisfy for the tangent of their sum to be at most, or at least, x = n / c.
-- The tangent of the table's angle is y₀ / x₀ and its cosine and sine are C and S (in units of 1 / U, a₀ = a₂ + C and a₁ = a₃ + S the classes);
-- sine and cosine of w are σ and κ (in units of 1 / B).
use mathlib.Core.Path.{◌≡◌, sym, ap, ap₂, ◌∙◌, subst}
use Prim.Native.Nat.{ℕ, ◌+◌, ◌*◌, ◌≤◌, ◌<◌}
use native.Mathlib.Nat.{mul-pos, mul_assoc, mul_comm, mul_left_comm, mul-add, mul-le-mul, mul-le-mul_left, mul-le-mul_right, le_of_mul-le-mul_right}
use native.Mathlib.Omega.{arith}
use Rattle.series.specs.Series.{SinLe, SinGe}
use Rattle.series.proofs.Waves.{Enc4, plus}
use Rattle.series.proofs.Bounds.{sin-le, sin-ge}

-- ---- the widths of the enclosures
abbrev pub Err : (a₂ a₃ C S σ κ f g D : ℕ) → ℕ
Err a₂ a₃ C S σ κ f g D = D * (a₂ + C + (a₃ + S) + a₂ + a₃) + 2 * (σ + g + (κ + f) + g + f) + 8 * D

module _ (a₂ a₃ C S σ κ f g D : ℕ) where
  eq-1 : (a₂ + C + 2) * (σ + g + D) + (a₃ + S + 2) * (κ + f + D) + (a₂ + 2) * (g + D) + (a₃ + 2) * (f + D)
      ≡ (a₂ + C) * g + (a₃ + S) * f + a₂ * (σ + g) + a₃ * (κ + f) + (C * σ + S * κ) + Err a₂ a₃ C S σ κ f g D
  eq-1 = omega arith

  eq-2 : (a₂ + C + 2) * (f + D) + (a₃ + S + 2) * (σ + g + D) + (a₂ + 2) * (κ + f + D) + (a₃ + 2) * (g + D) + C * κ
      ≡ (a₂ + C) * (κ + f) + (a₃ + S) * g + a₂ * f + a₃ * (σ + g) + S * σ + Err a₂ a₃ C S σ κ f g D
  eq-2 = omega arith

  eq-3 : (a₂ + C + 2) * (g + D) + (a₃ + S + 2) * (f + D) + (a₂ + 2) * (σ + g + D) + (a₃ + 2) * (κ + f + D) + (C * σ + S * κ)
      ≡ (a₂ + C) * (σ + g) + (a₃ + S) * (κ + f) + a₂ * g + a₃ * f + Err a₂ a₃ C S σ κ f g D
  eq-3 = omega arith

  eq-0 : (a₂ + C + 2) * (κ + f + D) + (a₃ + S + 2) * (g + D) + (a₂ + 2) * (f + D) + (a₃ + 2) * (σ + g + D) + S * σ
      ≡ (a₂ + C) * f + (a₃ + S) * (σ + g) + a₂ * (κ + f) + a₃ * g + C * κ + Err a₂ a₃ C S σ κ f g D
  eq-0 = omega arith

close-le : (H H' L L' X Y Z E c n : ℕ) → H ≡ L + X + E → H' + Y ≡ L' + Z + E → X * c + Z * n + (c + n) * E ≤ Y * n → H * c + H' * n ≤ L * c + L' * n
close-le H H' L L' X Y Z E c n e f h = omega (arith, ap (λ (x : ℕ). x * c) e, ap (λ (x : ℕ). x * n) f)

close-ge : (H H' L L' X Y Z E c n : ℕ) → H + X ≡ L + E → H' + Z ≡ L' + Y + E → Y * n + (c + n) * E ≤ X * c + Z * n → H * c + H' * n ≤ L * c + L' * n
close-ge H H' L L' X Y Z E c n e f h = omega (arith, ap (λ (x : ℕ). x * c) e, ap (λ (x : ℕ). x * n) f)

-- ---- the table's slope is y₀ / x₀ within τ
module _ (x₀ y₀ C S σ κ c n R E τ : ℕ) (X : 0 < x₀) (e_r : R + y₀ * c ≡ x₀ * n) where
  abbrev Z : ℕ
  Z = τ * (κ * c + σ * n) + x₀ * ((c + n) * E)

  -- with i = κ c, j = σ n, a = C σ c, k = C κ n, t = y₀ C
  go-le : (i j a k t r e : ℕ) → x₀ * S ≤ t + τ → a * x₀ + t * j + (τ * (i + j) + x₀ * e) ≤ r → r + t * i ≡ k * x₀ → (a + S * i + S * j + e) * x₀ ≤ k * x₀
  go-le i j a k t r e s h f = omega (arith, h, f, mul-le-mul_right (i + j) s)

  go-ge : (i j a k t r e : ℕ) → t ≤ x₀ * S + τ → r + (τ * (i + j) + x₀ * e) ≤ a * x₀ + t * j → r + t * i ≡ k * x₀ → (k + e) * x₀ ≤ (a + S * i + S * j) * x₀
  go-ge i j a k t r e s h f = omega (arith, h, f, mul-le-mul_right (i + j) s)

  right : C * κ * R + y₀ * C * (κ * c) ≡ C * κ * n * x₀
  right = go (C * κ) ∙ ap (λ (x : ℕ). C * κ * x) e_r ∙ simp (mul_assoc, mul_comm, mul_left_comm)
    where
      flat : y₀ * C * (κ * c) ≡ C * κ * (y₀ * c)
      flat = simp (mul_assoc, mul_comm, mul_left_comm)

      go : (m : ℕ) → C * κ * R + y₀ * C * (κ * c) ≡ C * κ * (R + y₀ * c)
      go m = ap (λ (x : ℕ). C * κ * R + x) flat ∙ sym (mul-add (C * κ) R (y₀ * c))

  left : C * σ * (x₀ * c + y₀ * n) ≡ C * σ * c * x₀ + y₀ * C * (σ * n)
  left = mul-add (C * σ) (x₀ * c) (y₀ * n) ∙ ap₂ (λ (x y : ℕ). x + y) first second
    where
      first : C * σ * (x₀ * c) ≡ C * σ * c * x₀
      first = simp (mul_assoc, mul_comm, mul_left_comm)

      second : C * σ * (y₀ * n) ≡ y₀ * C * (σ * n)
      second = simp (mul_assoc, mul_comm, mul_left_comm)

  sum : (C * σ + S * κ) * c + S * σ * n ≡ C * σ * c + S * (κ * c) + S * (σ * n)
  sum = omega arith

  slope-le : x₀ * S ≤ y₀ * C + τ → C * σ * (x₀ * c + y₀ * n) + Z ≤ C * κ * R → (C * σ + S * κ) * c + S * σ * n + (c + n) * E ≤ C * κ * n
  slope-le s h =
      subst (λ (x : ℕ). x + (c + n) * E ≤ C * κ * n) (sym sum)
      (le_of_mul-le-mul_right {k = x₀} (go-le (κ * c) (σ * n) (C * σ * c) (C * κ * n) (y₀ * C) (C * κ * R) ((c + n) * E) s (subst (λ (x : ℕ). x + Z ≤ C * κ * R) left h) right) X)

  slope-ge : y₀ * C ≤ x₀ * S + τ → C * κ * R + Z ≤ C * σ * (x₀ * c + y₀ * n) → C * κ * n + (c + n) * E ≤ (C * σ + S * κ) * c + S * σ * n
  slope-ge s h =
      subst (λ (x : ℕ). C * κ * n + (c + n) * E ≤ x) (sym sum)
      (le_of_mul-le-mul_right {k = x₀} (go-ge (κ * c) (σ * n) (C * σ * c) (C * κ * n) (y₀ * C) (C * κ * R) ((c + n) * E) s (subst (λ (x : ℕ). C * κ * R + Z ≤ x) left h) right) X)

-- ---- the tangent of w is R / P, with room for the errors z
room-le : (C P σ κ R ρ z : ℕ) → (σ + ρ) * P ≤ κ * R → z ≤ C * P * ρ → C * σ * P + z ≤ C * κ * R
room-le C P σ κ R ρ z h k = omega (arith, mul-le-mul_left C h, k)

room-ge : (C P σ κ R ρ z : ℕ) → κ * R + ρ * P ≤ σ * P → z ≤ C * P * ρ → C * κ * R + z ≤ C * σ * P
room-ge C P σ κ R ρ z h k = omega (arith, mul-le-mul_left C h, k)

-- ---- all the errors of enclosures and table are below ρ = 2571 + 33 D units
errors : (m x₀ B C P σ κ c n E D τ : ℕ) → 0 < m → τ ≤ 20560 * x₀ → κ ≤ 2 * B → σ ≤ 2 * B → x₀ * (64 * B) ≤ 256 * (m * C) → 64 * (m * (c + n)) ≤ P → E ≤ 512 * (B * D) + 4 * B + 8 * D → 8 * D ≤ 8 * (B * D)
    → τ * (κ * c + σ * n) + x₀ * ((c + n) * E) ≤ C * P * (2571 + 33 * D)
errors m x₀ B C P σ κ c n E D τ M t k s u p e d =
    let a : κ * c + σ * n ≤ 2 * B * (c + n) = omega (arith, mul-le-mul_right c k, mul-le-mul_right n s) in
    let b : τ * (κ * c + σ * n) ≤ 20560 * x₀ * (2 * B * (c + n)) = mul-le-mul t a in
    let f : (c + n) * E ≤ (c + n) * (520 * (B * D) + 4 * B) = mul-le-mul_left (c + n) (omega arith) in
    let g : x₀ * (64 * B) * (64 * (m * (c + n))) ≤ 256 * (m * C) * P = mul-le-mul u p in
    let h : 16 * (x₀ * B * (c + n)) ≤ C * P = le_of_mul-le-mul_right {k = m} (omega (arith, g)) M in
    omega (arith, b, mul-le-mul_left x₀ f, mul-le-mul_right (2571 + 33 * D) h)

-- ---- together; x₀ and y₀ are m times numbers of up to 256 or so
pub record Angle (m x₀ y₀ A B C S a₂ a₃ : ℕ) : Type 0 where
  pub scale-pos : 0 < m
  pub enc : Enc4 A B (64 * B) (a₂ + C) (a₃ + S) a₂ a₃ (a₂ + C + 2) (a₃ + S + 2) (a₂ + 2) (a₃ + 2)
  pub left-pos : 0 < x₀
  pub slope-low : x₀ * S ≤ y₀ * C + 80 * (x₀ + y₀)
  pub slope-high : y₀ * C ≤ x₀ * S + 80 * (x₀ + y₀)
  pub sum : a₂ + C + (a₃ + S) + a₂ + a₃ ≤ 512 * B
  pub steep : x₀ + y₀ ≤ 257 * x₀
  pub cosine : x₀ * (64 * B) ≤ 256 * (m * C)

module _ (m x₀ y₀ A B C S a₂ a₃ σ κ f g D c n R : ℕ) (b : 0 < B) (T : Angle m x₀ y₀ A B C S a₂ a₃)
    (W : Enc4 (σ + g) B B (κ + f) (σ + g) f g (κ + f + D) (σ + g + D) (f + D) (g + D))
    (e_r : R + y₀ * c ≡ x₀ * n) (far : 64 * (m * (c + n)) ≤ x₀ * c + y₀ * n) (total : σ + g + (κ + f) + g + f ≤ 2 * B) where
  error : 80 * (x₀ + y₀) * (κ * c + σ * n) + x₀ * ((c + n) * Err a₂ a₃ C S σ κ f g D) ≤ C * (x₀ * c + y₀ * n) * (2571 + 33 * D)
  error =
      errors m x₀ B C (x₀ * c + y₀ * n) σ κ c n (Err a₂ a₃ C S σ κ f g D) D (80 * (x₀ + y₀)) T.scale-pos (omega (arith, T.steep)) (omega arith) (omega arith) T.cosine far
      (omega (arith, mul-le-mul_left D T.sum)) (mul-le-mul_left 8 (go B D b))
    where
      go : (B D : ℕ) → 0 < B → D ≤ B * D
      go B D b = omega (arith, mul-le-mul_right D b)

  -- the classes of the sum, from below and from above, and their widths
  abbrev l₀ : ℕ
  l₀ = (a₂ + C) * (κ + f) + (a₃ + S) * g + a₂ * f + a₃ * (σ + g)

  abbrev l₁ : ℕ
  l₁ = (a₂ + C) * (σ + g) + (a₃ + S) * (κ + f) + a₂ * g + a₃ * f

  abbrev l₂ : ℕ
  l₂ = (a₂ + C) * f + (a₃ + S) * (σ + g) + a₂ * (κ + f) + a₃ * g

  abbrev l₃ : ℕ
  l₃ = (a₂ + C) * g + (a₃ + S) * f + a₂ * (σ + g) + a₃ * (κ + f)

  abbrev h₀ : ℕ
  h₀ = (a₂ + C + 2) * (κ + f + D) + (a₃ + S + 2) * (g + D) + (a₂ + 2) * (f + D) + (a₃ + 2) * (σ + g + D)

  abbrev h₁ : ℕ
  h₁ = (a₂ + C + 2) * (σ + g + D) + (a₃ + S + 2) * (κ + f + D) + (a₂ + 2) * (g + D) + (a₃ + 2) * (f + D)

  abbrev h₂ : ℕ
  h₂ = (a₂ + C + 2) * (f + D) + (a₃ + S + 2) * (σ + g + D) + (a₂ + 2) * (κ + f + D) + (a₃ + 2) * (g + D)

  abbrev h₃ : ℕ
  h₃ = (a₂ + C + 2) * (g + D) + (a₃ + S + 2) * (f + D) + (a₂ + 2) * (σ + g + D) + (a₃ + 2) * (κ + f + D)

  abbrev err : ℕ
  err = Err a₂ a₃ C S σ κ f g D

  joined : Enc4 (A + (σ + g)) B (64 * B * B) l₀ l₁ l₂ l₃ h₀ h₁ h₂ h₃
  joined = plus A (σ + g) B (64 * B) (a₂ + C) (a₃ + S) a₂ a₃ (a₂ + C + 2) (a₃ + S + 2) (a₂ + 2) (a₃ + 2) B (κ + f) (σ + g) f g (κ + f + D) (σ + g + D) (f + D) (g + D) b T.enc W

  -- tan (A + w) is at most n / c
  pub tan-le : (σ + (2571 + 33 * D)) * (x₀ * c + y₀ * n) ≤ κ * R → SinLe (A + (σ + g)) B n c
  tan-le h =
      sin-le (A + (σ + g)) B (64 * B * B) l₀ l₁ l₂ l₃ h₀ h₁ h₂ h₃ b (mul-pos (mul-pos (omega arith) b) b) joined n c
      (close-le h₁ h₂ l₃ l₀ (C * σ + S * κ) (C * κ) (S * σ) err c n (eq-1 a₂ a₃ C S σ κ f g D) (eq-2 a₂ a₃ C S σ κ f g D)
      (slope-le x₀ y₀ C S σ κ c n R err (80 * (x₀ + y₀)) T.left-pos e_r T.slope-low
      (room-le C (x₀ * c + y₀ * n) σ κ R (2571 + 33 * D) (80 * (x₀ + y₀) * (κ * c + σ * n) + x₀ * ((c + n) * err)) h error)))

  -- and at least
  pub tan-ge : κ * R + (2571 + 33 * D) * (x₀ * c + y₀ * n) ≤ σ * (x₀ * c + y₀ * n) → SinGe (A + (σ + g)) B n c
  tan-ge h =
      sin-ge (A + (σ + g)) B (64 * B * B) l₀ l₁ l₂ l₃ h₀ h₁ h₂ h₃ b (mul-pos (mul-pos (omega arith) b) b) joined n c
      (close-ge h₃ h₀ l₁ l₂ (C * σ + S * κ) (C * κ) (S * σ) err c n (eq-3 a₂ a₃ C S σ κ f g D) (eq-0 a₂ a₃ C S σ κ f g D)
      (slope-ge x₀ y₀ C S σ κ c n R err (80 * (x₀ + y₀)) T.left-pos e_r T.slope-high
      (room-ge C (x₀ * c + y₀ * n) σ κ R (2571 + 33 * D) (80 * (x₀ + y₀) * (κ * c + σ * n) + x₀ * ((c + n) * err)) h error)))
