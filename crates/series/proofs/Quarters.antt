-- The exponential series cut into the four classes of exponents modulo 4, and the sum of two arguments: what lies behind the addition theorems of sine and cosine. All terms are positive.
-- With e_r x the sum of the x ^ k / k! whose k leaves r: cos x = e_0 x - e_2 x, sin x = e_1 x - e_3 x.
use mathlib.Core.Path.{◌≡◌, refl, sym, ap, ap₂, ◌∙◌, fun_ext}
use Prim.Native.Nat.{ℕ, zero, suc, ◌+◌, ◌-◌, ◌*◌, ◌≤◌, ◌<◌}
use native.Mathlib.Nat.{le_trans, le_of_eq, le_refl, zero-add, suc-add, mul_assoc, mul_comm, mul_left_comm, mul-le-mul_right, eq_of_mul-eq-mul_right, le_of_mul-le-mul_right}
use native.Mathlib.Omega.{arith}
use Rattle.series.specs.Series.{full, num, class}
use Rattle.series.proofs.Cauchy.{S, Tri, Sq, tri-sq, sq-tri, sq-product}
use Rattle.series.proofs.Addition.{co, h, tri-num, row-num, full-pos}

abbrev Law : ℕ → ℕ → Type 0
Law i j =
    (class 0 (i + j) ≡ class 0 i * class 0 j + class 1 i * class 3 j + class 2 i * class 2 j + class 3 i * class 1 j)
    × (class 1 (i + j) ≡ class 0 i * class 1 j + class 1 i * class 0 j + class 2 i * class 3 j + class 3 i * class 2 j)
    × (class 2 (i + j) ≡ class 0 i * class 2 j + class 1 i * class 1 j + class 2 i * class 0 j + class 3 i * class 3 j)
    × (class 3 (i + j) ≡ class 0 i * class 3 j + class 1 i * class 2 j + class 2 i * class 1 j + class 3 i * class 0 j)

pub law : (i j : ℕ) → Law i j
unfolding class
law zero j = rw zero-add (omega arith, omega arith, omega arith, omega arith)
law (suc i) j = let l = law i j in rw suc-add (omega (arith, l.3), omega (arith, l.0), omega (arith, l.1), omega (arith, l.2))

module _ (a b : ℕ) where
  S-add : (f g : ℕ → ℕ) (M : ℕ) → S b (λ j. f j + g j) M ≡ S b f M + S b g M
  unfolding S
  S-add f g zero = refl
  S-add f g (suc M) = omega (arith, ap (λ (x : ℕ). b * x) (S-add (λ i. f (suc i)) (λ i. g (suc i)) M))

  pub Sq-add : (f g : ℕ → ℕ → ℕ) (L M : ℕ) → Sq a b (λ i j. f i j + g i j) L M ≡ Sq a b f L M + Sq a b g L M
  unfolding Sq
  Sq-add f g L zero = S-add (f 0) (g 0) L
  Sq-add f g L (suc M) = omega (arith, S-add (f 0) (g 0) L, ap (λ (x : ℕ). a * x) (Sq-add (λ i. f (suc i)) (λ i. g (suc i)) L M))

pub spread : (x y p q r s t u m n k : ℕ) → k ≡ p * q + r * s + t * u + m * n → x * y * k ≡ x * p * (y * q) + x * r * (y * s) + x * t * (y * u) + x * m * (y * n)
spread x y p q r s t u m n k h = omega (arith, ap (λ (o : ℕ). x * y * o) h)

-- a weight of i + j that is a sum of four products
module _ (c f₀ g₀ f₁ g₁ f₂ g₂ f₃ g₃ : ℕ → ℕ) (e : (i j : ℕ) → c (i + j) ≡ f₀ i * g₀ j + f₁ i * g₁ j + f₂ i * g₂ j + f₃ i * g₃ j) (a b d : ℕ) (dp : 0 < d) where
  abbrev v : ℕ → ℕ → ℕ
  v P i = co d i (P - i)

  sq-four : (P L M : ℕ) → Sq a b (h c a b d P) L M
      ≡ S a (λ i. v P i * f₀ i) M * S b (λ i. v P i * g₀ i) L + S a (λ i. v P i * f₁ i) M * S b (λ i. v P i * g₁ i) L + S a (λ i. v P i * f₂ i) M * S b (λ i. v P i * g₂ i) L + S a (λ i. v P i * f₃ i) M * S b (λ i. v P i * g₃ i) L
  sq-four P L M =
      ap (λ (f : ℕ → ℕ → ℕ). Sq a b f L M) (fun_ext (λ (i : ℕ). fun_ext (λ (j : ℕ). spread (v P i) (v P j) (f₀ i) (g₀ j) (f₁ i) (g₁ j) (f₂ i) (g₂ j) (f₃ i) (g₃ j) (c (i + j)) (e i j))))
      ∙ Sq-add a b (λ i j. v P i * f₀ i * (v P j * g₀ j) + v P i * f₁ i * (v P j * g₁ j) + v P i * f₂ i * (v P j * g₂ j)) (λ i j. v P i * f₃ i * (v P j * g₃ j)) L M
      ∙ ap₂ (λ (x y : ℕ). x + y)
      (Sq-add a b (λ i j. v P i * f₀ i * (v P j * g₀ j) + v P i * f₁ i * (v P j * g₁ j)) (λ i j. v P i * f₂ i * (v P j * g₂ j)) L M
      ∙ ap₂ (λ (x y : ℕ). x + y)
      (Sq-add a b (λ i j. v P i * f₀ i * (v P j * g₀ j)) (λ i j. v P i * f₁ i * (v P j * g₁ j)) L M
      ∙ ap₂ (λ (x y : ℕ). x + y) (sq-product a b (λ i. v P i * f₀ i) (λ i. v P i * g₀ i) M L) (sq-product a b (λ i. v P i * f₁ i) (λ i. v P i * g₁ i) M L))
      (sq-product a b (λ i. v P i * f₂ i) (λ i. v P i * g₂ i) M L))
      (sq-product a b (λ i. v P i * f₃ i) (λ i. v P i * g₃ i) M L)

  row : (f : ℕ → ℕ) (n P M : ℕ) → M ≤ P → S n (λ i. v P i * f i) M * full d M ≡ num f n d M * full d P
  row f n P M l = row-num f n 0 d P M l

  row_is : (f : ℕ → ℕ) (n M : ℕ) → S n (λ i. v M i * f i) M ≡ num f n d M
  row_is f n M = eq_of_mul-eq-mul_right (full d M) (full-pos d M dp) (S n (λ i. v M i * f i) M) (num f n d M) (row f n M M (le_refl M))

  tri-is : (M : ℕ) → Tri a b (h c a b d M) M ≡ num c (a + b) d M * full d M
  tri-is M = eq_of_mul-eq-mul_right (full d M) (full-pos d M dp) (Tri a b (h c a b d M) M) (num c (a + b) d M * full d M) (tri-num c a b d M M (le_refl M) ∙ sym (mul_assoc (num c (a + b) d M) (full d M) (full d M)))

  pub four-under : (M : ℕ) → num c (a + b) d M * full d M ≤ num f₀ a d M * num g₀ b d M + num f₁ a d M * num g₁ b d M + num f₂ a d M * num g₂ b d M + num f₃ a d M * num g₃ b d M
  four-under M =
      le_trans (le_of_eq (sym (tri-is M))) (le_trans (tri-sq a b (h c a b d M) M M (le_refl M)) (le_of_eq (sq-four M M M
      ∙ ap₂ (λ (x y : ℕ). x + y)
      (ap₂ (λ (x y : ℕ). x + y) (ap₂ (λ (x y : ℕ). x + y) (ap₂ (λ (x y : ℕ). x * y) (row_is f₀ a M) (row_is g₀ b M)) (ap₂ (λ (x y : ℕ). x * y) (row_is f₁ a M) (row_is g₁ b M))) (ap₂ (λ (x y : ℕ). x * y) (row_is f₂ a M) (row_is g₂ b M)))
      (ap₂ (λ (x y : ℕ). x * y) (row_is f₃ a M) (row_is g₃ b M)))))

  -- x * f = p * Q and y * g = q * Q
  pair : (x y f g p q Q : ℕ) → x * f ≡ p * Q → y * g ≡ q * Q → x * y * (f * g) ≡ p * q * (Q * Q)
  pair x y f g p q Q u k = simp (mul_assoc, mul_comm, mul_left_comm) (simp (mul_assoc, mul_comm, mul_left_comm) at (ap₂ (λ (s t : ℕ). s * t) u k))

  pub four-over : (M L : ℕ) → (num f₀ a d M * num g₀ b d L + num f₁ a d M * num g₁ b d L + num f₂ a d M * num g₂ b d L + num f₃ a d M * num g₃ b d L) * full d (M + L) ≤ num c (a + b) d (M + L) * (full d M * full d L)
  four-over M L =
      go (full d M * full d L) (full d (M + L)) (full-pos d (M + L) dp) (Tri a b (h c a b d (M + L)) (M + L)) (num c (a + b) d (M + L))
      (S a (λ i. v (M + L) i * f₀ i) M * S b (λ i. v (M + L) i * g₀ i) L) (S a (λ i. v (M + L) i * f₁ i) M * S b (λ i. v (M + L) i * g₁ i) L) (S a (λ i. v (M + L) i * f₂ i) M * S b (λ i. v (M + L) i * g₂ i) L) (S a (λ i. v (M + L) i * f₃ i) M * S b (λ i. v (M + L) i * g₃ i) L)
      (num f₀ a d M * num g₀ b d L) (num f₁ a d M * num g₁ b d L) (num f₂ a d M * num g₂ b d L) (num f₃ a d M * num g₃ b d L)
      (tri-num c a b d (M + L) (M + L) (le_refl (M + L))) (le_trans (le_of_eq (sym (sq-four (M + L) L M))) (sq-tri a b (h c a b d (M + L)) M L))
      (both f₀ g₀) (both f₁ g₁) (both f₂ g₂) (both f₃ g₃)
    where
      both : (f g : ℕ → ℕ) → S a (λ i. v (M + L) i * f i) M * S b (λ i. v (M + L) i * g i) L * (full d M * full d L) ≡ num f a d M * num g b d L * (full d (M + L) * full d (M + L))
      both f g = pair (S a (λ i. v (M + L) i * f i) M) (S b (λ i. v (M + L) i * g i) L) (full d M) (full d L) (num f a d M) (num g b d L) (full d (M + L)) (row f a (M + L) M (omega arith)) (row g b (M + L) L (omega arith))

      go : (F Q : ℕ) → 0 < Q → (t n x₀ x₁ x₂ x₃ y₀ y₁ y₂ y₃ : ℕ) → t * Q ≡ n * (Q * Q) → x₀ + x₁ + x₂ + x₃ ≤ t → x₀ * F ≡ y₀ * (Q * Q) → x₁ * F ≡ y₁ * (Q * Q) → x₂ * F ≡ y₂ * (Q * Q) → x₃ * F ≡ y₃ * (Q * Q)
          → (y₀ + y₁ + y₂ + y₃) * Q ≤ n * F
      go F Q Qp t n x₀ x₁ x₂ x₃ y₀ y₁ y₂ y₃ e₁ l a₀ a₁ a₂ a₃ =
          let t' : t ≡ n * Q = eq_of_mul-eq-mul_right Q Qp t (n * Q) (e₁ ∙ sym (mul_assoc n Q Q)) in
          le_of_mul-le-mul_right {k = Q} (omega (arith, mul-le-mul_right F (le_trans l (le_of_eq t')), a₀, a₁, a₂, a₃)) Qp

-- ---- the addition theorems of sine and cosine, in positive parts: e_r (x + y) lies between the sums of products cut off at M and L, and at M
module _ (a b d : ℕ) (dp : 0 < d) where
  pub under-0 : (M : ℕ) → num (class 0) (a + b) d M * full d M ≤ num (class 0) a d M * num (class 0) b d M + num (class 1) a d M * num (class 3) b d M + num (class 2) a d M * num (class 2) b d M + num (class 3) a d M * num (class 1) b d M
  under-0 M = four-under (class 0) (class 0) (class 0) (class 1) (class 3) (class 2) (class 2) (class 3) (class 1) (λ i j. (law i j).0) a b d dp M

  pub over-0 : (M L : ℕ) → (num (class 0) a d M * num (class 0) b d L + num (class 1) a d M * num (class 3) b d L + num (class 2) a d M * num (class 2) b d L + num (class 3) a d M * num (class 1) b d L) * full d (M + L) ≤ num (class 0) (a + b) d (M + L) * (full d M * full d L)
  over-0 M L = four-over (class 0) (class 0) (class 0) (class 1) (class 3) (class 2) (class 2) (class 3) (class 1) (λ i j. (law i j).0) a b d dp M L

  pub under-1 : (M : ℕ) → num (class 1) (a + b) d M * full d M ≤ num (class 0) a d M * num (class 1) b d M + num (class 1) a d M * num (class 0) b d M + num (class 2) a d M * num (class 3) b d M + num (class 3) a d M * num (class 2) b d M
  under-1 M = four-under (class 1) (class 0) (class 1) (class 1) (class 0) (class 2) (class 3) (class 3) (class 2) (λ i j. (law i j).1) a b d dp M

  pub over-1 : (M L : ℕ) → (num (class 0) a d M * num (class 1) b d L + num (class 1) a d M * num (class 0) b d L + num (class 2) a d M * num (class 3) b d L + num (class 3) a d M * num (class 2) b d L) * full d (M + L) ≤ num (class 1) (a + b) d (M + L) * (full d M * full d L)
  over-1 M L = four-over (class 1) (class 0) (class 1) (class 1) (class 0) (class 2) (class 3) (class 3) (class 2) (λ i j. (law i j).1) a b d dp M L

  pub under-2 : (M : ℕ) → num (class 2) (a + b) d M * full d M ≤ num (class 0) a d M * num (class 2) b d M + num (class 1) a d M * num (class 1) b d M + num (class 2) a d M * num (class 0) b d M + num (class 3) a d M * num (class 3) b d M
  under-2 M = four-under (class 2) (class 0) (class 2) (class 1) (class 1) (class 2) (class 0) (class 3) (class 3) (λ i j. (law i j).2) a b d dp M

  pub over-2 : (M L : ℕ) → (num (class 0) a d M * num (class 2) b d L + num (class 1) a d M * num (class 1) b d L + num (class 2) a d M * num (class 0) b d L + num (class 3) a d M * num (class 3) b d L) * full d (M + L) ≤ num (class 2) (a + b) d (M + L) * (full d M * full d L)
  over-2 M L = four-over (class 2) (class 0) (class 2) (class 1) (class 1) (class 2) (class 0) (class 3) (class 3) (λ i j. (law i j).2) a b d dp M L

  pub under-3 : (M : ℕ) → num (class 3) (a + b) d M * full d M ≤ num (class 0) a d M * num (class 3) b d M + num (class 1) a d M * num (class 2) b d M + num (class 2) a d M * num (class 1) b d M + num (class 3) a d M * num (class 0) b d M
  under-3 M = four-under (class 3) (class 0) (class 3) (class 1) (class 2) (class 2) (class 1) (class 3) (class 0) (λ i j. (law i j).3) a b d dp M

  pub over-3 : (M L : ℕ) → (num (class 0) a d M * num (class 3) b d L + num (class 1) a d M * num (class 2) b d L + num (class 2) a d M * num (class 1) b d L + num (class 3) a d M * num (class 0) b d L) * full d (M + L) ≤ num (class 3) (a + b) d (M + L) * (full d M * full d L)
  over-3 M L = four-over (class 3) (class 0) (class 3) (class 1) (class 2) (class 2) (class 1) (class 3) (class 0) (λ i j. (law i j).3) a b d dp M L
