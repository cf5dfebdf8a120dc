-- The product of two power series, cut off: the terms with i + j up to M are among those with i and j up to M, and those are among the terms with i + j up to 2 M.
-- And the binomial theorem, in the form that a diagonal's terms a ^ i / i! * b ^ j / j! come to (a + b) ^ N / N!.
use mathlib.Core.Path.{◌≡◌, refl, ap, ap₂, ◌∙◌}
use Prim.Native.Nat.{ℕ, zero, suc, ◌+◌, ◌*◌, ◌^◌, ◌≤◌}
use native.Mathlib.Nat.{le_trans, le_of_eq, le_refl, add-le-add, zero-add, suc-add, mul_assoc, mul_comm, mul_left_comm, mul-add, add-mul, add_assoc, add_comm, add_left_comm, mul-le-mul_left, pow-suc, pow-succ', pow-zero, le_of_suc-le-suc}
use native.Mathlib.Omega.{arith}
use Rattle.series.proofs.Terms.{pow-1}

ruleset ring = (mul-add, add-mul, mul_assoc, mul_comm, mul_left_comm, add_assoc, add_comm, add_left_comm)

unfoldable pub fac : ℕ → ℕ
fac zero = 1
fac (suc n) = suc n * fac n

-- the sum of a ^ i * w i for the i up to M
unfoldable pub S : (a : ℕ) (w : ℕ → ℕ) → ℕ → ℕ
S a w zero = w 0
S a w (suc M) = w 0 + a * S a (λ i. w (suc i)) M

-- the sum of a ^ i * b ^ j * h i j for i + j = N, and for i + j up to M
unfoldable pub D : (a b : ℕ) (h : ℕ → ℕ → ℕ) → ℕ → ℕ
D a b h zero = h 0 0
D a b h (suc N) = b ^ suc N * h 0 (suc N) + a * D a b (λ i. h (suc i)) N

unfoldable pub Tri : (a b : ℕ) (h : ℕ → ℕ → ℕ) → ℕ → ℕ
Tri a b h zero = h 0 0
Tri a b h (suc M) = Tri a b h M + D a b h (suc M)

-- the sum of a ^ i * b ^ j * h i j for i up to M and j up to L
unfoldable pub Sq : (a b : ℕ) (h : ℕ → ℕ → ℕ) (L : ℕ) → ℕ → ℕ
Sq a b h L zero = S b (h 0) L
Sq a b h L (suc M) = S b (h 0) L + a * Sq a b (λ i. h (suc i)) L M

module _ (a b : ℕ) where
  pub S-last : (w : ℕ → ℕ) (M : ℕ) → S b w (suc M) ≡ S b w M + b ^ suc M * w (suc M)
  unfolding S
  S-last w zero = omega (arith, ap (λ (x : ℕ). x * w 1) (pow-1 b))
  S-last w (suc M) =
      let t = S b (λ i. w (suc i)) M in
      let e : S b (λ i. w (suc i)) (suc M) ≡ t + b ^ suc M * w (suc (suc M)) = S-last (λ i. w (suc i)) M in
      omega (arith, ap (λ (x : ℕ). b * x) e, ap (λ (x : ℕ). x * w (suc (suc M))) (pow-succ' b (suc M)))

  tri-step : (h : ℕ → ℕ → ℕ) (M : ℕ) → Tri a b h (suc M) ≡ S b (h 0) (suc M) + a * Tri a b (λ i. h (suc i)) M
  unfolding Tri D S
  tri-step h zero = omega (arith, S-last (h 0) 0)
  tri-step h (suc M) = omega (arith, S-last (h 0) (suc M), tri-step h M)

  S-more : (w : ℕ → ℕ) (M L : ℕ) → M ≤ L → S b w M ≤ S b w L
  unfolding S
  S-more w zero zero l = le_refl (w 0)
  S-more w zero (suc L) l = omega arith
  S-more w (suc M) zero l = omega arith
  S-more w (suc M) (suc L) l = omega (arith, mul-le-mul_left b (S-more (λ i. w (suc i)) M L (le_of_suc-le-suc l)))

  pub tri-sq : (h : ℕ → ℕ → ℕ) (M L : ℕ) → M ≤ L → Tri a b h M ≤ Sq a b h L M
  unfolding Tri Sq S
  tri-sq h zero L l = S-more (h 0) 0 L l
  tri-sq h (suc M) L l =
      le_trans (le_of_eq (tri-step h M)) (add-le-add (S-more (h 0) (suc M) L l) (mul-le-mul_left a (tri-sq (λ i. h (suc i)) M L (omega arith))))

  row-tri : (h : ℕ → ℕ → ℕ) (L : ℕ) → S b (h 0) L ≤ Tri a b h L
  unfolding S Tri
  row-tri h zero = le_refl (h 0 0)
  row-tri h (suc L) = omega (arith, tri-step h L)

  pub sq-tri : (h : ℕ → ℕ → ℕ) (M L : ℕ) → Sq a b h L M ≤ Tri a b h (M + L)
  unfolding Sq
  sq-tri h zero L = rw zero-add (row-tri h L)
  sq-tri h (suc M) L =
      rw (suc-add, tri-step) (add-le-add (S-more (h 0) L (suc (M + L)) (omega arith)) (mul-le-mul_left a (sq-tri (λ i. h (suc i)) M L)))

  -- where the weights are products, the square is a product
  S-scale : (c : ℕ) (w : ℕ → ℕ) (M : ℕ) → S b (λ j. c * w j) M ≡ c * S b w M
  unfolding S
  S-scale c w zero = refl
  S-scale c w (suc M) = omega (arith, ap (λ (x : ℕ). b * x) (S-scale c (λ i. w (suc i)) M))

  pub sq-product : (w v : ℕ → ℕ) (M L : ℕ) → Sq a b (λ i j. w i * v j) L M ≡ S a w M * S b v L
  unfolding Sq S
  sq-product w v zero L = S-scale (w 0) v L
  sq-product w v (suc M) L = omega (arith, S-scale (w 0) v L, ap (λ (x : ℕ). a * x) (sq-product (λ i. w (suc i)) v M L))

  -- ---- the binomial theorem: words of N letters a and b
  unfoldable pub W : (f : ℕ → ℕ → ℕ) → ℕ → ℕ
  W f zero = f 0 0
  W f (suc N) = a * W (λ i. f (suc i)) N + b * W (λ i j. f i (suc j)) N

  pub W-const : (c N : ℕ) → W (λ i j. c) N ≡ (a + b) ^ N * c
  unfolding W
  W-const c zero = omega (arith, ap (λ (x : ℕ). x * c) (pow-zero (a + b)))
  W-const c (suc N) = omega (arith, ap (λ (x : ℕ). a * x) (W-const c N), ap (λ (x : ℕ). b * x) (W-const c N), ap (λ (x : ℕ). x * c) (pow-suc (a + b) N))

  -- only the weights with i + j = N count
  pub W_ext : (f g : ℕ → ℕ → ℕ) (N : ℕ) → ((i j : ℕ) → i + j ≡ N → f i j ≡ g i j) → W f N ≡ W g N
  unfolding W
  W_ext f g zero e = e 0 0 refl
  W_ext f g (suc N) e =
      ap₂ (λ (x y : ℕ). a * x + b * y) (W_ext (λ i. f (suc i)) (λ i. g (suc i)) N (λ i j h. e (suc i) j (omega arith)))
      (W_ext (λ i j. f i (suc j)) (λ i j. g i (suc j)) N (λ i j h. e i (suc j) (omega arith)))

  D-add : (f g : ℕ → ℕ → ℕ) (N : ℕ) → D a b (λ i j. f i j + g i j) N ≡ D a b f N + D a b g N
  unfolding D
  D-add f g zero = refl
  D-add f g (suc N) = omega (arith, ap (λ (x : ℕ). a * x) (D-add (λ i. f (suc i)) (λ i. g (suc i)) N))

  pub D-ext : (f g : ℕ → ℕ → ℕ) (N : ℕ) → ((i j : ℕ) → i + j ≡ N → f i j ≡ g i j) → D a b f N ≡ D a b g N
  unfolding D
  D-ext f g zero e = e 0 0 refl
  D-ext f g (suc N) e = ap₂ (λ (x y : ℕ). b ^ suc N * x + a * y) (e 0 (suc N) (omega arith)) (D-ext (λ i. f (suc i)) (λ i. g (suc i)) N (λ i j h. e (suc i) j (omega arith)))

  pub D-scale : (e : ℕ) (f : ℕ → ℕ → ℕ) (N : ℕ) → D a b (λ i j. e * f i j) N ≡ e * D a b f N
  unfolding D
  D-scale e f zero = refl
  D-scale e f (suc N) = omega (arith, ap (λ (x : ℕ). a * x) (D-scale e (λ i. f (suc i)) N))

  pub D-zero : (h : ℕ → ℕ → ℕ) → D a b h 0 ≡ h 0 0
  unfolding D
  D-zero h = refl

  -- one letter b more
  D-right : (h : ℕ → ℕ → ℕ) (N : ℕ) → D a b (λ i j. j * h i j) (suc N) ≡ b * D a b (λ i j. suc j * h i (suc j)) N
  unfolding D
  D-right h zero = omega (arith, ap (λ (x : ℕ). x * (1 * h 0 1)) (pow-1 b))
  D-right h (suc N) = omega (arith, ap (λ (x : ℕ). a * x) (D-right (λ i. h (suc i)) N), ap (λ (x : ℕ). x * (suc (suc N) * h 0 (suc (suc N)))) (pow-succ' b (suc N)))

  D-left : (h : ℕ → ℕ → ℕ) (N : ℕ) → D a b (λ i j. i * h i j) (suc N) ≡ a * D a b (λ i j. suc i * h (suc i) j) N
  unfolding D
  D-left h N = omega arith

  D-suc : (h : ℕ → ℕ → ℕ) (N : ℕ) → D a b (λ i j. suc i * h i j) N ≡ D a b h N + D a b (λ i j. i * h i j) N
  D-suc h N = D-ext (λ i j. suc i * h i j) (λ i j. h i j + i * h i j) N (λ i j e. omega arith) ∙ D-add h (λ i j. i * h i j) N

  weight : (h : ℕ → ℕ → ℕ) (N : ℕ) → D a b (λ i j. i * h i j) N + D a b (λ i j. j * h i j) N ≡ N * D a b h N
  unfolding D
  weight h zero = omega arith
  weight h (suc N) =
      omega (arith, D-left h N, ap (λ (x : ℕ). a * x) (D-suc (λ i. h (suc i)) N), ap (λ (x : ℕ). a * x) (weight (λ i. h (suc i)) N))

  pub W-diag : (h : ℕ → ℕ → ℕ) (N : ℕ) → W (λ i j. fac i * fac j * h i j) N ≡ fac N * D a b h N
  unfolding W fac
  W-diag h zero = omega (arith, D-zero h)
  W-diag h (suc N) =
      let e₁ : W (λ i j. fac (suc i) * fac j * h (suc i) j) N ≡ fac N * D a b (λ i j. suc i * h (suc i) j) N =
      W_ext (λ i j. fac (suc i) * fac j * h (suc i) j) (λ i j. fac i * fac j * (suc i * h (suc i) j)) N (λ i j e. omega arith) ∙ W-diag (λ i j. suc i * h (suc i) j) N in
      let e₂ : W (λ i j. fac i * fac (suc j) * h i (suc j)) N ≡ fac N * D a b (λ i j. suc j * h i (suc j)) N =
      W_ext (λ i j. fac i * fac (suc j) * h i (suc j)) (λ i j. fac i * fac j * (suc j * h i (suc j))) N (λ i j e. omega arith) ∙ W-diag (λ i j. suc j * h i (suc j)) N in
      omega (arith, ap (λ (x : ℕ). a * x) e₁, ap (λ (x : ℕ). b * x) e₂, ap (λ (x : ℕ). fac N * x) (D-left h N), ap (λ (x : ℕ). fac N * x) (D-right h N), ap (λ (x : ℕ). fac N * x) (weight h (suc N)))
