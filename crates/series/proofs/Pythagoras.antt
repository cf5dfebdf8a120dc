-- cos² + sin² = 1, in the positive parts: e_0² + e_1² + e_2² + e_3² = 1 + 2 * (e_0 * e_2 + e_1 * e_3), as inequalities of enclosures.
use mathlib.Core.Path.{◌≡◌, refl, sym, ap, ap₂, ◌∙◌, fun_ext}
use Prim.Native.Nat.{ℕ, zero, suc, ◌+◌, ◌-◌, ◌*◌, ◌^◌, ◌≤◌, ◌<◌}
use native.Mathlib.Nat.{le_trans, le_of_eq, le_refl, suc-add, mul_assoc, mul_comm, mul_left_comm, mul-le-mul_left, mul-le-mul_right, mul-pos, eq_of_mul-eq-mul_right, le_of_mul-le-mul_right, add_comm}
use native.Mathlib.Omega.{arith}
use Rattle.series.specs.Series.{full, num, class, one}
use Rattle.series.proofs.Cauchy.{fac, S, D, Tri, Sq, tri-sq, sq-tri, sq-product, W, W_ext, W-diag, D-scale}
use Rattle.series.proofs.Addition.{co, row-num, full-pos, full-pow, at-P, on-diagonal}
use Rattle.series.proofs.Quarters.{law, Sq-add, spread}
use Rattle.series.proofs.Waves.{Enc4, pair, pair', sum4}

-- the class of i - j: i + 3 j
abbrev gap : ℕ → ℕ → ℕ → ℕ
gap r i j = class r (i + (j + (j + j)))

thrice : (j : ℕ) → (class 0 (j + (j + j)) ≡ class 0 j) × (class 1 (j + (j + j)) ≡ class 3 j) × (class 2 (j + (j + j)) ≡ class 2 j) × (class 3 (j + (j + j)) ≡ class 1 j)
unfolding class
thrice zero = (refl, refl, refl, refl)
thrice (suc j) =
    let t = thrice j in
    let e : suc j + (suc j + suc j) ≡ suc (suc (suc (j + (j + j)))) = omega arith in
    rw e (t.1, t.2, t.3, t.0)

split-0 : (i j : ℕ) → gap 0 i j ≡ class 0 i * class 0 j + class 1 i * class 1 j + class 2 i * class 2 j + class 3 i * class 3 j
split-0 i j = let t = thrice j in (law i (j + (j + j))).0 ∙ ap₂ (λ (x y : ℕ). x + y) (ap₂ (λ (x y : ℕ). x + y) (ap₂ (λ (x y : ℕ). x + y) (ap (λ (x : ℕ). class 0 i * x) t.0) (ap (λ (x : ℕ). class 1 i * x) t.3)) (ap (λ (x : ℕ). class 2 i * x) t.2)) (ap (λ (x : ℕ). class 3 i * x) t.1)

split-2 : (i j : ℕ) → gap 2 i j ≡ class 0 i * class 2 j + class 1 i * class 3 j + class 2 i * class 0 j + class 3 i * class 1 j
split-2 i j = let t = thrice j in (law i (j + (j + j))).2 ∙ ap₂ (λ (x y : ℕ). x + y) (ap₂ (λ (x y : ℕ). x + y) (ap₂ (λ (x y : ℕ). x + y) (ap (λ (x : ℕ). class 0 i * x) t.2) (ap (λ (x : ℕ). class 1 i * x) t.1)) (ap (λ (x : ℕ). class 2 i * x) t.0)) (ap (λ (x : ℕ). class 3 i * x) t.3)

-- one letter more
gap-left : (r i j : ℕ) → gap (suc r) (suc i) j ≡ gap r i j
unfolding class
gap-left r i j = rw suc-add refl

gap-left-0 : (i j : ℕ) → gap 0 (suc i) j ≡ gap 3 i j
unfolding class
gap-left-0 i j = rw suc-add refl

three : (i j : ℕ) → i + (suc j + (suc j + suc j)) ≡ suc (suc (suc (i + (j + (j + j)))))
three i j = omega arith

gap-right-0 : (i j : ℕ) → gap 0 i (suc j) ≡ gap 1 i j
unfolding class
gap-right-0 i j = rw three refl

gap-right-2 : (i j : ℕ) → gap 2 i (suc j) ≡ gap 3 i j
unfolding class
gap-right-2 i j = rw three refl

-- in each diagonal but the first, both classes weigh the same
even : (a N : ℕ) → W a a (gap 0) (suc N) ≡ W a a (gap 2) (suc N)
unfolding W
even a N =
    ap₂ (λ (x y : ℕ). a * x + a * y) (W_ext a a (λ i j. gap 0 (suc i) j) (gap 3) N (λ i j e. gap-left-0 i j)) (W_ext a a (λ i j. gap 0 i (suc j)) (gap 1) N (λ i j e. gap-right-0 i j))
    ∙ add_comm (a * W a a (gap 3) N) (a * W a a (gap 1) N)
    ∙ sym (ap₂ (λ (x y : ℕ). a * x + a * y) (W_ext a a (λ i j. gap 2 (suc i) j) (gap 1) N (λ i j e. gap-left 1 i j)) (W_ext a a (λ i j. gap 2 i (suc j)) (gap 3) N (λ i j e. gap-right-2 i j)))

W-scale : (a q : ℕ) (f : ℕ → ℕ → ℕ) (N : ℕ) → W a a (λ i j. q * f i j) N ≡ q * W a a f N
unfolding W
W-scale a q f zero = refl
W-scale a q f (suc N) = omega (arith, ap (λ (x : ℕ). a * x) (W-scale a q (λ i. f (suc i)) N), ap (λ (x : ℕ). a * x) (W-scale a q (λ i j. f i (suc j)) N))

module _ (a d P : ℕ) (dp : 0 < d) where
  abbrev v : ℕ → ℕ
  v i = co d i (P - i)

  abbrev g : ℕ → ℕ → ℕ → ℕ
  g r i j = v i * v j * gap r i j

  Q : ℕ
  Q = full d P

  weigh : (N : ℕ) → N ≤ P → (k i j : ℕ) → i + j ≡ N → fac i * fac j * (d ^ N * (v i * v j * k)) ≡ full d P * full d P * k
  weigh N l k i j e = go (fac i) (fac j) (d ^ N) (v i) (v j) (full d P) (on-diagonal one a a d P N l i j e)
    where
      go : (x y w s t q : ℕ) → x * y * (w * (s * t * 1)) ≡ q * q * 1 → x * y * (w * (s * t * k)) ≡ q * q * k
      go x y w s t q h = omega (arith, ap (λ (u : ℕ). u * k) h)

  diagonal : (r N : ℕ) → N ≤ P → full d N * D a a (g r) N ≡ full d P * full d P * W a a (gap r) N
  diagonal r N l =
      ap (λ (x : ℕ). x * D a a (g r) N) (full-pow d N) ∙ mul_assoc (d ^ N) (fac N) (D a a (g r) N) ∙ mul_left_comm (d ^ N) (fac N) (D a a (g r) N) ∙ ap (λ (x : ℕ). fac N * x) (sym (D-scale a a (d ^ N) (g r) N))
      ∙ sym (W-diag a a (λ i j. d ^ N * g r i j) N)
      ∙ W_ext a a (λ i j. fac i * fac j * (d ^ N * g r i j)) (λ i j. full d P * full d P * gap r i j) N (λ i j e. weigh N l (gap r i j) i j e)
      ∙ W-scale a (full d P * full d P) (gap r) N

  same : (N : ℕ) → suc N ≤ P → D a a (g 0) (suc N) ≡ D a a (g 2) (suc N)
  same N l =
      eq_of_mul-eq-mul_right (full d (suc N)) (full-pos d (suc N) dp) (D a a (g 0) (suc N)) (D a a (g 2) (suc N))
      (mul_comm (D a a (g 0) (suc N)) (full d (suc N)) ∙ diagonal 0 (suc N) l ∙ ap (λ (x : ℕ). full d P * full d P * x) (even a N) ∙ sym (diagonal 2 (suc N) l) ∙ mul_comm (full d (suc N)) (D a a (g 2) (suc N)))

  v-zero : v 0 ≡ full d P
  unfolding full
  v-zero = omega (arith, at-P d P 0 (omega arith))

  tri : (M : ℕ) → M ≤ P → Tri a a (g 0) M ≡ Tri a a (g 2) M + full d P * full d P
  unfolding Tri class
  tri zero l = omega (arith, ap₂ (λ (x y : ℕ). x * y) v-zero v-zero)
  tri (suc M) l = omega (arith, tri M (omega arith), same M l)

  abbrev R : ℕ → ℕ → ℕ
  R s M = S a (λ i. v i * class s i) M

  sq : (r s₀ s₁ s₂ s₃ : ℕ) → ((i j : ℕ) → gap r i j ≡ class 0 i * class s₀ j + class 1 i * class s₁ j + class 2 i * class s₂ j + class 3 i * class s₃ j) → (M : ℕ) → Sq a a (g r) M M ≡ R 0 M * R s₀ M + R 1 M * R s₁ M + R 2 M * R s₂ M + R 3 M * R s₃ M
  sq r s₀ s₁ s₂ s₃ e M =
      ap (λ (f : ℕ → ℕ → ℕ). Sq a a f M M) (fun_ext (λ (i : ℕ). fun_ext (λ (j : ℕ). spread (v i) (v j) (class 0 i) (class s₀ j) (class 1 i) (class s₁ j) (class 2 i) (class s₂ j) (class 3 i) (class s₃ j) (gap r i j) (e i j))))
      ∙ Sq-add a a (λ i j. v i * class 0 i * (v j * class s₀ j) + v i * class 1 i * (v j * class s₁ j) + v i * class 2 i * (v j * class s₂ j)) (λ i j. v i * class 3 i * (v j * class s₃ j)) M M
      ∙ ap₂ (λ (x y : ℕ). x + y)
      (Sq-add a a (λ i j. v i * class 0 i * (v j * class s₀ j) + v i * class 1 i * (v j * class s₁ j)) (λ i j. v i * class 2 i * (v j * class s₂ j)) M M
      ∙ ap₂ (λ (x y : ℕ). x + y)
      (Sq-add a a (λ i j. v i * class 0 i * (v j * class s₀ j)) (λ i j. v i * class 1 i * (v j * class s₁ j)) M M
      ∙ ap₂ (λ (x y : ℕ). x + y) (sq-product a a (λ i. v i * class 0 i) (λ i. v i * class s₀ i) M M) (sq-product a a (λ i. v i * class 1 i) (λ i. v i * class s₁ i) M M))
      (sq-product a a (λ i. v i * class 2 i) (λ i. v i * class s₂ i) M M))
      (sq-product a a (λ i. v i * class 3 i) (λ i. v i * class s₃ i) M M)

  row : (s M : ℕ) → M ≤ P → R s M * full d M ≡ num (class s) a d M * full d P
  row s M l = row-num (class s) a 0 d P M l

finish-1 : (L H x y m q : ℕ) → 0 < q → L * (q * q) ≤ m * m * x → y * (m * m) ≤ q * q * H → x ≤ y + q * q → L ≤ m * m + H
finish-1 L H x y m q p a b c = le_of_mul-le-mul_right {k = q * q} (omega (arith, a, b, mul-le-mul_left (m * m) c)) (mul-pos p p)

finish-2 : (L H x y m q : ℕ) → 0 < q → L * (q * q) ≤ m * m * x → y * (m * m) ≤ q * q * H → x + q * q ≤ y → m * m + L ≤ H
finish-2 L H x y m q p a b c = le_of_mul-le-mul_right {k = q * q} (omega (arith, a, b, mul-le-mul_left (m * m) c)) (mul-pos p p)

-- cos² + sin² = 1
pub pythagoras : (a d m l₀ l₁ l₂ l₃ h₀ h₁ h₂ h₃ : ℕ) → 0 < d → Enc4 a d m l₀ l₁ l₂ l₃ h₀ h₁ h₂ h₃
    → (l₀ * l₀ + l₁ * l₁ + l₂ * l₂ + l₃ * l₃ ≤ m * m + (h₀ * h₂ + h₁ * h₃ + h₂ * h₀ + h₃ * h₁))
    × (m * m + (l₀ * l₂ + l₁ * l₃ + l₂ * l₀ + l₃ * l₁) ≤ h₀ * h₀ + h₁ * h₁ + h₂ * h₂ + h₃ * h₃)
pythagoras a d m l₀ l₁ l₂ l₃ h₀ h₁ h₂ h₃ dp E = (
  finish-1 (l₀ * l₀ + l₁ * l₁ + l₂ * l₂ + l₃ * l₃) (h₀ * h₂ + h₁ * h₃ + h₂ * h₀ + h₃ * h₁) (r 0 M * r 0 M + r 1 M * r 1 M + r 2 M * r 2 M + r 3 M * r 3 M) (r 0 P * r 2 P + r 1 P * r 3 P + r 2 P * r 0 P + r 3 P * r 1 P) m (full d P) (full-pos d P dp)
      (sum4 (q * q) (m * m) (l₀ * l₀) (l₁ * l₁) (l₂ * l₂) (l₃ * l₃) (r 0 M * r 0 M) (r 1 M * r 1 M) (r 2 M * r 2 M) (r 3 M * r 3 M) (pair l₀ q m (r 0 M) l₀ q m (r 0 M) lo0 lo0) (pair l₁ q m (r 1 M) l₁ q m (r 1 M) lo1 lo1) (pair l₂ q m (r 2 M) l₂ q m (r 2 M) lo2 lo2) (pair l₃ q m (r 3 M) l₃ q m (r 3 M) lo3 lo3))
      (sum4 (m * m) (q * q) (r 0 P * r 2 P) (r 1 P * r 3 P) (r 2 P * r 0 P) (r 3 P * r 1 P) (h₀ * h₂) (h₁ * h₃) (h₂ * h₀) (h₃ * h₁) (pair' m (r 0 P) h₀ q m (r 2 P) h₂ hi0 hi2) (pair' m (r 1 P) h₁ q m (r 3 P) h₃ hi1 hi3) (pair' m (r 2 P) h₂ q m (r 0 P) h₀ hi2 hi0) (pair' m (r 3 P) h₃ q m (r 1 P) h₁ hi3 hi1))
      (go-1 (Sq a a (g a d P dp 0) M M) (Sq a a (g a d P dp 2) P P) (Tri a a (g a d P dp 0) P) (Tri a a (g a d P dp 2) P) (sq a d P dp 0 0 1 2 3 split-0 M) (sq a d P dp 2 2 3 0 1 split-2 P) (sq-tri a a (g a d P dp 0) M M) (tri a d P dp P (le_refl P)) (tri-sq a a (g a d P dp 2) P P (le_refl P))),
  finish-2 (l₀ * l₂ + l₁ * l₃ + l₂ * l₀ + l₃ * l₁) (h₀ * h₀ + h₁ * h₁ + h₂ * h₂ + h₃ * h₃) (r 0 M * r 2 M + r 1 M * r 3 M + r 2 M * r 0 M + r 3 M * r 1 M) (r 0 P * r 0 P + r 1 P * r 1 P + r 2 P * r 2 P + r 3 P * r 3 P) m (full d P) (full-pos d P dp)
      (sum4 (q * q) (m * m) (l₀ * l₂) (l₁ * l₃) (l₂ * l₀) (l₃ * l₁) (r 0 M * r 2 M) (r 1 M * r 3 M) (r 2 M * r 0 M) (r 3 M * r 1 M) (pair l₀ q m (r 0 M) l₂ q m (r 2 M) lo0 lo2) (pair l₁ q m (r 1 M) l₃ q m (r 3 M) lo1 lo3) (pair l₂ q m (r 2 M) l₀ q m (r 0 M) lo2 lo0) (pair l₃ q m (r 3 M) l₁ q m (r 1 M) lo3 lo1))
      (sum4 (m * m) (q * q) (r 0 P * r 0 P) (r 1 P * r 1 P) (r 2 P * r 2 P) (r 3 P * r 3 P) (h₀ * h₀) (h₁ * h₁) (h₂ * h₂) (h₃ * h₃) (pair' m (r 0 P) h₀ q m (r 0 P) h₀ hi0 hi0) (pair' m (r 1 P) h₁ q m (r 1 P) h₁ hi1 hi1) (pair' m (r 2 P) h₂ q m (r 2 P) h₂ hi2 hi2) (pair' m (r 3 P) h₃ q m (r 3 P) h₃ hi3 hi3))
      (go-2 (Sq a a (g a d P dp 2) M M) (Sq a a (g a d P dp 0) P P) (Tri a a (g a d P dp 0) P) (Tri a a (g a d P dp 2) P) (sq a d P dp 2 2 3 0 1 split-2 M) (sq a d P dp 0 0 1 2 3 split-0 P) (sq-tri a a (g a d P dp 2) M M) (tri a d P dp P (le_refl P)) (tri-sq a a (g a d P dp 0) P P (le_refl P))),
)
  where
    M : ℕ
    M = E.at

    P : ℕ
    P = E.at + E.at

    q : ℕ
    q = full d P

    r : ℕ → ℕ → ℕ
    r s k = R a d P dp s k

    lo : (s l : ℕ) → l * full d M ≤ m * num (class s) a d M → l * q ≤ m * r s M
    lo s l h = go (full d M) (num (class s) a d M) (r s M) q (full-pos d M dp) h (row a d P dp s M (omega arith))
      where
        go : (f n x q : ℕ) → 0 < f → l * f ≤ m * n → x * f ≡ n * q → l * q ≤ m * x
        go f n x q p a b = le_of_mul-le-mul_right {k = f} (omega (arith, mul-le-mul_right q a, ap (λ (y : ℕ). m * y) b)) p

    hi : (s h : ℕ) → m * num (class s) a d P ≤ h * full d P → m * r s P ≤ h * q
    hi s h k = le_trans (le_of_eq (ap (λ (x : ℕ). m * x) (eq_of_mul-eq-mul_right (full d P) (full-pos d P dp) (r s P) (num (class s) a d P) (row a d P dp s P (le_refl P))))) k

    lo0 : l₀ * q ≤ m * r 0 M
    lo0 = lo 0 l₀ E.low0

    lo1 : l₁ * q ≤ m * r 1 M
    lo1 = lo 1 l₁ E.low1

    lo2 : l₂ * q ≤ m * r 2 M
    lo2 = lo 2 l₂ E.low2

    lo3 : l₃ * q ≤ m * r 3 M
    lo3 = lo 3 l₃ E.low3

    hi0 : m * r 0 P ≤ h₀ * q
    hi0 = hi 0 h₀ (E.high0 P)

    hi1 : m * r 1 P ≤ h₁ * q
    hi1 = hi 1 h₁ (E.high1 P)

    hi2 : m * r 2 P ≤ h₂ * q
    hi2 = hi 2 h₂ (E.high2 P)

    hi3 : m * r 3 P ≤ h₃ * q
    hi3 = hi 3 h₃ (E.high3 P)

    go-1 : {x y : ℕ} (s t u w : ℕ) → s ≡ x → t ≡ y → s ≤ u → u ≡ w + q * q → w ≤ t → x ≤ y + q * q
    go-1 s t u w a b c e f = omega arith

    go-2 : {x y : ℕ} (s t u w : ℕ) → s ≡ x → t ≡ y → s ≤ w → u ≡ w + q * q → u ≤ t → x + q * q ≤ y
    go-2 s t u w a b c e f = omega arith
