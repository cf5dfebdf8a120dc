-- e ^ (x + y) = e ^ x * e ^ y, as inequalities of partial sums: the terms on one diagonal of the product come to one term of the sum's series, by the binomial theorem.
use mathlib.Core.Path.{◌≡◌, refl, sym, ap, ap₂, ◌∙◌, fun_ext}
use Prim.Native.Nat.{ℕ, zero, suc, ◌+◌, ◌-◌, ◌*◌, ◌^◌, ◌≤◌, ◌<◌}
use native.Mathlib.Nat.{le_trans, le_of_eq, le_refl, add-zero, add-suc, mul-one, mul_assoc, mul_comm, mul_left_comm, mul-le-mul_right, mul-pos, le_of_mul-le-mul_right, eq_of_mul-eq-mul_right, pow-suc, pow-zero}
use native.Mathlib.Omega.{arith}
use lib.Pow.{pow-add}
use Rattle.series.specs.Series.{full, num, one}
use Rattle.series.proofs.Terms.{full-suc, num-suc}
use Rattle.series.proofs.Cauchy.{fac, S, D, Tri, Sq, S-last, tri-sq, sq-tri, sq-product, W-const, W_ext, W-diag, D-zero, D-scale}

-- what full d i lacks to full d (i + o)
unfoldable pub co : (d i : ℕ) → ℕ → ℕ
co d i zero = 1
co d i (suc o) = co d i o * (d * suc (i + o))

full-co : (d i o : ℕ) → full d i * co d i o ≡ full d (i + o)
unfolding co full
full-co d i zero = mul-one (full d i) ∙ ap (full d) (sym (add-zero i))
full-co d i (suc o) = sym (mul_assoc (full d i) (co d i o) (d * suc (i + o))) ∙ ap (λ (x : ℕ). x * (d * suc (i + o))) (full-co d i o) ∙ ap (full d) (sym (add-suc i o))

pub full-pow : (d k : ℕ) → full d k ≡ d ^ k * fac k
unfolding full fac
full-pow d zero = sym (ap (λ (x : ℕ). x * 1) (pow-zero d))
full-pow d (suc k) = omega (arith, ap (λ (x : ℕ). x * (d * suc k)) (full-pow d k), ap (λ (x : ℕ). x * (suc k * fac k)) (pow-suc d k))

pub at-P : (d P i : ℕ) → i ≤ P → full d i * co d i (P - i) ≡ full d P
at-P d P i h = full-co d i (P - i) ∙ ap (full d) (omega arith)

num-zero : (c : ℕ → ℕ) (n d : ℕ) → num c n d 0 ≡ c 0
unfolding num
num-zero c n d = refl

pub full-pos : (d k : ℕ) → 0 < d → 0 < full d k
unfolding full
full-pos d zero h = omega arith
full-pos d (suc k) h = mul-pos (full-pos d k h) (mul-pos h (omega arith))

S-at : (v : ℕ → ℕ) (a : ℕ) → S a v 0 ≡ v 0
unfolding S
S-at v a = refl

module _ (c : ℕ → ℕ) (a b d P : ℕ) where
  abbrev pub w : ℕ → ℕ
  w i = co d i (P - i)

  abbrev pub h : ℕ → ℕ → ℕ
  h i j = w i * w j * c (i + j)

  -- one diagonal
  pub spread : (x y u v f g e : ℕ) → x * (d ^ y * f) ≡ e → u * (d ^ v * g) ≡ e → f * g * (d ^ y * d ^ v * (x * u)) ≡ e * e
  spread x y u v f g e p q = simp (mul_assoc, mul_comm, mul_left_comm) (simp (mul_assoc, mul_comm, mul_left_comm) at (ap₂ (λ (s t : ℕ). s * t) p q))

  pub on-diagonal : (N : ℕ) → N ≤ P → (i j : ℕ) → i + j ≡ N → fac i * fac j * (d ^ N * h i j) ≡ full d P * full d P * c N
  on-diagonal N l i j e =
      let p : w i * (d ^ i * fac i) ≡ full d P = mul_comm (w i) (d ^ i * fac i) ∙ ap (λ (x : ℕ). x * w i) (sym (full-pow d i)) ∙ at-P d P i (omega arith) in
      let q : w j * (d ^ j * fac j) ≡ full d P = mul_comm (w j) (d ^ j * fac j) ∙ ap (λ (x : ℕ). x * w j) (sym (full-pow d j)) ∙ at-P d P j (omega arith) in
      let r : fac i * fac j * (d ^ i * d ^ j * (w i * w j)) ≡ full d P * full d P = spread (w i) i (w j) j (fac i) (fac j) (full d P) p q in
      let s : d ^ N ≡ d ^ i * d ^ j = ap (λ (x : ℕ). d ^ x) (sym e) ∙ pow-add d i j in
      ap (λ (x : ℕ). fac i * fac j * (x * h i j)) s
      ∙ regroup (fac i * fac j) (d ^ i * d ^ j) (w i * w j) (c (i + j))
      ∙ ap₂ (λ (x y : ℕ). x * c y) r e
    where
      regroup : (f x y z : ℕ) → f * (x * (y * z)) ≡ f * (x * y) * z
      regroup f x y z = simp mul_assoc

  layer : (N : ℕ) → N ≤ P → full d N * D a b h N ≡ (a + b) ^ N * (full d P * full d P * c N)
  layer N l =
      let A : fac N * D a b (λ i j. d ^ N * h i j) N ≡ (a + b) ^ N * (full d P * full d P * c N) =
      sym (W-diag a b (λ i j. d ^ N * h i j) N) ∙ W_ext a b (λ i j. fac i * fac j * (d ^ N * h i j)) (λ i j. full d P * full d P * c N) N (on-diagonal N l) ∙ W-const a b (full d P * full d P * c N) N in
      ap (λ (x : ℕ). x * D a b h N) (full-pow d N) ∙ mul_assoc (d ^ N) (fac N) (D a b h N) ∙ mul_left_comm (d ^ N) (fac N) (D a b h N) ∙ ap (λ (x : ℕ). fac N * x) (sym (D-scale a b (d ^ N) h N)) ∙ A

  -- the triangle is the partial sum at a + b
  pub tri-num : (M : ℕ) → M ≤ P → Tri a b h M * full d M ≡ num c (a + b) d M * (full d P * full d P)
  unfolding Tri
  tri-num zero l =
      omega (arith, layer 0 l, ap (λ (x : ℕ). full d 0 * x) (D-zero a b h), ap (λ (x : ℕ). x * (full d P * full d P * c 0)) (pow-zero (a + b)), ap (λ (x : ℕ). x * (full d P * full d P)) (num-zero c (a + b) d))
  tri-num (suc M) l =
      tri-go (Tri a b h M) (D a b h (suc M)) (full d M) (full d (suc M)) (d * suc M) (num c (a + b) d M) (num c (a + b) d (suc M)) (full d P * full d P) (c (suc M)) ((a + b) ^ suc M)
      (full-suc d M) (tri-num M (omega arith)) (layer (suc M) l) (num-suc c (a + b) d M)
    where
      tri-go : (t x f f' g n n' q k y : ℕ) → f' ≡ f * g → t * f ≡ n * q → f' * x ≡ y * (q * k) → n' ≡ n * g + k * y → (t + x) * f' ≡ n' * q
      tri-go t x f f' g n n' q k y e₁ e₂ e₃ e₄ =
          omega (arith, ap (λ (z : ℕ). t * z) e₁, ap (λ (z : ℕ). z * g) e₂, e₃, ap (λ (z : ℕ). z * q) e₄)

  -- the row is the partial sum at a
  pub row-num : (M : ℕ) → M ≤ P → S a (λ i. w i * c i) M * full d M ≡ num c a d M * full d P
  row-num zero l = omega (arith, ap (λ (x : ℕ). x * full d 0) S-zero, ap (λ (x : ℕ). x * c 0) (at-P d P 0 l), ap (λ (x : ℕ). x * full d P) (num-zero c a d))
    where
      S-zero : S a (λ i. w i * c i) 0 ≡ w 0 * c 0
      S-zero = S-at (λ i. w i * c i) a
  row-num (suc M) l =
      row-go (S a (λ i. w i * c i) M) (S a (λ i. w i * c i) (suc M)) (a ^ suc M) (w (suc M)) (c (suc M)) (full d M) (full d (suc M)) (d * suc M) (num c a d M) (num c a d (suc M)) (full d P)
      (S-last 0 a (λ i. w i * c i) M) (full-suc d M) (row-num M (omega arith)) (at-P d P (suc M) l) (num-suc c a d M)
    where
      row-go : (s s' y x k f f' g n n' q : ℕ) → s' ≡ s + y * (x * k) → f' ≡ f * g → s * f ≡ n * q → f' * x ≡ q → n' ≡ n * g + k * y → s' * f' ≡ n' * q
      row-go s s' y x k f f' g n n' q e₁ e₂ e₃ e₄ e₅ =
          omega (arith, ap (λ (z : ℕ). z * f') e₁, ap (λ (z : ℕ). s * z) e₂, ap (λ (z : ℕ). z * g) e₃, ap (λ (z : ℕ). z * (k * y)) e₄, ap (λ (z : ℕ). z * q) e₅)

-- ---- e ^ x itself: every weight is 1
module _ (a b d : ℕ) (dp : 0 < d) where
  sq-one : (P M L : ℕ) → Sq a b (h one a b d P) L M ≡ S a (λ i. w one a b d P i * 1) M * S b (λ i. w one a b d P i * 1) L
  sq-one P M L =
      ap (λ (f : ℕ → ℕ → ℕ). Sq a b f L M) (fun_ext (λ (i : ℕ). fun_ext (λ (j : ℕ). go (w one a b d P i) (w one a b d P j))))
      ∙ sq-product a b (λ i. w one a b d P i * 1) (λ j. w one a b d P j * 1) M L
    where
      go : (x y : ℕ) → x * y * 1 ≡ x * 1 * (y * 1)
      go x y = omega arith

  -- E_M (x + y) ≤ E_M x * E_M y
  pub exp-under : (M : ℕ) → num one (a + b) d M * full d M ≤ num one a d M * num one b d M
  exp-under M =
      let P = M in
      go (full d M) (Tri a b (h one a b d M) M) (S a (λ i. w one a b d M i * 1) M) (S b (λ i. w one a b d M i * 1) M) (num one (a + b) d M) (num one a d M) (num one b d M) (full-pos d M dp)
      (tri-num one a b d M M (le_refl M)) (row-num one a b d M M (le_refl M)) (row-num one b a d M M (le_refl M))
      (le_trans (tri-sq a b (h one a b d M) M M (le_refl M)) (le_of_eq (sq-one M M M)))
    where
      go : (F t x y n p q : ℕ) → 0 < F → t * F ≡ n * (F * F) → x * F ≡ p * F → y * F ≡ q * F → t ≤ x * y → n * F ≤ p * q
      go F t x y n p q Fp e f g l =
          let f' : x ≡ p = eq_of_mul-eq-mul_right F Fp x p f in
          let g' : y ≡ q = eq_of_mul-eq-mul_right F Fp y q g in
          let e' : t ≡ n * F = eq_of_mul-eq-mul_right F Fp t (n * F) (e ∙ sym (mul_assoc n F F)) in
          le_trans (le_of_eq (sym e')) (le_trans l (le_of_eq (ap₂ (λ (s r : ℕ). s * r) f' g')))

  -- E_M x * E_L y ≤ E_(M + L) (x + y)
  pub exp-over : (M L : ℕ) → num one a d M * num one b d L * full d (M + L) ≤ num one (a + b) d (M + L) * (full d M * full d L)
  exp-over M L =
      go (full d M) (full d L) (full d (M + L)) (Tri a b (h one a b d (M + L)) (M + L)) (S a (λ i. w one a b d (M + L) i * 1) M) (S b (λ i. w one a b d (M + L) i * 1) L) (num one (a + b) d (M + L)) (num one a d M) (num one b d L)
      (full-pos d (M + L) dp) (tri-num one a b d (M + L) (M + L) (le_refl (M + L))) (row-num one a b d (M + L) M (omega arith)) (row-num one b a d (M + L) L (omega arith))
      (le_trans (le_of_eq (sym (sq-one (M + L) M L))) (sq-tri a b (h one a b d (M + L)) M L))
    where
      go : (f g Q t x y n p q : ℕ) → 0 < Q → t * Q ≡ n * (Q * Q) → x * f ≡ p * Q → y * g ≡ q * Q → x * y ≤ t → p * q * Q ≤ n * (f * g)
      go f g Q t x y n p q Qp e u v l =
          let e' : t ≡ n * Q = eq_of_mul-eq-mul_right Q Qp t (n * Q) (e ∙ sym (mul_assoc n Q Q)) in
          let a₁ : p * Q * (q * Q) ≡ x * f * (y * g) = ap₂ (λ (s r : ℕ). s * r) (sym u) (sym v) in
          let a₂ : x * y * (f * g) ≤ n * Q * (f * g) = mul-le-mul_right (f * g) (le_trans l (le_of_eq e')) in
          le_of_mul-le-mul_right {k = Q} (omega (arith, a₁, a₂)) Qp
