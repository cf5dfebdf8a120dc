-- Partial sums of a series with positive terms: they grow, and with the last term added once more they fall from where the terms are halved. So one test bounds all of them.
use mathlib.Core.Path.{◌≡◌, ap, subst}
use Prim.Native.Nat.{ℕ, zero, suc, ◌+◌, ◌*◌, ◌^◌, ◌≤◌, ◌<◌}
use native.Mathlib.Nat.{le_trans, le_refl, le_dest, add-zero, add-suc, mul-le-mul_left, mul-le-mul_right, le_of_mul-le-mul_right, pow-suc}
use native.Mathlib.Omega.{arith}
use Rattle.series.specs.Series.{full, num}
use Rattle.series.proofs.Addition.{full-pos}
use Rattle.cases.proofs.Cases.{split}

-- ---- for any weights of at most 1
module _ (c : ℕ → ℕ) (c≤1 : (k : ℕ) → c k ≤ 1) where
  pub grows : (n d k o : ℕ) → num c n d k * full d (k + o) ≤ num c n d (k + o) * full d k
  unfolding num full
  grows n d k zero = rw add-zero (le_refl (num c n d k * full d k))
  grows n d k (suc o) = rw add-suc (go (num c n d k) (full d k) (num c n d (k + o)) (full d (k + o)) (d * suc (k + o)) (c (suc (k + o)) * n ^ suc (k + o)) (grows n d k o))
    where
      go : (x f y g D p : ℕ) → x * g ≤ y * f → x * (g * D) ≤ (y * D + p) * f
      go x f y g D p h = omega (arith, mul-le-mul_right D h)

  falls : (n d k hi m : ℕ) → 2 * n ≤ d * suc k → m * (num c n d k + n ^ k) ≤ hi * full d k → m * (num c n d (suc k) + n ^ suc k) ≤ hi * full d (suc k)
  unfolding num full
  falls n d k hi m h l = go (num c n d k) (n ^ k) (n ^ suc k) (c (suc k)) (full d k) (d * suc k) l (pow-suc n k) (mul-le-mul_left (n ^ k) h) (mul-le-mul_right (n ^ suc k) (c≤1 (suc k)))
    where
      go : (x p p' s f D : ℕ) → m * (x + p) ≤ hi * f → p' ≡ p * n → p * (2 * n) ≤ p * D → s * p' ≤ 1 * p' → m * (x * D + s * p' + p') ≤ hi * (f * D)
      go x p p' s f D a b e g = omega (arith, mul-le-mul_right D a, ap (λ (y : ℕ). m * y) b, mul-le-mul_left m e, mul-le-mul_left m g)

  from : (n d N hi m : ℕ) → 2 * n ≤ d * suc N → m * (num c n d N + n ^ N) ≤ hi * full d N → (o : ℕ) → m * (num c n d (N + o) + n ^ (N + o)) ≤ hi * full d (N + o)
  from n d N hi m h l zero = rw add-zero l
  from n d N hi m h l (suc o) = rw add-suc (falls n d (N + o) hi m (le_trans h (mul-le-mul_left d (omega arith))) (from n d N hi m h l o))

  pub above : (n d hi m N : ℕ) → 0 < d → 2 * n ≤ d * suc N → m * (num c n d N + n ^ N) ≤ hi * full d N → (k : ℕ) → m * num c n d k ≤ hi * full d k
  above n d hi m N D h b k = split k N (λ l. below l) (λ l. beyond l)
    where
      drop : (x p f : ℕ) → m * (x + p) ≤ hi * f → m * x ≤ hi * f
      drop x p f l = omega arith

      beyond : N ≤ k → m * num c n d k ≤ hi * full d k
      beyond l =
          let o = le_dest l in
          subst (λ (y : ℕ). m * num c n d y ≤ hi * full d y) o.1 (drop (num c n d (N + o.0)) (n ^ (N + o.0)) (full d (N + o.0)) (from n d N hi m h b o.0))

      through : (x f y g : ℕ) → 0 < g → x * g ≤ y * f → m * y ≤ hi * g → m * x ≤ hi * f
      through x f y g G p q = le_of_mul-le-mul_right {k = g} (omega (arith, mul-le-mul_left m p, mul-le-mul_right f q)) G

      below : k < N → m * num c n d k ≤ hi * full d k
      below l =
          let o = le_dest l in
          let e : k + suc o.0 ≡ N = omega (arith, o.1) in
          through (num c n d k) (full d k) (num c n d N) (full d N) (full-pos d N D) (subst (λ (y : ℕ). num c n d k * full d y ≤ num c n d y * full d k) e (grows n d k (suc o.0))) (drop (num c n d N) (n ^ N) (full d N) b)

  -- a lower bound of one partial sum is one of all later ones
  pub low-later : (n d l m a : ℕ) → 0 < d → l * full d a ≤ m * num c n d a → (k : ℕ) → a ≤ k → l * full d k ≤ m * num c n d k
  low-later n d l m a D h k le =
      let o = le_dest le in
      subst (λ (j : ℕ). l * full d j ≤ m * num c n d j) o.1 (go (full d a) (full d (a + o.0)) (num c n d a) (num c n d (a + o.0)) (full-pos d a D) h (grows n d a o.0))
    where
      go : (f F x X : ℕ) → 0 < f → l * f ≤ m * x → x * F ≤ X * f → l * F ≤ m * X
      go f F x X P p q = le_of_mul-le-mul_right {k = f} (omega (arith, mul-le-mul_right F p, mul-le-mul_left m q)) P
