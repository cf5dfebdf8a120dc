-- Were y above z, with y ≤ 2: a sine rises from z to y while the cosine at y is not negative, and a cosine falls, against what is said of the two. For the tangent the cosine at y is not negative because the sine is positive.
use mathlib.Core.Path.{◌≡◌, sym, subst}
use mathlib.Core.Logic.{◌⊎◌, inl, inr}
use Prim.Native.Nat.{ℕ, zero, suc, ◌+◌, ◌*◌, ◌^◌, ◌≤◌, ◌<◌}
use native.Mathlib.Nat.{le_dest, mul-pos, mul-le-mul_left, mul-le-mul_right, mul-lt-mul_of_pos_right, lt_of_lt_of_le, le-add_right}
use native.Mathlib.Omega.{arith}
use Rattle.cases.proofs.Cases.{split}
use Rattle.series.specs.Series.{full, num, class, SinLe, SinGe, SineAtMost, SineAtLeast, CosineNotNegative, CosineNotPositive}
use Rattle.series.specs.Rises.{SinePins, TangentPins}
use Rattle.series.proofs.Terms.{pow-1}
use Rattle.series.proofs.CosineFalls.{cosine-falls}
use Rattle.series.proofs.SineRises.{sine-rises}
use Rattle.series.proofs.SineSign.{thirds}

-- ---- the sine is positive from 0 to 2
first_pos : (y d k : ℕ) → 0 < y → 0 < d → 0 < num (class 1) y d (suc k)
unfolding num class
first_pos y d zero Y D = go (y ^ 1) (pow-1 y)
  where
    go : (q : ℕ) → q ≡ y → 0 < 0 * (d * 1) + 1 * q
    go q e = omega arith
first_pos y d (suc k) Y D = lt_of_lt_of_le (mul-pos (first_pos y d k Y D) (mul-pos D (omega arith))) (le-add_right (num (class 1) y d (suc k) * (d * suc (suc k))) (class 1 (suc (suc k)) * y ^ suc (suc k)))

sine-positive : (y d k : ℕ) → 0 < y → 0 < d → y ≤ 2 * d → num (class 3) y d (suc (suc k)) < num (class 1) y d (suc (suc k))
sine-positive y d k Y D h = go (num (class 3) y d (suc (suc k))) (num (class 1) y d (suc (suc k))) (thirds y d D h k) (first_pos y d (suc k) Y D)
  where
    go : (a b : ℕ) → 3 * a ≤ 2 * b → 0 < b → a < b
    go a b h p = omega arith

-- ---- from z up to z + h ≤ 2
module _ (z h d n c : ℕ) (D : 0 < d) (C : 0 < c) (H : 0 < h) (small : z + h ≤ 2 * d) where
  abbrev y : ℕ
  y = z + h

  -- the sine rises where the cosine at the end is not negative
  rises : (k : ℕ) → num (class 2) y d (suc (suc k)) ≤ num (class 0) y d (suc (suc k))
      → num (class 1) z d (suc (suc (suc k))) + num (class 3) y d (suc (suc (suc k))) < num (class 1) y d (suc (suc (suc k))) + num (class 3) z d (suc (suc (suc k)))
  rises k p =
      go _ _ _ _ (h * (suc (suc (suc k)) * num (class 0) y d (suc (suc k)))) (h * (suc (suc (suc k)) * num (class 2) y d (suc (suc k))))
      (sine-rises z h d k D H small) (mul-le-mul_left h (mul-le-mul_left (suc (suc (suc k))) p))
    where
      go : (a b a' b' s t : ℕ) → a + b + s < a' + b' + t → t ≤ s → a + b < a' + b'
      go a b a' b' s t i j = omega arith

  above-sine : CosineNotNegative y d → SineAtMost y d n c → SineAtLeast z d n c → ⊥
  above-sine p l g =
      let k = p.0 + l.0 + g.0 in
      let K = suc (suc (suc k)) in
      go (num (class 1) z d K) (num (class 3) y d K) (num (class 1) y d K) (num (class 3) z d K) (n * full d K)
      (mul-lt-mul_of_pos_right (rises k (p.1 (suc (suc k)) (omega arith))) C) (l.1 K (omega arith)) (g.1 K (omega arith))
    where
      go : (a b a' b' f : ℕ) → (a + b) * c < (a' + b') * c → a' * c ≤ b * c + f → b' * c + f ≤ a * c → ⊥
      go a b a' b' f i j k = omega (arith, i, j, k)

  above-cosine : CosineNotNegative y d → CosineNotPositive z d → ⊥
  above-cosine p g =
      let k = p.0 + g.0 in
      let K = suc (suc k) in
      go (num (class 0) y d K) (num (class 2) z d K) (num (class 0) z d K) (num (class 2) y d K) (cosine-falls z h d k D H small) (p.1 K (omega arith)) (g.1 K (omega arith))
    where
      go : (a b a' b' : ℕ) → a + b < a' + b' → b' ≤ a → a' ≤ b → ⊥
      go a b a' b' i j k = omega arith

  above-tangent : SinLe y d n c → SinGe z d n c → ⊥
  above-tangent l g =
      let k = l.0 + g.0 in
      let K = suc (suc (suc k)) in
      split (num (class 0) y d (suc (suc k))) (num (class 2) y d (suc (suc k)))
      (λ q. negative (num (class 1) y d (suc (suc k))) (num (class 3) y d (suc (suc k))) (num (class 0) y d (suc (suc k))) (num (class 2) y d (suc (suc k)))
      (mul-lt-mul_of_pos_right (sine-positive y d k (omega arith) D small) C) (l.1 (suc (suc k)) (omega arith)) (mul-le-mul_right n q))
      (λ p. positive (num (class 1) y d K) (num (class 3) y d K) (num (class 0) y d K) (num (class 2) y d K) (num (class 1) z d K) (num (class 3) z d K) (num (class 0) z d K) (num (class 2) z d K)
      (mul-lt-mul_of_pos_right (rises k p) C) (l.1 K (omega arith)) (g.1 K (omega arith)) (mul-le-mul_right n (cosine-falls z h d (suc k) D H small)))
    where
      negative : (s t p q : ℕ) → t * c < s * c → s * c + q * n ≤ t * c + p * n → suc p * n ≤ q * n → ⊥
      negative s t p q i j k = omega (arith, i, j, k)

      positive : (s t p q s' t' p' q' : ℕ) → (s' + t) * c < (s + t') * c → s * c + q * n ≤ t * c + p * n → t' * c + p' * n ≤ s' * c + q' * n → suc (p + q') * n ≤ (p' + q) * n → ⊥
      positive s t p q s' t' p' q' i j k l = omega (arith, i, j, k, l)

-- ---- so y is not above z
module _ (y z d n c : ℕ) (D : 0 < d) (C : 0 < c) (small : y ≤ 2 * d) where
  not-above : ((h : ℕ) → 0 < h → z + h ≡ y → ⊥) → y ≤ z
  not-above never = split z y (λ l. let o = le_dest l in absurd (never (suc o.0) (omega arith) (omega (arith, o.1)))) (λ l. l)

pub sine-pins : SinePins
sine-pins y z d n c D C small p l g =
    not-above y z d n c D C small (λ h H e. go h H g (subst (λ (x : ℕ). x ≤ 2 * d) (sym e) small) (subst (λ (x : ℕ). CosineNotNegative x d) (sym e) p) (subst (λ (x : ℕ). SineAtMost x d n c) (sym e) l))
  where
    go : (h : ℕ) → 0 < h → SineAtLeast z d n c ⊎ CosineNotPositive z d → z + h ≤ 2 * d → CosineNotNegative (z + h) d → SineAtMost (z + h) d n c → ⊥
    go h H (inl g) s p l = above-sine z h d n c D C H s p l g
    go h H (inr g) s p l = above-cosine z h d n c D C H s p g

pub tangent-pins : TangentPins
tangent-pins y z d n c D C small l g =
    not-above y z d n c D C small (λ h H e. above-tangent z h d n c D C H (subst (λ (x : ℕ). x ≤ 2 * d) (sym e) small) (subst (λ (x : ℕ). SinLe x d n c) (sym e) l) g)
