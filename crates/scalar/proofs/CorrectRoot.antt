-- For every f32 that is finite and above zero `sqrt_of` is the correctly rounded root (`sqrt-correct`), and nothing else is (`only-root`): the theorem in units, said of fractions. Assumes nothing.
use mathlib.Core.Path.{◌≡◌, refl, sym, ap, ◌∙◌, subst}
use mathlib.Core.Bool.{true, false}
use Prim.Native.Nat.{ℕ, ◌+◌, ◌*◌, ◌^◌, ◌≤◌, ◌<◌}
use native.Mathlib.Nat.{lt_irrefl, lt_trans, le_antisymm, le_of_suc-le-suc, lt_of_not-le, add_comm, le_of_eq, lt_of_lt_of_le, lt_of_le_of_lt, mul_comm, mul_assoc, mul_left_comm, mul_right_comm, mul-mul-mul_comm, mul-lt-mul_of_pos_right, lt_of_mul-lt-mul_right, mul-pos, add-mul}
use lib.Dec.{T}
use lib.Pow.{pow_pos}
use lib.Ieee.{Float, nan, inf, fin, binary32, down, fits}
use lib.Ieee.Fits.{down_pos}
use lib.Ieee.Scale.{finite}
use lib.Ieee.Positive.{positive, positive-finite, num, den, den_pos}
use Rattle.rounding.proofs.Units.{on-grid, same-value, units_of}
use Rattle.scalar.specs.Root.{sq, steps, sqrt_of, CorrectRoot}
use Rattle.scalar.specs.Laws.{SqrtCorrect, OnlyRoot}
use Rattle.scalar.proofs.Patterns.{steps-is}
use Rattle.scalar.proofs.RootInUnits.{IsRoot, sqrt-in-units}

-- the units of a value that the format holds are its fraction times 2 ^ 149, with nothing left over
exact : (v : Float) → T (fits binary32 v) → T (finite v) → num v * 2 ^ 149 ≡ steps v * den v
exact nan h k = absurd k
exact (inf s) h k = absurd k
exact (fin s m e) h k =
    let g = on-grid binary32 s m e h in
    g.3 ∙ ap (λ (x : ℕ). x * down e) (sym (steps-is (fin s m e) s (g.0 * 2 ^ g.1) (refl, g.3)))

-- ---- an order of fractions is one of units: a / d and b / e are M / L and N / L
less : (a b d e M N L : ℕ) → a * L ≡ M * d → b * L ≡ N * e → a * e < b * d → 0 < L → M < N
less a b d e M N L p q h P =
    lt_of_mul-lt-mul_right (d * e)
    (lt_of_le_of_lt (le_of_eq (sym (mul_assoc M d e) ∙ ap (λ (x : ℕ). x * e) (sym p) ∙ mul_right_comm a L e))
    (lt_of_lt_of_le (mul-lt-mul_of_pos_right h P) (le_of_eq (mul_right_comm b d L ∙ ap (λ (x : ℕ). x * d) q ∙ mul_assoc N e d ∙ ap (λ (x : ℕ). N * x) (mul_comm e d)))))

-- the sum: a / d + b / e is (a * e + b * d) / (d * e), and (M + N) / L
sum : (a b d e M N L : ℕ) → a * L ≡ M * d → b * L ≡ N * e → (a * e + b * d) * L ≡ (M + N) * (d * e)
sum a b d e M N L p q =
    add-mul (a * e) (b * d) L
    ∙ ap (λ (x : ℕ). x + b * d * L) (mul_right_comm a e L ∙ ap (λ (x : ℕ). x * e) p ∙ mul_assoc M d e)
    ∙ ap (λ (x : ℕ). M * (d * e) + x) (mul_right_comm b d L ∙ ap (λ (x : ℕ). x * d) q ∙ mul_assoc N e d ∙ ap (λ (x : ℕ). N * x) (mul_comm e d))
    ∙ sym (add-mul M N (d * e))

-- ---- squares: S / D is K / L, and n / d is X / L
module _ (S D n d K X L : ℕ) (s : S * L ≡ K * D) (x : n * L ≡ X * d) where
  square-of-sum : sq S * d * (L * L) ≡ sq K * (sq D * d)
  square-of-sum = mul_right_comm (S * S) d (L * L) ∙ ap (λ (y : ℕ). y * d) (mul-mul-mul_comm S S L L ∙ ap (λ (y : ℕ). y * y) s ∙ mul-mul-mul_comm K D K D) ∙ mul_assoc (K * K) (D * D) d

  square-of-two : sq (2 * D) * n * (L * L) ≡ 4 * (X * L) * (sq D * d)
  square-of-two =
      ap (λ (y : ℕ). y * n * (L * L)) (mul-mul-mul_comm 2 D 2 D)
      ∙ mul-mul-mul_comm (4 * (D * D)) n L L
      ∙ ap (λ (y : ℕ). 4 * (D * D) * L * y) x
      ∙ mul-mul-mul_comm (4 * (D * D)) L X d
      ∙ simp (mul_assoc, mul_comm, mul_left_comm)

  square-less : 0 < D → 0 < d → sq K < 4 * (X * L) → sq S * d < sq (2 * D) * n
  square-less P Q h =
      lt_of_mul-lt-mul_right (L * L)
      (lt_of_le_of_lt (le_of_eq square-of-sum) (lt_of_lt_of_le (mul-lt-mul_of_pos_right h (mul-pos (mul-pos P P) Q)) (le_of_eq (sym square-of-two))))

  square-more : 0 < D → 0 < d → 4 * (X * L) < sq K → sq (2 * D) * n < sq S * d
  square-more P Q h =
      lt_of_mul-lt-mul_right (L * L)
      (lt_of_le_of_lt (le_of_eq square-of-two) (lt_of_lt_of_le (mul-lt-mul_of_pos_right h (mul-pos (mul-pos P P) Q)) (le_of_eq (sym square-of-sum))))

-- ---- the theorem
in-fractions : (x r : Float) → T (fits binary32 x) → T (positive x) → IsRoot x r → CorrectRoot x r
in-fractions x r h p c = record {
  held = c.held;
  is_positive = c.is_positive;
  below = λ y k z l. square-less (num y * den r + num r * den y) (den y * den r) (num x) (den x) (steps y + steps r) (steps x) L
      (sum (num y) (num r) (den y) (den r) (steps y) (steps r) L (exact y k z) r-is) x-is (mul-pos (den_pos y) (den_pos r)) (den_pos x)
      (c.below y k z (less (num y) (num r) (den y) (den r) (steps y) (steps r) L (exact y k z) r-is l (pow_pos 149)));
  above = λ y k z l. square-more (num y * den r + num r * den y) (den y * den r) (num x) (den x) (steps y + steps r) (steps x) L
      (sum (num y) (num r) (den y) (den r) (steps y) (steps r) L (exact y k z) r-is) x-is (mul-pos (den_pos y) (den_pos r)) (den_pos x)
      (c.above y k z (less (num r) (num y) (den r) (den y) (steps r) (steps y) L r-is (exact y k z) l (pow_pos 149)));
}
  where
    L : ℕ
    L = 2 ^ 149

    r-is : num r * 2 ^ 149 ≡ steps r * den r
    r-is = exact r c.held (positive-finite r c.is_positive)

    x-is : num x * 2 ^ 149 ≡ steps x * den x
    x-is = exact x h (positive-finite x p)

pub sqrt-correct : SqrtCorrect
sqrt-correct x h p = in-fractions x (sqrt_of x) h p (sqrt-in-units x h p)

-- ---- nothing else is

-- of two roots neither is above the other: x would be both above and below the square of their middle
not-above : (x r v : Float) → CorrectRoot x r → CorrectRoot x v → num v * den r < num r * den v → ⊥
not-above x r v p q h =
    lt_irrefl (sq (num v * den r + num r * den v) * den x)
    (lt_trans (p.below v q.held (positive-finite v q.is_positive) h)
    (subst (λ (s : ℕ). sq (2 * s) * num x < sq (num v * den r + num r * den v) * den x) (mul_comm (den r) (den v))
    (subst (λ (s : ℕ). sq (2 * (den r * den v)) * num x < sq s * den x) (add_comm (num r * den v) (num v * den r)) (q.above r p.held (positive-finite r p.is_positive) h))))

same_size : (x r v : Float) → CorrectRoot x r → CorrectRoot x v → num r * den v ≡ num v * den r
same_size x r v p q = le_antisymm (at_most (λ g. not-above x r v p q g)) (at_most (λ g. not-above x v r q p g))
  where
    at_most : {a b : ℕ} → (b < a → ⊥) → a ≤ b
    at_most f = le_of_suc-le-suc (lt_of_not-le f)

-- two values above zero of the same size are one
one : (r v : Float) → T (fits binary32 r) → T (fits binary32 v) → T (positive r) → T (positive v) → num r * den v ≡ num v * den r → r ≡ v
one nan v h k p q e = absurd p
one (inf s) v h k p q e = absurd p
one (fin true m a) v h k p q e = absurd p
one (fin false m a) nan h k p q e = absurd q
one (fin false m a) (inf s) h k p q e = absurd q
one (fin false m a) (fin true n b) h k p q e = absurd q
one (fin false m a) (fin false n b) h k p q e =
    let x = exact (fin false m a) h tt in
    let y = exact (fin false n b) k tt in
    same-value binary32 false false m a n b (steps (fin false n b)) h k refl (x ∙ ap (λ (z : ℕ). z * down a) (units_of (num (fin false m a)) (num (fin false n b)) (2 ^ 149) (down b) (down a) (steps (fin false m a)) (steps (fin false n b)) (down_pos b) (down_pos a) x y e)) y

pub only-root : OnlyRoot
only-root x r h p q = let c = sqrt-correct x h p in one r (sqrt_of x) q.held c.held q.is_positive c.is_positive (same_size x r (sqrt_of x) q c)
