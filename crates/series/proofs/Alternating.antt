-- The alternating series: once the terms fall, all later partial sums stay between the last two.
use mathlib.Core.Path.{sym, subst}
use Prim.Native.Nat.{ℕ, zero, suc, ◌+◌, ◌*◌, ◌≤◌}
use native.Mathlib.Nat.{le_dest, add-zero, add-suc, mul-le-mul_right}
use native.Mathlib.Omega.{arith}
use Rattle.series.specs.Series.{Close}
use Rattle.series.proofs.Pairs.{Sums, grow, sums, Limit}

module _ (K : ℕ → ℕ) (n d m r t u : ℕ) where
  -- the sum of the pairs is not below, and the sum with one term more is not above
  abbrev pub Low : Sums → Type 0
  Low s = r * s.den + m * s.minus ≤ m * s.plus + (t + u) * s.den

  abbrev pub High : Sums → Type 0
  High s = m * (s.plus + s.next) + t * s.den ≤ m * s.minus + (r + u) * s.den

  go-low : (g h D A P Q : ℕ) → (r * D + m * Q) * (g * h) ≤ (m * P + (t + u) * D) * (g * h) → n * n * (m * A * h) ≤ g * (m * A * h)
      → r * (D * (g * h)) + m * (Q * (g * h) + A * (n * n) * h) ≤ m * ((P + A) * (g * h)) + (t + u) * (D * (g * h))
  go-low g h D A P Q x y = omega arith

  go-high : (g h D A P Q : ℕ) → (m * (P + A) + t * D) * (g * h) ≤ (m * Q + (r + u) * D) * (g * h) → n * n * (m * A * (n * n)) ≤ h * (m * A * (n * n))
      → m * ((P + A) * (g * h) + A * (n * n) * (n * n)) + t * (D * (g * h)) ≤ m * (Q * (g * h) + A * (n * n) * h) + (r + u) * (D * (g * h))
  go-high g h D A P Q x y = omega arith

  pub stay-low : (j : ℕ) (s : Sums) → n * n ≤ d * d * K (2 * j) → Low s → Low (grow K n d j s)
  stay-low j s f l =
      let g = d * d * K (2 * j) in
      let h = d * d * K (2 * j + 1) in
      go-low g h s.den s.next s.plus s.minus (mul-le-mul_right (g * h) l) (mul-le-mul_right (m * s.next * h) f)

  pub stay-high : (j : ℕ) (s : Sums) → n * n ≤ d * d * K (2 * j + 1) → High s → High (grow K n d j s)
  stay-high j s f l =
      let g = d * d * K (2 * j) in
      let h = d * d * K (2 * j + 1) in
      go-high g h s.den s.next s.plus s.minus (mul-le-mul_right (g * h) l) (mul-le-mul_right (m * s.next * (n * n)) f)

  close-even : (s : Sums) → Low s → High s → Close m r t u s.plus s.minus s.den
  close-even s l h = record { low = l; high = omega arith }

  close-odd : (s : Sums) → Low s → High s → Close m r t u (s.plus + s.next) s.minus s.den
  close-odd s l h = record { low = omega arith; high = h }

  module _ (a b j : ℕ) (falls : (k : ℕ) → 2 * j ≤ k → n * n ≤ d * d * K k) (l₀ : Low (sums K n d a b j)) (h₀ : High (sums K n d a b j)) where
    both : (o : ℕ) → Low (sums K n d a b (j + o)) × High (sums K n d a b (j + o))
    unfolding sums
    both zero = subst (λ (x : ℕ). Low (sums K n d a b x) × High (sums K n d a b x)) (sym (add-zero j)) (l₀, h₀)
    both (suc o) =
        let b' = both o in
        subst (λ (x : ℕ). Low (sums K n d a b x) × High (sums K n d a b x)) (sym (add-suc j o))
        (stay-low (j + o) (sums K n d a b (j + o)) (falls (2 * (j + o)) (omega arith)) b'.0, stay-high (j + o) (sums K n d a b (j + o)) (falls (2 * (j + o) + 1) (omega arith)) b'.1)

    at : (i : ℕ) → j ≤ i → Low (sums K n d a b i) × High (sums K n d a b i)
    at i h =
        let o = le_dest h in
        subst (λ (x : ℕ). Low (sums K n d a b x) × High (sums K n d a b x)) o.1 (both o.0)

    pub limit : Limit K n d a b j m r t u
    limit =
        record {
          even = λ i h. let w = at i h in close-even (sums K n d a b i) w.0 w.1;
          odd = λ i h. let w = at i h in close-odd (sums K n d a b i) w.0 w.1;
        }
