-- The test of neighbours holds of a list exactly where each of the 49 steps rises.
use mathlib.Core.Bool.{Bool, true, false}
use mathlib.Core.List.{List}
use mathlib.Core.Path.{◌≡◌, refl, sym}
use Prim.Native.Nat.{ℕ, zero, suc, ◌+◌, ◌≤◌, ◌<◌, zero-le}
use native.Mathlib.Nat.{eq-or-lt_of_le}
use native.Mathlib.Omega.{arith}
use mathlib.Core.Logic.{inl, inr}
use lib.Ieee.{Float, nan, lt}
use lib.ListN.{length}
use Rattle.std.proofs.Math.Bool.{and-false}
use Rattle.std.proofs.Common.{rules, tests}
use Rattle.std.proofs.lemmas.List.Sorted.{answers_always}
use Rattle.std.specs.List.{IsAllAdjacentAnswer}
use Rattle.scalar.specs.F32.{at}
use Rattle.profile.specs.Rising.{rises_from, rises_of}
use Rattle.profile.proofs.rises_throughout.Goals as goal

module _ (a : List Float) where
  all-rise : ((k : ℕ) → k < 49 → lt (at a k) (at a (k + 1)) ≡ true) → (n i : ℕ) → i + n ≡ 49 → rises_from a n i ≡ true
  unfolding rises_from
  all-rise h zero i e = refl
  all-rise h (suc n) i e = rw (h i (omega arith)) (all-rise h n (i + 1) (omega arith))

  one-falls : (k : ℕ) → lt (at a k) (at a (k + 1)) ≡ false → (n i : ℕ) → i ≤ k → k < i + n → rises_from a n i ≡ false
  unfolding rises_from
  one-falls k h zero i l u = absurd (omega arith)
  one-falls k h (suc n) i l u = elim (eq-or-lt_of_le l) [ inl x ↦ rw (x, h) refl | inr s ↦ rw (one-falls k h n (i + 1) (omega (arith, s)) (omega arith)) (and-false (lt (at a i) (at a (i + 1)))) ]

  decided : (r : Bool) → length a ≡ 50 → IsAllAdjacentAnswer (λ x y b. b ≡ lt x y) a r → r ≡ rises_of a
  decided true e h = sym (all-rise (λ k l. sym (h k nan (omega arith))) 49 0 refl)
  decided false e h = sym (one-falls h.0 (sym (h.2 nan)) 49 0 zero-le (let k = h.1 in omega arith))

pub returns : goal.returns
returns c = decided c.args.htr.now c.is_sorted_by.result c.told-htr (c.is_sorted_by.ensures.cases lt (answers_always _ _ _ (λ f a r g k. search (rules, tests))))
