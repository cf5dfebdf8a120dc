-- The cursor stops at the first place whose next height is above: all below it are passed.
use mathlib.Core.Bool.{true, false}
use mathlib.Core.Path.{◌≡◌}
use mathlib.Core.List.{List}
use mathlib.Core.Logic.{inl, inr}
use Prim.Native.Nat.{◌≤◌, ◌<◌, ◌+◌, ◌-◌, ℕ, zero, suc, max}
use native.Mathlib.Nat.{eq-or-lt_of_le}
use native.Mathlib.Omega.{arith}
use borrow.Author.Tests.{tests}
use borrow.Author.Rules.{rules}
use lib.Ieee.{Float, le}
use Rattle.scalar.specs.F32.{at}
use Rattle.std.specs.Prelude.{Option, Some, None}
use Rattle.std.specs.Option.{MatchOption, unwrap_or}
use Rattle.std.proofs.lemmas.Iterator.{first_from_Range}
use Rattle.readings.specs.Cursor.{on_by, climb_from, climb_of}
use Rattle.readings.proofs.climb.Goals as goal

one_more : (htr : List Float) (zi : Float) (ih : ℕ) → ih < 49 → climb_from htr zi (49 - ih) ih ≡ on_by (le (at htr (ih + 1)) zi) ih (climb_from htr zi (49 - (ih + 1)) (ih + 1))
unfolding climb_from
one_more htr zi ih h = let e : 49 - ih ≡ suc (49 - (ih + 1)) = omega arith in rw e

stays : (htr : List Float) (zi : Float) (ih : ℕ) → 49 ≤ ih → climb_from htr zi (49 - ih) ih ≡ ih
unfolding climb_from
stays htr zi ih h = let e : 49 - ih ≡ 0 = omega arith in rw e

module _ (htr : List Float) (zi : Float) where
  abbrev Passed : ℕ → Type 0
  Passed k = le (at htr (k + 1)) zi ≡ true

  abbrev Above : ℕ → Type 0
  Above k = le (at htr (k + 1)) zi ≡ false

  passing : (d ih : ℕ) → ((k : ℕ) → ih ≤ k → k < ih + d → Passed k) → ih + d ≤ 49 → climb_from htr zi (49 - ih) ih ≡ climb_from htr zi (49 - (ih + d)) (ih + d)
  passing zero ih p h = let e : ih + 0 ≡ ih = omega arith in rw e
  passing (suc d) ih p h =
      let l : ih < 49 = omega arith in
      let e : ih + 1 + d ≡ ih + suc d = omega arith in
      rw (one_more htr zi ih l, p ih (omega arith) (omega arith), passing d (ih + 1) (λ k a b. p k (omega arith) (omega arith)) (omega arith), e)

  stopped : (ih : ℕ) (r : Option ℕ) → MatchOption r ((k : ℕ) → ih ≤ k → k < 49 → Passed k) (λ i. (ih ≤ i) × (i < 49) × Above i × ((k : ℕ) → ih ≤ k → k < i → Passed k)) → unwrap_or r (max ih 49) ≡ climb_of htr zi ih
  stopped ih None m = elim (eq-or-lt_of_le below) [ inl a ↦ past (omega arith) | inr b ↦ within (omega arith) ]
    where
      below : ih ≤ max ih 49
      below = omega arith

      within : ih ≤ 49 → max ih 49 ≡ climb_of htr zi ih
      within a =
          let e : ih + (49 - ih) ≡ 49 = omega arith in
          let n : max ih 49 ≡ 49 = omega arith in
          rw (n, passing (49 - ih) ih (λ k x y. m k x (omega arith)) (omega arith), e, stays htr zi 49 (omega arith))

      past : 49 ≤ ih → max ih 49 ≡ climb_of htr zi ih
      past b = let n : max ih 49 ≡ ih = omega arith in rw (n, stays htr zi ih b)
  stopped ih (Some i) m =
      let a = m.0 in
      let e : ih + (i - ih) ≡ i = omega arith in
      rw (passing (i - ih) ih (λ k x y. m.3 k x (omega arith)) (omega arith), e, one_more htr zi i m.1, m.2)

pub returns : goal.returns
returns c = rw (c.unwrap_or.ensures, c.max.ensures)
    (stopped c.args.htr.now c.args.zi c.args.ih c.find.result
    (first_from_Range _ _ _ c.find.result (Above c.args.htr.now c.args.zi) (Passed c.args.htr.now c.args.zi) c.find.ensures.ran (λ x q k. search (rules, tests)) (λ x q k. search (rules, tests))))
