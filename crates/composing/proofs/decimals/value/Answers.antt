use Rattle.std.proofs.Common.{rules}
use mathlib.Core.Path.{◌≡◌, refl, sym, ap, ◌∙◌}
use mathlib.Core.Bool.{true}
use Prim.Native.Nat.{ℕ, ◌+◌, ◌-◌, ◌*◌, ◌^◌, ◌≤◌, ◌<◌}
use native.Mathlib.Nat.{le_trans, le_of_eq}
use native.Mathlib.Omega.{arith}
use mathlib.Core.List.{List}
use lib.ListN.{length, drop, get_or}
use Rattle.composing.specs.Decimal.{all_digits}
use Rattle.composing.proofs.decimals.DigitLists.{Next, next, value_on, value-end, fewer, none_left, small}
use Rattle.composing.proofs.decimals.value.Goals as goal

pub record Step (t : List ℕ) (from v i : ℕ) : Type 0 where
  pub digit : Next t i
  pub room : (10 * v + (get_or t i 0 - 48) + 1) * 10 ^ (length t - (i + 1)) ≤ (from + 1) * 10 ^ length t
  pub most : 10 * v + (get_or t i 0 - 48) < 10 ^ 9

step : (t : List ℕ) (from v i : ℕ) → i < length t → all_digits (drop i t) ≡ true → (v + 1) * 10 ^ (length t - i) ≤ (from + 1) * 10 ^ length t → (from + 1) * 10 ^ length t ≤ 10 ^ 9 → Step t from v i
step t from v i h a r p =
    let d = next t i h a in
    let k : get_or t i 0 - 48 ≤ 9 = let m = d.most in omega arith in
    let f = le_trans (fewer v (get_or t i 0 - 48) (length t) i h k) r in
    record { digit = d; room = f; most = small _ (length t - (i + 1)) (le_trans f p) }

none_passed : (v n : ℕ) → (v + 1) * 10 ^ (n - 0) ≤ (v + 1) * 10 ^ n
none_passed v n = let e : n - 0 ≡ n = omega arith in le_of_eq (ap (λ (x : ℕ). (v + 1) * 10 ^ x) e)

pub loop-b-init : goal.loop-b-init
loop-b-init c = record { digits = c.requires.0; number = refl; room = none_passed _ _ }

pub overflow_mul-v : goal.overflow_mul-v
overflow_mul-v c =
    let l = c.loop-b in
    let s = step c.args.t.now c.args.from l.v l.b-index c.loop-b-test.true l.invariant.digits l.invariant.room c.requires.1 in
    omega (arith, s.most)

pub overflow_sub-b : goal.overflow_sub-b
overflow_sub-b c =
    let l = c.loop-b in
    (step c.args.t.now c.args.from l.v l.b-index c.loop-b-test.true l.invariant.digits l.invariant.room c.requires.1).digit.least

pub overflow_add-v : goal.overflow_add-v
overflow_add-v c =
    let l = c.loop-b in
    let s = step c.args.t.now c.args.from l.v l.b-index c.loop-b-test.true l.invariant.digits l.invariant.room c.requires.1 in
    let e : c.from.result ≡ get_or c.args.t.now l.b-index 0 - 48 = search rules in
    omega (arith, s.most, e)

pub loop-b-preserved : goal.loop-b-preserved
loop-b-preserved c =
    let l = c.loop-b in
    let t = c.args.t.now in
    let h = c.loop-b-test.true in
    let s = step t c.args.from l.v l.b-index h l.invariant.digits l.invariant.room c.requires.1 in
    let e : c.from.result ≡ get_or t l.b-index 0 - 48 = search rules in
    record {
      digits = s.digit.rest;
      number = rw e (sym (value_on t l.v l.b-index h) ∙ l.invariant.number);
      room = rw e s.room;
    }

pub returns : goal.returns
returns c =
    let l = c.loop-b in
    let t = c.args.t.now in
    (sym (value-end t l.v l.b-index c.loop-b-test.false) ∙ l.invariant.number, le_trans (le_of_eq (none_left l.v (length t) l.b-index c.loop-b-test.false)) l.invariant.room)
