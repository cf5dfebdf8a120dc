use Rattle.std.proofs.Common.{rules, tests, length-append}
use Rattle.std.specs.List.{IsFirstMatchOrLen}
use Rattle.std.proofs.lemmas.Fn.{always_returns_same}
use Rattle.std.specs.Prelude.{Option, Result, Ok, Err, IfOk, IfErr}
use mathlib.Core.Path.{◌≡◌, refl, sym, ap, ◌∙◌, subst}
use mathlib.Core.List.{List, ◌∷◌, ◌++◌}
use Prim.Native.Nat.{ℕ, ◌+◌, ◌<◌, min}
use native.Mathlib.Omega.{arith}
use lib.ListN.{length}
use Rattle.first_difference.specs.Lines.{lines_of}
use Rattle.composing.specs.Row.{then}
use Rattle.composing.proofs.compose_line.Then.{then-ok, then-err}
use Rattle.composing.specs.declared.compose_line.faults.Fault.{Fault}
use Rattle.composing.specs.declared.compose_line.faults.Wrong.{Wrong}
use Rattle.composing.specs.declared.compose_text.Draft.{Draft}
use Rattle.composing.specs.Draft.{at_line, with_line, with_lines, composed_of}
use Rattle.composing.proofs.compose_text.LinePlaces.{is_feed, first, no_lines}
use Rattle.composing.proofs.compose_text.compose.Goals.{In-Some}
use Rattle.composing.proofs.compose_text.compose.Goals as goal

taken : (c : In-Some) → lines_of c.loop-line.line-iterator.rest.now ≡ c.in-Some.line.now ∷ lines_of c.next.new.self.rest.now
taken c =
    let s = c.in-Some.ensures.steps in
    let m = (s.1.2 is_feed (always_returns_same _ _ c.loop-line.line-iterator.pred (λ a r q k. search (rules, tests)))).1 in
    let x = c.in-Some.line.now in
    let t = c.next.new.self.rest.now in
    let l : length x ≡ min (s.1.0 + 1) (length (x ++ t)) = s.1.1 ∙ ap (λ (y : List ℕ). min (s.1.0 + 1) (length y)) s.0 in
    ap lines_of s.0 ∙ first x t s.1.0 (subst (λ (y : List ℕ). 0 < length y) s.0 s.2) l (subst (λ (y : List ℕ). IsFirstMatchOrLen is_feed y s.1.0) s.0 m)

shorter : (c : In-Some) → length c.next.new.self.rest.now < length c.loop-line.line-iterator.rest.now
shorter c =
    let s = c.in-Some.ensures.steps in
    let l : length c.loop-line.line-iterator.rest.now ≡ length (c.in-Some.line.now ++ c.next.new.self.rest.now) = ap length s.0 in
    omega (arith, l, length-append c.in-Some.line.now c.next.new.self.rest.now, s.1.1, s.2)

pub loop-line-init : goal.loop-line-init
unfolding composed_of
loop-line-init c = record { counted = search rules; circuit = search rules }

-- the line that is read next
read : (c : In-Some)
    → then (λ (x : Option Draft). with_lines x (c.loop-line.number + 1) (lines_of c.next.new.self.rest.now))
    (at_line c.loop-line.number (with_line c.loop-line.draft c.in-Some.line.now))
    ≡ composed_of c.args.text.now
unfolding with_lines
read c = sym (ap (with_lines c.loop-line.draft c.loop-line.number) (taken c)) ∙ c.loop-line.invariant.circuit

-- what is wrong, or the draft that is made, is of the line
wrong-at : (n : ℕ) (r : Result (Unit {0}) Fault) (x : Result (Option Draft) Fault) (w : Wrong)
    → IfErr r (λ f. x ≡ Err f) → at_line n r ≡ Err w → at_line n x ≡ Err w
wrong-at n (Ok u) x w h e = absurd cc
wrong-at n (Err f) x w h e =
    let s : ◌≡◌ {A = Wrong} (record { line = n; fault = f }) w = cc in
    rw (h, s)

added-at : (n : ℕ) (r : Result (Unit {0}) Fault) (x : Result (Option Draft) Fault) (d : Option Draft) (u : Unit {0})
    → IfOk r (λ _. x ≡ Ok d) → at_line n r ≡ Ok u → at_line n x ≡ Ok d
added-at n (Ok v) x d u h e = rw h refl
added-at n (Err f) x d u h e = absurd cc

pub returns-in_err-at_line : goal.returns-in_err-at_line
returns-in_err-at_line c =
    let l = c.loop-line in
    let e : c.from_residual.result ≡ Err c.in_err-at_line.field-0.0 = search rules in
    let wrong = wrong-at l.number c.add_line.result (with_line l.draft c.in-Some.line.now) _ c.add_line.ensures.wrong (sym c.at_line.ensures ∙ c.in_err-at_line.was) in
    e
    ∙ then-err (λ (x : Option Draft). with_lines x (l.number + 1) (lines_of c.next.new.self.rest.now)) refl wrong
    ∙ read (goal.at.returns-in_err-at_line c).In-Some

pub loop-line-preserved : goal.loop-line-preserved
loop-line-preserved c =
    let l = c.loop-line in
    let added = added-at l.number c.add_line.result (with_line l.draft c.in-Some.line.now) c.add_line.new.draft _ c.add_line.ensures.added (sym c.at_line.ensures ∙ c.in_ok-at_line.was) in
    record {
      counted = omega (arith, l.invariant.counted, shorter (goal.at.loop-line-preserved c).In-Some);
      circuit = then-ok (λ (x : Option Draft). with_lines x (l.number + 1) (lines_of c.next.new.self.rest.now)) refl added
          ∙ read (goal.at.loop-line-preserved c).In-Some;
    }

pub returns : goal.returns
returns c =
    let l = c.loop-line in
    c.at_line-2.ensures ∙ ap (at_line l.number) c.ended.ensures ∙ sym (no_lines l.draft l.number l.line-iterator.rest.now c.in-None.ensures.steps.0) ∙ l.invariant.circuit
