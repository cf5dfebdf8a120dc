-- The loop goes over the words of the line, and each is added to the row.
use Rattle.std.proofs.Common.{rules, tests, length-append}
use Rattle.std.specs.Prelude.{Some, Err}
use mathlib.Core.Path.{◌≡◌, refl, sym, ap, ◌∙◌}
use mathlib.Core.List.{List, [], ◌∷◌, ◌++◌}
use Prim.Native.Nat.{ℕ, suc, ◌≤◌, ◌<◌}
use native.Mathlib.Omega.{arith}
use lib.ListN.{length, get_or, drop}
use Rattle.std.proofs.lemmas.Iterator.Consumers.{YieldsList-at, YieldsList-from_filter, YieldsList-turn, YieldsList-end}
use Rattle.std.proofs.lemmas.Iterator.Splits.{YieldsList-from_slice_split}
use Rattle.composing.specs.Words.{blank, words_of}
use Rattle.composing.proofs.words.Parts.{not_empty, parts}
use Rattle.composing.specs.declared.compose_line.Row.{Row}
use Rattle.composing.proofs.compose_line.Then.{then-ok, then-err}
use Rattle.composing.proofs.compose_line.WordPlaces.{next_word, no_words}
use Rattle.composing.specs.Row.{with_words}
use Rattle.composing.proofs.compose_line.all_words.Goals.{In-Some, In-None}
use Rattle.composing.proofs.compose_line.all_words.Goals as goal

abbrev At : List (List ℕ) → ℕ → List ℕ → Type 0
At ws i w = (i < length ws) × (w ≡ get_or ws i w)

turn : (c : In-Some) → At (words_of c.args.line.now) (length c.loop-w.yielded) c.in-Some.w.now
turn c =
    rw (← parts c.args.line.now)
    (YieldsList-turn
    (YieldsList-at c.into_iter-w-iterator.ensures.into_iter_gives
    (YieldsList-from_filter _ not_empty
    (YieldsList-at c.filter-w-items.ensures.source
    (YieldsList-from_slice_split _ blank c.args.line.now c.split.ensures.rest c.split.ensures.done c.split.ensures.closure (λ x r q k. search (rules, tests))))
    c.filter-w-items.ensures.closure (λ x r q k. search (rules, tests))))
    c.loop-w.yielded c.loop-w.w-iterator c.loop-w.yielded_by c.next.result c.next.new.self c.in-Some.w c.in-Some.is c.next.ensures.steps)

all : (c : In-None) → length (words_of c.args.line.now) ≤ length c.loop-w.yielded
all c =
    let e = YieldsList-end
    (YieldsList-at c.into_iter-w-iterator.ensures.into_iter_gives
    (YieldsList-from_filter _ not_empty
    (YieldsList-at c.filter-w-items.ensures.source
    (YieldsList-from_slice_split _ blank c.args.line.now c.split.ensures.rest c.split.ensures.done c.split.ensures.closure (λ x r q k. search (rules, tests))))
    c.filter-w-items.ensures.closure (λ x r q k. search (rules, tests))))
    c.loop-w.yielded c.loop-w.w-iterator c.loop-w.yielded_by c.next.result c.next.new.self c.in-None.is c.next.ensures.steps in
    let k : length c.loop-w.yielded ≡ length (words_of c.args.line.now) = e.1 ∙ ap length (parts c.args.line.now) in
    omega (arith, k)

pub loop-w-preserved : goal.loop-w-preserved
loop-w-preserved c =
    let l = c.loop-w in
    let t = turn (goal.at.loop-w-preserved c).In-Some in
    let n : length (l.yielded ++ c.in-Some.w ∷ []) ≡ suc (length l.yielded) = omega (arith, length-append l.yielded (c.in-Some.w ∷ [])) in
    then-ok (λ (x : Row). with_words (Some x) (drop (length (l.yielded ++ c.in-Some.w ∷ [])) (words_of c.args.line.now))) c.word.ensures c.in_ok-word.was
    ∙ next_word l.row (words_of c.args.line.now) (length l.yielded) (length (l.yielded ++ c.in-Some.w ∷ [])) c.in-Some.w.now t.0 t.1 n
    ∙ l.invariant

pub returns-in_err-word : goal.returns-in_err-word
returns-in_err-word c =
    let l = c.loop-w in
    let t = turn (goal.at.returns-in_err-word c).In-Some in
    let e : c.from_residual.result ≡ Err c.in_err-word.field-0.0 = search rules in
    e
    ∙ then-err (λ (x : Row). with_words (Some x) (drop (suc (length l.yielded)) (words_of c.args.line.now))) c.word.ensures c.in_err-word.was
    ∙ next_word l.row (words_of c.args.line.now) (length l.yielded) (suc (length l.yielded)) c.in-Some.w.now t.0 t.1 refl
    ∙ l.invariant

pub returns : goal.returns
returns c =
    let l = c.loop-w in
    sym (no_words l.row (words_of c.args.line.now) (length l.yielded) (all (goal.at.returns c).In-None)) ∙ l.invariant
