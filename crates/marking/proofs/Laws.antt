-- The laws of a marking: those of the two texts, where the input has a file that `sheet` answers.
use Prim.Native.Nat.{ℕ, ◌+◌, ◌≤◌, ◌<◌}
use mathlib.Core.Path.{◌≡◌, refl, sym, ap, ◌∙◌}
use mathlib.Core.Bool.{Bool, true, false}
use mathlib.Core.List.{List, [], ◌∷◌, ◌++◌}
use mathlib.Core.Logic.{inr}
use native.Mathlib.Omega.{arith}
use lib.ListN.{length, length-append}
use Rattle.refusal.specs.declared.Refusal.{Refusal}
use Rattle.std.specs.Prelude.{None, Some, Result, Ok, Err}
use Rattle.circuit_sheet.specs.declared.Sheet.{Sheet}
use Rattle.lines.specs.Text.{line_feed}
use Rattle.circuit_sheet.specs.CircuitSheet.{sheet_of}
use Rattle.first_difference.specs.Difference.{verdict_of}
use Rattle.first_difference.specs.Laws.{FirstOther, Ended, carriage_return}
use Rattle.first_difference.proofs.Laws.{difference-laws}
use Rattle.marking.specs.Answer.{sheet_most, marking_of, text_marked}
use Rattle.marking.proofs.marking_answer.Laws.{text-laws, compared}
use Rattle.marking.specs.Marked.{file_in, sheet_in, length_filled, sheet_marked, marked_of}
use Rattle.marking.specs.Laws.{Filled, Answers, ours_in, MarkingLaws, MarkingCases}
use Rattle.marking.proofs.OurText.{sheet-most, sheet-ends}
use Rattle.marking.proofs.Decided.{filled-facts, there, not_there, marked_refused, decided}

-- our answer, that of the circuit
abbrev answer_in : List ℕ → Result Sheet Refusal
answer_in input = sheet_of (file_in input)

-- the marking of an input that is filled is that of its two texts
texts : (input : List ℕ) → Filled input → marked_of input ≡ text_marked (answer_in input) (ours_in input) (sheet_in input)
unfolding sheet_marked
texts input h = there input h

-- a marking that is no refusal is one of an input that is filled
data Of (input : List ℕ) : Type 0 where
  marking : Filled input → Of input
  refusal : marked_of input ≡ Err Refusal.Length → Of input

of : (input : List ℕ) → Of input
of input = by (length_filled input) refl
  where
    by : (q : Bool) → length_filled input ≡ q → Of input
    by true e = marking (filled-facts input e)
    by false e = refusal (not_there input e)

same-only : (input : List ℕ) → marked_of input ≡ Ok None → Answers input × (sheet_in input ≡ ours_in input)
same-only input e = by (of input)
  where
    by : Of input → Answers input × (sheet_in input ≡ ours_in input)
    by (marking h) =
        let s = (text-laws.same (answer_in input) (ours_in input) (sheet_in input)).0 (sym (texts input h) ∙ e) in
        (record { there = h; answered = s.0.answered }, s.1)
    by (refusal f) = let z : ◌≡◌ {A = ℕ} 0 1 = cc in absurd (omega arith)

same-all : (input : List ℕ) → Answers input × (sheet_in input ≡ ours_in input) → marked_of input ≡ Ok None
same-all input p =
    let n : length (sheet_in input) ≡ length (ours_in input) = ap length p.1 in
    let m = sheet-most (file_in input) in
    texts input p.0.there
    ∙ (text-laws.same (answer_in input) (ours_in input) (sheet_in input)).1
    (record { answered = p.0.answered; within = omega arith }, p.1)

differs-text : (input : List ℕ) (n : ℕ) → marked_of input ≡ Ok (Some n)
    → Filled input × (text_marked (answer_in input) (ours_in input) (sheet_in input) ≡ Ok (Some n))
differs-text input n e = by (of input)
  where
    by : Of input → Filled input × (text_marked (answer_in input) (ours_in input) (sheet_in input) ≡ Ok (Some n))
    by (marking h) = (h, sym (texts input h) ∙ e)
    by (refusal f) = let z : ◌≡◌ {A = ℕ} 0 1 = cc in absurd (omega arith)

differs-only : (input : List ℕ) (n : ℕ) → marked_of input ≡ Ok (Some n)
    → Answers input × (length (sheet_in input) ≤ sheet_most) × FirstOther (ours_in input) (sheet_in input) n
differs-only input n e =
    let d = differs-text input n e in
    let s = (text-laws.differs (answer_in input) (ours_in input) (sheet_in input) n).0 d.1 in
    (record { there = d.0; answered = s.0.answered }, s.0.within, s.1)

differs-all : (input : List ℕ) (n : ℕ)
    → Answers input × (length (sheet_in input) ≤ sheet_most) × FirstOther (ours_in input) (sheet_in input) n
    → marked_of input ≡ Ok (Some n)
differs-all input n p =
    texts input p.0.there
    ∙ (text-laws.differs (answer_in input) (ours_in input) (sheet_in input) n).1
    (record { answered = p.0.answered; within = p.1 }, p.2)

most : (input : List ℕ) (n : ℕ) → marked_of input ≡ Ok (Some n) → n ≤ 1 + sheet_most
most input n e =
    let d = differs-text input n e in
    let m = text-laws.most (answer_in input) (ours_in input) (sheet_in input) n d.1 in
    let w = (differs-only input n e).1 in
    omega arith

unfilled : (input : List ℕ) → (Filled input → ⊥) → marked_of input ≡ Err Refusal.Length
unfilled input h = by (of input)
  where
    by : Of input → marked_of input ≡ Err Refusal.Length
    by (marking f) = absurd (h f)
    by (refusal e) = e

long : (input : List ℕ) → Answers input → sheet_most < length (sheet_in input) → marked_of input ≡ Err Refusal.SheetLength
long input a h =
    texts input a.there
    ∙ ap (λ (o : Result Sheet Refusal). text_marked o (ours_in input) (sheet_in input)) a.answered.1
    ∙ text-laws.long a.answered.0 (ours_in input) (sheet_in input) h

pub marking-laws : MarkingLaws
marking-laws =
    record {
      same = λ input. (same-only input, same-all input);
      differs = λ input n. (differs-only input n, differs-all input n);
      closed = λ input n e.
          text-laws.closed (answer_in input) (ours_in input) (sheet_in input) n (differs-text input n e).1;
      most = most;
      unfilled = unfilled;
      circuit = λ input r h e. there input h ∙ marked_refused (file_in input) (sheet_in input) r e;
      long = long;
      decided = decided;
    }

-- ---- the cases

-- within the size the verdict is the marking
verdict : (input : List ℕ) → Answers input → length (sheet_in input) ≤ sheet_most
    → marked_of input ≡ marking_of (verdict_of (ours_in input) (sheet_in input))
verdict input a h =
    texts input a.there
    ∙ compared (answer_in input) (ours_in input) (sheet_in input) (record { answered = a.answered; within = h })

case : (input : List ℕ) (n : ℕ) → Answers input → length (sheet_in input) ≤ sheet_most
    → verdict_of (ours_in input) (sheet_in input) ≡ Some n → marked_of input ≡ Ok (Some n)
case input n a h e = verdict input a h ∙ ap marking_of e

-- a sheet that ours goes on from is within the size
shorter : (input rest : List ℕ) → ours_in input ≡ sheet_in input ++ rest → length (sheet_in input) ≤ sheet_most
shorter input rest e =
    let m = sheet-most (file_in input) in
    let l : length (ours_in input) ≡ length (sheet_in input) + length rest = ap length e ∙ length-append (sheet_in input) rest in
    omega arith

some : (input : List ℕ) → Answers input → ours_in input ≡ [] → ⊥
some input a e =
    let p = sheet-ends (file_in input) a.answered.0 a.answered.1 in
    let l : length (ours_in input) ≡ length p.front + 1 = ap length p.is ∙ length-append p.front (line_feed ∷ []) in
    let z : length (ours_in input) ≡ 0 = ap length e in
    omega arith

ends : (input : List ℕ) → Answers input → Ended (ours_in input)
ends input a = let p = sheet-ends (file_in input) a.answered.0 a.answered.1 in inr (p.front, p.is)

pub marking-cases : MarkingCases
marking-cases =
    record {
      early = λ input rest a e h f.
          case input _ a (shorter input rest e) (rw e (difference-laws.early (sheet_in input) rest f h));
      none = λ input a e.
          let l : length (sheet_in input) ≡ 0 = ap length e in
          case input 1 a (omega arith) (ap (verdict_of (ours_in input)) e ∙ difference-laws.none (ours_in input) (some input a));
      unended = λ input a e.
          case input _ a (shorter input _ e) (rw e (difference-laws.unended (sheet_in input)));
      more = λ input rest a h e k.
          case input _ a h (ap (verdict_of (ours_in input)) e ∙ difference-laws.more (ours_in input) rest (ends input a) k);
      carriage = λ input p s t a h e f.
          case input _ a h (ap (verdict_of (ours_in input)) f ∙ ap (λ (o : List ℕ). verdict_of o (p ++ (carriage_return ∷ (line_feed ∷ t)))) e ∙ difference-laws.carriage p s t);
    }
