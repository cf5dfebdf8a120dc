-- What `sheet` prints has room in 8,192 bytes and, where it is no refusal, ends with a line feed: each of its lines does.
use Prim.Native.Nat.{ℕ, zero, suc, ◌+◌, ◌≤◌}
use mathlib.Core.Path.{◌≡◌, refl, subst}
use mathlib.Core.List.{List, [], ◌∷◌, ◌++◌, append_assoc, append-nil}
use native.Mathlib.Omega.{arith}
use lib.ListN.{length, get_or}
use Rattle.std.specs.Prelude.{Result, Ok, Err}
use Rattle.refusal.specs.declared.Refusal.{Refusal}
use Rattle.lines.specs.Text.{space, line_feed, decimal_of, joined}
use Rattle.lines.proofs.Sizes.{refused}
use Rattle.figures.specs.Figure.{figure_of}
use Rattle.figures.specs.FigureText.{figure_text}
use Rattle.profile.specs.Mark.{name_of}
use Rattle.profile.specs.declared.shapes.Mark.{Mark}
use Rattle.mark_text.specs.MarkText.{mark_line, no_mark, mark_line_at, marks_text}
use Rattle.circuit_sheet.specs.declared.Sheet.{Sheet}
use Rattle.circuit_sheet.specs.declared.SlotRows.{SlotRows}
use Rattle.circuit_sheet.specs.CircuitSheet.{no_slot_rows, sheet_of}
use Rattle.sheet_text.specs.SheetText.{call_word, muf_line, call_line, row_line, slot_line, slot_text, slot_text_at, answered_text, sheet_text_by, sheet_text, SlotsFew}
use Rattle.sheet_text.proofs.sheet_lines.Lengths.{answered-most}
use Rattle.sheet_text.proofs.SlotCount.{three-slots}

pub sheet-most : (f : List ℕ) → length (sheet_text f) ≤ 8192
unfolding sheet_text
sheet-most f = by (sheet_of f) refl
  where
    by : (a : Result Sheet Refusal) → sheet_of f ≡ a → length (sheet_text_by a) ≤ 8192
    by (Ok s) e = let m = (answered-most s (subst SlotsFew e (three-slots f))).most in omega (arith, m)
    by (Err r) e = let m = (refused r).most in omega (arith, m)

-- ---- line feeds at the end

pub record EndsLine (t : List ℕ) : Type 0 where
  pub front : List ℕ
  pub is : t ≡ front ++ (line_feed ∷ [])

line : EndsLine (line_feed ∷ [])
line = record { front = []; is = refl }

infixr 60 ◌before◌
◌before◌ : (t : List ℕ) {u : List ℕ} → EndsLine u → EndsLine (t ++ u)
◌before◌ t {u} e = record { front = t ++ e.front; is = rw (e.is, append_assoc) }

many : (text : ℕ → List ℕ) (n : ℕ) → ((i : ℕ) → EndsLine (text i)) → EndsLine (joined text (suc n))
unfolding joined
many text n e = joined text n before e n

call : (s : Sheet) → EndsLine (call_line s.hour)
unfolding call_line
call s = call_word before figure_text (figure_of s.hour.allmuf) before line

mark : (i : ℕ) (m : Mark) → EndsLine (mark_line i m)
unfolding mark_line
mark i m = decimal_of (i + 1) before (space ∷ []) before name_of m before line

marks : (ms : List Mark) → EndsLine (marks_text ms)
unfolding marks_text
marks ms = many (mark_line_at ms) 49 (λ i. mark i (get_or ms i no_mark))

slot : (rows : SlotRows) (k : ℕ) → EndsLine (slot_text rows k)
unfolding slot_text
slot rows k = slot_line k before joined (row_line rows.ion) 30 before marks rows.marks

slots : (s : Sheet) (n : ℕ) → EndsLine (call_line s.hour ++ joined (slot_text_at s.rows) n)
unfolding joined
slots s zero = rw append-nil (call s)
slots s (suc n) = call_line s.hour before many (slot_text_at s.rows) n (λ k. slot (get_or s.rows k no_slot_rows) k)

answered : (s : Sheet) → EndsLine (answered_text s)
unfolding answered_text
answered s = muf_line s.hour before slots s s.slots

pub sheet-ends : (f : List ℕ) (s : Sheet) → sheet_of f ≡ Ok s → EndsLine (sheet_text f)
unfolding sheet_text
sheet-ends f s e = rw e (answered s)
