-- Bytes past the first 53,253 decide nothing. A length over 4,096 is refused with 1, whether the input fills it or not; after a
-- shorter file both the whole input and what is left of it have a sheet of more than 49,152 bytes, and the circuit decides.
use Prim.Native.Nat.{ℕ, ◌+◌, ◌%◌, ◌≤◌, ◌<◌}
use mathlib.Core.Path.{◌≡◌, refl, sym, ap, ◌∙◌}
use mathlib.Core.Bool.{Bool, true, false, ◌&&◌}
use mathlib.Core.List.{List}
use native.Mathlib.Omega.{arith}
use borrow.Author.Tests.{le-leb, lt-leb, leb-true, leb-false}
use lib.Dec.{leb, eqb}
use lib.ListN.{length, take, drop, length-drop}
use lib.Seq.{take_all, length-take-le, get_or-take}
use Rattle.refusal.specs.declared.Refusal.{Refusal}
use Rattle.std.specs.Prelude.{Result, Ok, Err}
use Rattle.records.specs.Record.{form64, word_at}
use Rattle.records.specs.Chain.{length_good, chain_of}
use Rattle.circuit.specs.Read.{read_of}
use Rattle.circuit_sheet.specs.CircuitSheet.{sheet_of}
use Rattle.sheet_text.specs.SheetText.{sheet_text}
use Rattle.marking.specs.Answer.{sheet_most, text_marked}
use Rattle.marking.proofs.marking_answer.Laws.{text-laws}
use Rattle.marking.specs.Marked.{size_in, file_in, sheet_in, length_filled, sheet_marked, marked_of}
use Rattle.marking.specs.Laws.{Filled, input_most}
use Rattle.marking.proofs.Parts.{part_of}

-- ---- an input that is filled

pub filled-true : (input : List ℕ) → Filled input → length_filled input ≡ true
unfolding length_filled
filled-true input h = rw (le-leb 4 _ h.four, le-leb (4 + size_in input) _ h.file)

pub filled-facts : (input : List ℕ) → length_filled input ≡ true → Filled input
unfolding length_filled
filled-facts input e = by (leb 4 (length input)) (leb (4 + size_in input) (length input)) refl refl e
  where
    by : (p q : Bool) → leb 4 (length input) ≡ p → leb (4 + size_in input) (length input) ≡ q → (p && q) ≡ true → Filled input
    by true true f g h = record { four = leb-true _ _ f; file = leb-true _ _ g }
    by true false f g h = let z : ◌≡◌ {A = ℕ} 0 1 = cc in absurd (omega arith)
    by false q f g h = let z : ◌≡◌ {A = ℕ} 0 1 = cc in absurd (omega arith)

pub there : (input : List ℕ) → Filled input → marked_of input ≡ sheet_marked (file_in input) (sheet_in input)
unfolding marked_of
there input h = rw (filled-true input h)

pub not_there : (input : List ℕ) → length_filled input ≡ false → marked_of input ≡ Err Refusal.Length
unfolding marked_of
not_there input e = rw e

-- ---- a file over 4,096 bytes

last-false : (p q : Bool) → (p && (q && false)) ≡ false
last-false true true = refl
last-false true false = refl
last-false false q = refl

too_long : (f : List ℕ) → 4096 < length f → length_good form64 f ≡ false
too_long f h = rw (lt-leb (length f) 4096 h) (last-false (eqb (length f % 64) 0) (leb 128 (length f)))

pub file-long : (f : List ℕ) → 4096 < length f → sheet_of f ≡ Err Refusal.Length
unfolding sheet_of read_of chain_of
file-long f h = rw (too_long f h)

-- the circuit's refusal, whatever the sheet is
pub marked_refused : (file sheet : List ℕ) (r : Refusal) → sheet_of file ≡ Err r
    → sheet_marked file sheet ≡ Err r
unfolding sheet_marked
marked_refused file sheet r e = rw e (text-laws.refused r (sheet_text file) sheet)

long-there : (input : List ℕ) → 4096 < size_in input → Filled input → marked_of input ≡ Err Refusal.Length
long-there input h f =
    let g = f.file in
    let d : size_in input ≤ length (drop 4 input) = simp length-drop (omega arith) in
    let n = length-take-le (size_in input) (drop 4 input) d in
    there input f ∙ marked_refused (file_in input) (sheet_in input) Refusal.Length (file-long (file_in input) (omega arith))

long-marked : (input : List ℕ) → 4096 < size_in input → marked_of input ≡ Err Refusal.Length
long-marked input h = by (length_filled input) refl
  where
    by : (q : Bool) → length_filled input ≡ q → marked_of input ≡ Err Refusal.Length
    by true e = long-there input h (filled-facts input e)
    by false e = not_there input e

-- ---- two sheets that are too long

alike : {T : Type 0} (o : Result T Refusal) (ours s t : List ℕ) → sheet_most < length s → sheet_most < length t → text_marked o ours s ≡ text_marked o ours t
alike (Ok x) ours s t h k = text-laws.long x ours s h ∙ sym (text-laws.long x ours t k)
alike (Err r) ours s t h k = text-laws.refused r ours s ∙ sym (text-laws.refused r ours t)

both_long : (file s t : List ℕ) → sheet_most < length s → sheet_most < length t → sheet_marked file s ≡ sheet_marked file t
unfolding sheet_marked
both_long file s t h k = alike (sheet_of file) (sheet_text file) s t h k

-- ---- an input cut after m bytes

size-cut : (input : List ℕ) (m : ℕ) → 4 ≤ m → size_in (take m input) ≡ size_in input
unfolding word_at
size-cut input m h =
    rw (get_or-take m input 0 0 (omega arith), get_or-take m input 1 0 (omega arith), get_or-take m input 2 0 (omega arith), get_or-take m input 3 0 (omega arith))

short-file : (input : List ℕ) (m : ℕ) → input_most ≤ m → m < length input → size_in input ≤ 4096 → marked_of (take m input) ≡ marked_of input
short-file input m h k l =
    let n = length-take-le m input (omega arith) in
    let c = size-cut input m (omega arith) in
    let whole : Filled input = record { four = omega arith; file = omega arith } in
    let cut : Filled (take m input) = record { four = omega arith; file = omega arith } in
    let a : sheet_most < length (drop (4 + size_in input) (take m input)) = simp length-drop (omega arith) in
    let b : sheet_most < length (sheet_in input) = simp length-drop (omega arith) in
    there (take m input) cut
    ∙ ap (λ (i : ℕ). sheet_marked (take i (drop 4 (take m input))) (drop (4 + i) (take m input))) c
    ∙ ap (λ (f : List ℕ). sheet_marked f (drop (4 + size_in input) (take m input))) (part_of 4 (size_in input) m input (omega arith))
    ∙ both_long (file_in input) (drop (4 + size_in input) (take m input)) (sheet_in input) a b
    ∙ sym (there input whole)

long-file : (input : List ℕ) (m : ℕ) → input_most ≤ m → 4096 < size_in input → marked_of (take m input) ≡ marked_of input
long-file input m h l =
    let c = size-cut input m (omega arith) in
    long-marked (take m input) (omega arith) ∙ sym (long-marked input l)

pub decided : (input : List ℕ) (m : ℕ) → input_most ≤ m → marked_of (take m input) ≡ marked_of input
decided input m h = by (leb (length input) m) (leb (size_in input) 4096) refl refl
  where
    by : (p q : Bool) → leb (length input) m ≡ p → leb (size_in input) 4096 ≡ q → marked_of (take m input) ≡ marked_of input
    by true q e f = ap marked_of (take_all m input (leb-true _ _ e))
    by false true e f = short-file input m h (leb-false _ _ e) (leb-true _ _ f)
    by false false e f = long-file input m h (leb-false _ _ f)
