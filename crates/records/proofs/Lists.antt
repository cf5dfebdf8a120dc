-- Facts on lists of bytes and words that several proofs cite.
use Prim.Native.Nat.{ℕ, zero, suc, ◌+◌, ◌*◌, ◌-◌, ◌≤◌, ◌<◌}
use mathlib.Core.Path.{◌≡◌, refl, ap, ◌∙◌, sym}
use mathlib.Core.List.{List, [], ◌∷◌, ◌++◌, append_assoc, append-nil, map}
use mathlib.Core.Bool.{true}
use native.Mathlib.Omega.{arith}
use native.Mathlib.Numerals.{add-one}
use lib.ListN.{length, get_or, take, drop, set, length-append, length-drop, drop_of_length-le, replicate, length-map}
use lib.Seq.{drop-cons, set_at, length-take-le}
use lib.Dec.{eqb}
use borrow.Author.Tests.{eqb-true}
use Rattle.std.specs.List.{list_all}
use Rattle.std.proofs.lemmas.List.{drop-append-le}
use Rattle.records.specs.declared.Form.{Form}
use Rattle.records.specs.Record.{Fit, form64, all_zero, record_words, word_at, record_at}
use native.Mathlib.Nat.{add-sub_cancel_left}
use Rattle.std.proofs.lemmas.Bool.{and_parts}

-- looked through from the left, as the iterator's method does
pub all-zero : (l : List ℕ) → list_all (λ (n : ℕ). eqb n 0) l ≡ all_zero l
unfolding all_zero
all-zero [] = refl
all-zero (n ∷ l) = rw (all-zero l)

pub length-words : (r : List ℕ) (n : ℕ) → length (record_words r n) ≡ n
unfolding record_words
length-words r zero = refl
length-words r (suc n) = simp (length-append, length-words r n, add-one)

-- the words after the first `skip` are as many as were asked for
pub length-after : (r : List ℕ) (skip words : ℕ) → length (drop skip (record_words r (skip + words))) ≡ words
length-after r skip words = simp (length-drop, length-words) (omega arith)

-- the first `skip` words left out, none is left of so many, and of one more it is the last beside the others
pub none-after : (r : List ℕ) (skip : ℕ) → drop skip (record_words r (skip + 0)) ≡ []
none-after r skip = drop_of_length-le (record_words r (skip + 0)) (simp length-words (omega arith))

pub one-after : (r : List ℕ) (skip i : ℕ)
    → drop skip (record_words r (skip + (i + 1))) ≡ drop skip (record_words r (skip + i)) ++ (word_at r (4 + 4 * (skip + i)) ∷ [])
unfolding record_words
one-after r skip i =
    let e : skip + (i + 1) ≡ suc (skip + i) = omega arith in
    ap (λ (n : ℕ). drop skip (record_words r n)) e
    ∙ drop-append-le skip (record_words r (skip + i)) (word_at r (4 + 4 * (skip + i)) ∷ []) (simp length-words (omega arith))

-- a word stored
pub words-on : (r l o : List ℕ) (skip i : ℕ) → i < length l → o ≡ drop skip (record_words r (skip + i)) ++ drop i l
    → set o i (word_at r (4 + 4 * (skip + i))) ≡ drop skip (record_words r (skip + (i + 1))) ++ drop (i + 1) l
words-on r l o skip i h e =
    let w = word_at r (4 + 4 * (skip + i)) in
    rw (
      e,
      drop-cons l i 0,
      set_at (drop skip (record_words r (skip + i))) (get_or l i 0) (drop (suc i) l) w i (length-after r skip i),
      one-after r skip i,
      add-one,
      append_assoc,
    )

-- a list filled to its end
pub filled-up : (w l : List ℕ) (i : ℕ) → length l ≤ i → w ++ drop i l ≡ w
filled-up w l i h = rw (drop_of_length-le l h, append-nil)

-- record n as the part of the file that is lent
pub part : (o : Form) (f : List ℕ) (n : ℕ)
    → take (o.size * n + o.size - o.size * n) (drop (o.size * n) f) ≡ record_at o f n
part o f n = ap (λ (k : ℕ). take k (drop (o.size * n) f)) (add-sub_cancel_left (o.size * n) o.size)

pub length_part : (a w : ℕ) (l : List ℕ) → a + w ≤ length l → length (take (a + w - a) (drop a l)) ≡ w
length_part a w l h = rw (add-sub_cancel_left a w) (length-take-le w (drop a l) (simp length-drop (omega arith)))

-- a list of zeros
pub zeros : (l : List ℕ) → all_zero l ≡ true → l ≡ replicate (length l) 0
unfolding all_zero
zeros [] e = refl
zeros (x ∷ l) e =
    let t = and_parts (eqb x 0) (all_zero l) e in
    let h = eqb-true x 0 t.0 in
    let k = zeros l t.1 in
    cc

-- an array field's length, as owning the struct tells it
pub sized : (n : ℕ) (l : List ℕ) → length (map (λ (v : ℕ). v) l) ≡ n → length l ≡ n
sized n l e = sym (length-map l (λ (v : ℕ). v)) ∙ e

-- the paper's form is one of those
pub fit64 : Fit form64
fit64 = (omega arith, omega arith, omega arith)
