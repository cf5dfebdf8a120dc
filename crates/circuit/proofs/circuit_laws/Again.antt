-- A record is put together again from its kind, its next index and its words: each of its numbers, taken apart, gives the
-- bytes that it was made of, and what follows the words is zero.
use Prim.Native.Nat.{ℕ, zero, suc, ◌+◌, ◌*◌, ◌-◌, ◌/◌, ◌%◌, ◌≤◌, ◌<◌}
use mathlib.Core.Path.{◌≡◌, refl, ap, ◌∙◌, sym}
use mathlib.Core.List.{List, [], ◌∷◌, ◌++◌}
use mathlib.Core.Bool.{true}
use native.Mathlib.Omega.{arith}
use lib.ListN.{length, get_or, take, drop, replicate, length-drop, take-append-drop}
use lib.Seq.{take-add, drop-drop, get_or-take, get_or-drop}
use lib.Dec.{eqb}
use borrow.Author.Tests.{eqb-true}
use Rattle.circuit.specs.declared.Circuit.{Circuit}
use Rattle.records.specs.declared.Form.{Form}
use Rattle.records.specs.Record.{Fit, half_at, word_at, kind_of, next_of, record_words, all_zero}
use Rattle.records.specs.Chain.{km_of, shape_of}
use Rattle.std.proofs.lemmas.Bool.{and_parts}
use Rattle.records.proofs.Lists.{zeros, length-words}
use Rattle.records.proofs.record_chain.Steps.{Head}
use Rattle.circuit.specs.Bytes.{half_of, word_bytes, bytes_of, record_of, head_of}
use Rattle.circuit.proofs.record_put.Cells.{bytes-append, head-put}
use Rattle.circuit.specs.Forms.{Each}
use Rattle.circuit.proofs.circuit_laws.Back.{word-at}
use Rattle.circuit.proofs.circuit_laws.ReadWritten.{each-drop}

half-forth : (a b : ℕ) → a < 256 → b < 256 → half_of (a + 256 * b) ≡ a ∷ b ∷ []
half-forth a b h k =
    let p : (a + 256 * b) % 256 ≡ a = omega arith in
    let q : (a + 256 * b) / 256 ≡ b = omega arith in
    let q' : b % 256 ≡ b = omega arith in
    rw (p, q, q')

word-forth : (a b c d : ℕ) → a < 256 → b < 256 → c < 256 → d < 256
    → word_bytes (a + 256 * b + 0x1_0000 * c + 0x100_0000 * d) ≡ a ∷ b ∷ c ∷ d ∷ []
word-forth a b c d h k l m =
    let w = a + 256 * b + 0x1_0000 * c + 0x100_0000 * d in
    let p : w % 256 ≡ a = omega arith in
    let q : w / 256 ≡ b + 256 * c + 0x1_0000 * d = omega arith in
    let r : w / 0x1_0000 ≡ c + 256 * d = omega arith in
    let s : w / 0x100_0000 ≡ d = omega arith in
    let q' : (b + 256 * c + 0x1_0000 * d) % 256 ≡ b = omega arith in
    let r' : (c + 256 * d) % 256 ≡ c = omega arith in
    let s' : d % 256 ≡ d = omega arith in
    rw (p, q, r, s, q', r', s')

-- the four bytes that a list of at least four starts with, as a word
four-forth : (l : List ℕ) → 4 ≤ length l → Each 256 l → word_bytes (word_at l 0) ≡ take 4 l
unfolding word_at
four-forth [] h p = absurd (omega arith)
four-forth (a ∷ []) h p = absurd (omega arith)
four-forth (a ∷ b ∷ []) h p = absurd (omega arith)
four-forth (a ∷ b ∷ c ∷ []) h p = absurd (omega arith)
four-forth (a ∷ b ∷ c ∷ d ∷ l) h p = word-forth a b c d p.0 p.1.0 p.1.1.0 p.1.1.1.0

-- and as two halves
halves-forth : (l : List ℕ) → 4 ≤ length l → Each 256 l → half_of (kind_of l) ++ half_of (next_of l) ≡ take 4 l
unfolding half_at
halves-forth [] h p = absurd (omega arith)
halves-forth (a ∷ []) h p = absurd (omega arith)
halves-forth (a ∷ b ∷ []) h p = absurd (omega arith)
halves-forth (a ∷ b ∷ c ∷ []) h p = absurd (omega arith)
halves-forth (a ∷ b ∷ c ∷ d ∷ l) h p =
    ap (λ (x : List ℕ). x ++ half_of (c + 256 * d)) (half-forth a b p.0 p.1.0)
    ∙ ap (λ (x : List ℕ). a ∷ b ∷ x) (half-forth c d p.1.1.0 p.1.1.1.0)

-- the bytes of the first n words of a record are its bytes from 4 on
bytes-forth : (r : List ℕ) (n : ℕ) → 4 + 4 * n ≤ length r → Each 256 r → bytes_of (record_words r n) ≡ take (4 * n) (drop 4 r)
unfolding record_words bytes_of
bytes-forth r zero h p = refl
bytes-forth r (suc n) h p =
    let at = 4 + 4 * n in
    let q : 4 * suc n ≡ 4 * n + 4 = omega arith in
    let four : word_bytes (word_at r at) ≡ take 4 (drop (4 * n) (drop 4 r))
    = ap word_bytes (word-at r at)
    ∙ four-forth (drop at r) (simp length-drop (omega arith)) (each-drop 256 at r p)
    ∙ ap (take 4) (sym (drop-drop (4 * n) 4 r)) in
    bytes-append (record_words r n) (word_at r at ∷ [])
    ∙ ap (λ (l : List ℕ). l ++ word_bytes (word_at r at)) (bytes-forth r n (omega arith) p)
    ∙ ap (λ (l : List ℕ). take (4 * n) (drop 4 r) ++ l) four
    ∙ sym (take-add (4 * n) 4 (drop 4 r))
    ∙ ap (λ (k : ℕ). take k (drop 4 r)) (sym q)

zero-at : (l : List ℕ) → all_zero l ≡ true → (i : ℕ) → get_or l i 0 ≡ 0
unfolding all_zero
zero-at [] e i = refl
zero-at (x ∷ l) e zero = eqb-true x 0 (and_parts (eqb x 0) (all_zero l) e).0
zero-at (x ∷ l) e (suc i) = zero-at l (and_parts (eqb x 0) (all_zero l) e).1 i

module _ (r : List ℕ) (p : Each 256 r) where
  pub record-again : (n : ℕ) → 4 + 4 * n ≤ length r → all_zero (drop (4 + 4 * n) r) ≡ true
      → record_of (length r) (kind_of r) (next_of r) (record_words r n) ≡ r
  unfolding record_of
  record-again n k z =
      let t : replicate (length r - (4 + 4 * length (record_words r n))) 0 ≡ drop (4 + 4 * n) r
      = ap (λ (m : ℕ). replicate (length r - (4 + 4 * m)) 0) (length-words r n)
      ∙ ap (λ (m : ℕ). replicate m 0) (sym (length-drop (4 + 4 * n) r))
      ∙ sym (zeros (drop (4 + 4 * n) r) z) in
      let X = bytes_of (record_words r n) ++ replicate (length r - (4 + 4 * length (record_words r n))) 0 in
      let x : X ≡ drop 4 r
      = ap (λ (l : List ℕ). bytes_of (record_words r n) ++ l) (t ∙ sym (drop-drop (4 * n) 4 r))
      ∙ ap (λ (l : List ℕ). l ++ drop (4 * n) (drop 4 r)) (bytes-forth r n k p)
      ∙ take-append-drop (4 * n) (drop 4 r) in
      ap (λ (l : List ℕ). l ++ X) (halves-forth r (omega arith) p)
      ∙ ap (λ (l : List ℕ). take 4 r ++ l) x
      ∙ take-append-drop 4 r

  -- record 0, whose first word is km, shape and two zero bytes
  module _ (o : Form) (size : length r ≡ o.size) (fit : Fit o) (t : Head o r) where
    gap_at : (i : ℕ) → i < 2 → get_or r (6 + i) 0 ≡ 0
    gap_at i k =
        sym (get_or-drop 6 r i 0) ∙ sym (get_or-take 2 (drop 6 r) i 0 k) ∙ zero-at (take 2 (drop 6 r)) t.gap i

    first_word : km_of r + 256 * shape_of r ≡ word_at r 4
    unfolding word_at
    first_word = omega (arith, gap_at 0 (omega arith), gap_at 1 (omega arith))

    pub head-again : (c : Circuit) → c.km ≡ km_of r → c.shape ≡ shape_of r
        → c.gcd ∷ c.gcdkm ∷ c.amind ∷ c.ssn ∷ [] ≡ word_at r 8 ∷ word_at r 12 ∷ word_at r 16 ∷ word_at r 20 ∷ []
        → head_of o c (next_of r) ≡ r
    unfolding record_words
    head-again c a b e =
        let first : c.km + 256 * c.shape ≡ word_at r 4 = rw (a, b) first_word in
        sym (head-put o c (next_of r) (omega (arith, t.most)) (omega (arith, t.form)))
        ∙ ap (λ (l : List ℕ). record_of o.size o.first (next_of r) ((c.km + 256 * c.shape) ∷ l)) e
        ∙ ap (λ (m : ℕ). record_of o.size o.first (next_of r) (m ∷ word_at r 8 ∷ word_at r 12 ∷ word_at r 16 ∷ word_at r 20 ∷ [])) first
        ∙ ap (λ (m : ℕ). record_of o.size m (next_of r) (record_words r 5)) (sym t.kind)
        ∙ ap (λ (m : ℕ). record_of m (kind_of r) (next_of r) (record_words r 5)) (sym size)
        ∙ record-again 5 (omega arith) t.tail
