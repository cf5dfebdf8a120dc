-- The numbers of a record that was put, read back.
use Prim.Native.Nat.{ℕ, zero, suc, ◌+◌, ◌*◌, ◌-◌, ◌/◌, ◌%◌, ◌^◌, ◌≤◌, ◌<◌}
use mathlib.Core.Path.{◌≡◌, refl, ap, ◌∙◌, sym}
use mathlib.Core.List.{List, [], ◌∷◌, ◌++◌}
use mathlib.Core.Bool.{true}
use native.Mathlib.Omega.{arith}
use lib.ListN.{length, get_or, take, drop, replicate}
use lib.Seq.{drop-cons, take-suc, take-length, get_or-drop, drop-append-add, drop-length}
use native.Mathlib.Nat.{add-zero, div-div-eq-div-mul}
use borrow.Author.Tests.{eq-eqb}
use Rattle.records.specs.Record.{half_at, word_at, kind_of, next_of, record_words, all_zero, fits}
use Rattle.circuit.specs.Bytes.{bytes_of, record_of}
use Rattle.circuit.specs.Forms.{Each}

pub half_back : (n : ℕ) → n < 0x1_0000 → n % 256 + 256 * (n / 256 % 256) ≡ n
half_back n h = omega arith

low : (n : ℕ) → n % 256 + 256 * (n / 256) ≡ n
low n = omega arith

joined : (a b c d w x y z : ℕ) → a + 256 * x ≡ w → b + 256 * y ≡ x → c + 256 * z ≡ y → d ≡ z
    → a + 256 * b + 0x1_0000 * c + 0x100_0000 * d ≡ w
joined a b c d w x y z p q r s = omega arith

low-only : (n : ℕ) → n < 256 → n % 256 ≡ n
low-only n h = omega arith

pub word_back : (w : ℕ) → w < 2 ^ 32
    → w % 256 + 256 * (w / 256 % 256) + 0x1_0000 * (w / 0x1_0000 % 256) + 0x100_0000 * (w / 0x100_0000 % 256) ≡ w
word_back w h =
    let x = w / 256 in
    let y = w / 0x1_0000 in
    let z = w / 0x100_0000 in
    let p : x / 256 ≡ y = div-div-eq-div-mul w 256 256 in
    let q : y / 256 ≡ z = div-div-eq-div-mul w 0x1_0000 256 in
    let s : z < 256 = omega arith in
    joined (w % 256) (x % 256) (y % 256) (z % 256) w x y z (low w) (rw p at (low x)) (rw q at (low y)) (low-only z s)

pub each_at : (n : ℕ) (l : List ℕ) → 0 < n → Each n l → (i : ℕ) → get_or l i 0 < n
each_at n [] h p i = h
each_at n (x ∷ l) h p zero = p.0
each_at n (x ∷ l) h p (suc i) = each_at n l h p.1 i

pub bytes_drop : (n : ℕ) (ws tail : List ℕ) → n ≤ length ws → drop (4 * n) (bytes_of ws ++ tail) ≡ bytes_of (drop n ws) ++ tail
unfolding bytes_of
bytes_drop zero ws tail h = refl
bytes_drop (suc n) [] tail h = absurd (omega arith)
bytes_drop (suc n) (w ∷ ws) tail h =
    let q : 4 * suc n ≡ suc (suc (suc (suc (4 * n)))) = omega arith in
    rw q (bytes_drop n ws tail (omega arith))

-- a word, read where a list starts
pub word-at : (r : List ℕ) (at : ℕ) → word_at r at ≡ word_at (drop at r) 0
unfolding word_at
word-at r at = rw (get_or-drop, get_or-drop, get_or-drop, get_or-drop, add-zero)

module _ (a b c d : ℕ) (ws tail : List ℕ) where
  body-drop : (n : ℕ) → n ≤ length ws → drop (4 + 4 * n) (a ∷ b ∷ c ∷ d ∷ (bytes_of ws ++ tail)) ≡ bytes_of (drop n ws) ++ tail
  body-drop n h = drop-append-add (a ∷ b ∷ c ∷ d ∷ []) (bytes_of ws ++ tail) (4 * n) ∙ bytes_drop n ws tail h

  word-is : (n : ℕ) → n < length ws → get_or ws n 0 < 2 ^ 32
      → word_at (a ∷ b ∷ c ∷ d ∷ (bytes_of ws ++ tail)) (4 + 4 * n) ≡ get_or ws n 0
  unfolding word_at bytes_of
  word-is n h k =
      word-at (a ∷ b ∷ c ∷ d ∷ (bytes_of ws ++ tail)) (4 + 4 * n)
      ∙ ap (λ (l : List ℕ). word_at l 0) (body-drop n (omega arith) ∙ ap (λ (l : List ℕ). bytes_of l ++ tail) (drop-cons ws n 0 h))
      ∙ word_back (get_or ws n 0) k

  pub words_back : (n : ℕ) → n ≤ length ws → Each (2 ^ 32) ws → record_words (a ∷ b ∷ c ∷ d ∷ (bytes_of ws ++ tail)) n ≡ take n ws
  unfolding record_words
  words_back zero h p = refl
  words_back (suc n) h p =
      rw (words_back n (omega arith) p, word-is n (omega arith) (each_at (2 ^ 32) ws (omega arith) p n))
      (sym (take-suc ws n 0 (omega arith)))

  pub tail-back : drop (4 + 4 * length ws) (a ∷ b ∷ c ∷ d ∷ (bytes_of ws ++ tail)) ≡ tail
  unfolding bytes_of
  tail-back = body-drop (length ws) (omega arith) ∙ rw drop-length refl

pub all-zeros : (n : ℕ) → all_zero (replicate n 0) ≡ true
unfolding all_zero
all-zeros zero = refl
all-zeros (suc n) = all-zeros n

module _ (size kind next : ℕ) (ws : List ℕ) where
  pub kind-back : kind < 0x1_0000 → kind_of (record_of size kind next ws) ≡ kind
  unfolding record_of half_at
  kind-back h = half_back kind h

  pub next-back : next < 0x1_0000 → next_of (record_of size kind next ws) ≡ next
  unfolding record_of half_at
  next-back h = half_back next h

  pub record-words : Each (2 ^ 32) ws → record_words (record_of size kind next ws) (length ws) ≡ ws
  unfolding record_of
  record-words p = words_back _ _ _ _ ws _ (length ws) (omega arith) p ∙ take-length ws

  record-tail : drop (4 + 4 * length ws) (record_of size kind next ws) ≡ replicate (size - (4 + 4 * length ws)) 0
  unfolding record_of
  record-tail = tail-back _ _ _ _ ws _

  pub record-fits : kind < 0x1_0000 → fits kind (length ws) (record_of size kind next ws) ≡ true
  unfolding fits
  record-fits h =
      rw (eq-eqb (kind_of (record_of size kind next ws)) kind (kind-back h)) (ap all_zero record-tail ∙ all-zeros (size - (4 + 4 * length ws)))
