-- The words read along a chain, record by record.
use Prim.Native.Nat.{ℕ, zero, suc, ◌+◌, ◌*◌, ◌-◌, ◌≤◌, ◌<◌}
use mathlib.Core.Path.{◌≡◌, refl, ap, ◌∙◌}
use mathlib.Core.List.{List, ◌++◌}
use native.Mathlib.Omega.{arith}
use native.Mathlib.Nat.{le_refl, mul-le-mul_left, sub-zero, zero-add}
use native.Mathlib.Numerals.{add-one}
use lib.ListN.{length, get_or, take, drop, length-append, length-drop, replicate}
use lib.Seq.{length-take-le}
use Rattle.std.proofs.lemmas.List.{get_or-take, get_or-drop}
use Rattle.records.specs.declared.Form.{Form}
use Rattle.records.specs.Chain.{padded}
use Rattle.records.proofs.Lists.{length-after}
use Rattle.records.proofs.record_chain.Members.{length-padded, placed}
use Rattle.circuit.specs.Read.{numbers_of}
use Rattle.records.specs.Record.{record_words, record_at}

module _ (o : Form) (f order : List ℕ) (from skip words : ℕ) where
  pub length-numbers : (n : ℕ) → length (numbers_of o f order from skip words n) ≡ words * n
  unfolding numbers_of
  length-numbers zero = omega arith
  length-numbers (suc n) = simp (length-append, length-numbers n, length-after) (omega arith)

  pub length-read : (N n : ℕ) → words * n ≤ N → length (padded N (numbers_of o f order from skip words n)) ≡ N
  length-read N n h = length-padded N (numbers_of o f order from skip words n) (rw length-numbers h)

  -- before the first record all are zeros
  pub none-read : (N : ℕ) → replicate N 0 ≡ padded N (numbers_of o f order from skip words 0)
  unfolding numbers_of
  none-read N = rw sub-zero

-- one more record's words, left in their part of the array
pub read-on : (o : Form) (f order : List ℕ) (skip words N i : ℕ) (xs ys : List ℕ) → xs ≡ padded N (numbers_of o f order 0 skip words i)
    → ys ≡ drop skip (record_words (record_at o f (get_or order i 0)) (skip + words))
    → words * i + words ≤ N
    → take (words * i) xs ++ (ys ++ drop (words * i + words - words * i) (drop (words * i) xs))
    ≡ padded N (numbers_of o f order 0 skip words (i + 1))
unfolding numbers_of
read-on o f order skip words N i xs ys e z h =
    placed N words (words * i) xs (numbers_of o f order 0 skip words i) ys e (length-numbers o f order 0 skip words i)
    (ap length z ∙ length-after (record_at o f (get_or order i 0)) skip words) h
    ∙ rw (add-one, zero-add i, z) refl

-- there is room for the words of one more record, where there is room for those of all
pub room-on : (N words i n : ℕ) → words * n ≤ N → i < n → words * i + words ≤ N
room-on N words i n h l = let k : words * (i + 1) ≤ words * n = mul-le-mul_left words (omega arith) in omega (arith, k, h)

-- the same of a part of the list, which begins at `from`
pub numbers-cut : (o : Form) (f order : List ℕ) (from k skip words n : ℕ) → n ≤ k
    → numbers_of o f (take k (drop from order)) 0 skip words n ≡ numbers_of o f order from skip words n
unfolding numbers_of
numbers-cut o f order from k skip words zero h = refl
numbers-cut o f order from k skip words (suc n) h =
    let e : get_or (take k (drop from order)) (0 + n) 0 ≡ get_or order (from + n) 0
    = ap (λ (i : ℕ). get_or (take k (drop from order)) i 0) (zero-add n) ∙ get_or-take k (drop from order) n 0 (omega arith) ∙ get_or-drop from order n 0 in
    rw (e, numbers-cut o f order from k skip words n (omega arith))

length-cut : (order : List ℕ) (from k : ℕ) → from + k ≤ length order → length (take k (drop from order)) ≡ k
length-cut order from k h = length-take-le k (drop from order) (simp length-drop (omega arith))

pub numbers-part : (o : Form) (f order : List ℕ) (from k n skip words : ℕ) → k ≡ n → from + k ≤ length order
    → numbers_of o f (take k (drop from order)) 0 skip words (length (take k (drop from order))) ≡ numbers_of o f order from skip words n
numbers-part o f order from k n skip words e h =
    rw (length-cut order from k h, ← e) (numbers-cut o f order from k skip words k (le_refl k))

-- and each record of the part is in the file, where each of the list is
pub part-there : (o : Form) (f order : List ℕ) (from k most : ℕ) → ((i : ℕ) → o.size * get_or order i 0 + o.size ≤ length f)
    → k ≤ most → from + k ≤ length order
    → (length (take k (drop from order)) ≤ most)
    × ((i : ℕ) → i < length (take k (drop from order)) → o.size * get_or (take k (drop from order)) i 0 + o.size ≤ length f)
part-there o f order from k most t m h =
    let e = length-cut order from k h in
    (omega (arith, e), λ i l. rw (get_or-take k (drop from order) i 0 (omega (arith, e)), get_or-drop from order i 0) (t (from + i)))
