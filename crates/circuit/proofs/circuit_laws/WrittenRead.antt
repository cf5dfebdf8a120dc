-- A file in the writer's form that is read and written again has its own bytes: its chain is 0, 1, 2, .., so record i holds
-- what the writer puts there, and is put together again from the numbers read.
use Prim.Native.Nat.{ℕ, zero, suc, ◌+◌, ◌*◌, ◌-◌, ◌≤◌, ◌<◌}
use mathlib.Core.Path.{◌≡◌, refl, ap, ◌∙◌, sym, subst}
use mathlib.Core.List.{List, [], ◌++◌, append_assoc, append-nil}
use mathlib.Core.Bool.{Bool, true, false, true≢false}
use mathlib.Core.Logic.{⊎_elim}
use native.Mathlib.Omega.{arith}
use native.Mathlib.Nat.{eq-or-lt_of_le, mul-zero}
use lib.ListN.{length, get_or, take, drop, length-drop, take-append-drop}
use lib.Seq.{take_at, drop_at, take_all, take-add, length-take-le, get_or-take}
use lib.Dec.{eqb, leb}
use borrow.Author.Tests.{eq-eqb, ne_eqb, eqb-true, eqb-false, le-leb, lt-leb, leb-true, leb-false}
use Rattle.std.specs.Prelude.{Result, Ok, Err, IsOk}
use Rattle.refusal.specs.declared.Refusal.{Refusal}
use Rattle.records.specs.declared.record_chain.Chain.{Chain}
use Rattle.circuit.specs.declared.Circuit.{Circuit}
use Rattle.records.specs.declared.Form.{Form}
use Rattle.records.specs.Record.{Fit, record_at, kind_of, next_of, record_words, all_zero, fits}
use Rattle.records.specs.Chain.{record_count, km_of, sound_by, padded, chain_of}
use Rattle.circuit.specs.Read.{numbers_of, circuit_of, read_by, read_of, circuit_in, beside_of}
use Rattle.std.proofs.lemmas.Bool.{and_parts}
use Rattle.records.proofs.Lists.{length-after}
use Rattle.circuit.proofs.Lists.{length-numbers}
use Rattle.records.proofs.record_chain.Followed.{Followed, followed, count-range}
use Rattle.circuit.proofs.Answers.{read-answered}
use Rattle.circuit.specs.Bytes.{record_of, head_of}
use Rattle.circuit.specs.Written.{point_at, extra_at, twelve_at, records_of, next_in, entry_of, entries_of, file_of, good_of, write_answer_of, left_of}
use Rattle.circuit.proofs.circuit_write.Cells.{part_within, write-good, good-is}
use Rattle.circuit.specs.Forms.{Each, InForm, indices_below}
use Rattle.circuit.specs.Laws.{EveryForm, WrittenRead}
use Rattle.circuit.proofs.circuit_laws.Back.{all-zeros}
use Rattle.circuit.proofs.circuit_laws.ReadWritten.{each_take, each-drop, words-took, length_up, up_at}
use Rattle.circuit.proofs.circuit_laws.Linked.{Ended, Ends, linked}
use Rattle.circuit.proofs.circuit_laws.Again.{record-again, head-again}

answered-by : (a : Result Chain Refusal) (g : Chain → Circuit) → IsOk (read_by a g) → (k : Chain) × (a ≡ Ok k)
answered-by (Ok k) g e = (k, refl)
answered-by (Err r) g e = absurd (true≢false (sym e))

-- a circuit is read along a chain that was followed
pub chain-answered : (o : Form) (f : List ℕ) → IsOk (read_of o f) → (k : Chain) × (chain_of o f ≡ Ok k)
unfolding read_of
chain-answered o f a = answered-by (chain_of o f) (circuit_of o f) a

-- the words of record i of those read
numbers-at : (o : Form) (f order tail : List ℕ) (from skip words n i : ℕ) → i < n
    → take words (drop (words * i) (numbers_of o f order from skip words n ++ tail))
    ≡ drop skip (record_words (record_at o f (get_or order (from + i) 0)) (skip + words))
unfolding numbers_of
numbers-at o f order tail from skip words zero i h = absurd (omega arith)
numbers-at o f order tail from skip words (suc n) i h =
    let A = numbers_of o f order from skip words n in
    let B = drop skip (record_words (record_at o f (get_or order (from + n) 0)) (skip + words)) in
    ap (λ (l : List ℕ). take words (drop (words * i) l)) (append_assoc A B tail)
    ∙ ⊎_elim
    (λ (e : i ≡ n).
    ap (λ (j : ℕ). take words (drop (words * j) (A ++ (B ++ tail)))) e
    ∙ ap (take words) (drop_at A (B ++ tail) (words * n) (length-numbers o f order from skip words n))
    ∙ take_at B tail words (length-after _ skip words)
    ∙ ap (λ (j : ℕ). drop skip (record_words (record_at o f (get_or order (from + j) 0)) (skip + words))) (sym e))
    (λ (k : i < n). numbers-at o f order (B ++ tail) from skip words n i k) (eq-or-lt_of_le {n = i} {m = n} (omega arith))

fits_both : (kind words : ℕ) (r : List ℕ) → fits kind words r ≡ true
    → (kind_of r ≡ kind) × (all_zero (drop (4 + 4 * words) r) ≡ true)
unfolding fits
fits_both kind words r e =
    let t = and_parts (eqb (kind_of r) kind) (all_zero (drop (4 + 4 * words) r)) e in (eqb-true (kind_of r) kind t.0, t.1)

module _ (o : Form) (fit : Fit o) (f : List ℕ) (w : InForm o f) (k : Chain) (e₀ : chain_of o f ≡ Ok k) where
  abbrev c : Circuit
  c = circuit_of o f k

  abbrev N : ℕ
  N = record_count o f

  abbrev km : ℕ
  km = km_of (record_at o f 0)

  read_is : circuit_in (read_of o f) ≡ c
  read_is = ap circuit_in (read-answered o f k e₀)

  order-is : take k.count k.order ≡ indices_below N
  order-is = rw e₀ at w.order

  t : Followed o f k
  t = followed o fit f k e₀

  length-is : length f ≡ o.size * N
  length-is = t.whole

  km-most : km ≤ 5
  km-most = t.head.most

  count-is : k.count ≡ N
  count-is =
      let r = count-range o f k t in
      sym (length-take-le k.count k.order (omega (arith, r.1, t.long.room, km-most)))
      ∙ ap length order-is ∙ length_up N

  order-at : (j : ℕ) → j < N → get_or k.order j 0 ≡ j
  order-at j h =
      sym (get_or-take k.count k.order j 0 (omega (arith, count-is)))
      ∙ ap (λ (l : List ℕ). get_or l j 0) (order-is ∙ sym (append-nil (indices_below N)))
      ∙ up_at N j [] h

  ends : Ended o f (km + 49) k
  ends = subst (Ends o f (km + 49)) t.is (linked o f (km + 49) (km + 48) 0 (omega arith))

  N-least : 1 + km ≤ N
  N-least = omega (arith, (count-range o f k t).0, count-is)

  N-most : N ≤ km + 49
  N-most = omega (arith, (count-range o f k t).1, count-is)

  km-is : c.km ≡ km
  unfolding circuit_of
  km-is = refl

  points-are : c.points ≡ padded 75 (numbers_of o f k.order 1 0 15 km)
  unfolding circuit_of
  points-are = refl

  deciles-are : c.deciles ≡ padded 576 (numbers_of o f k.order (1 + km) 0 12 (k.count - (1 + km)))
  unfolding circuit_of
  deciles-are = refl

  deciles-met : c.km + 1 < N → all_zero c.deciles ≡ false
  deciles-met =
      subst (λ (x : Circuit). x.km + 1 < record_count o f → all_zero x.deciles ≡ false) read_is w.deciles

  no-deciles : k.count - (1 + km) ≡ 0 → all_zero c.deciles ≡ true
  unfolding numbers_of
  no-deciles e =
      ap all_zero
      (deciles-are ∙ ap (λ (n : ℕ). padded 576 (numbers_of o f k.order (1 + km) 0 12 n)) e)
      ∙ all-zeros 576

  -- as many records are written as the file has
  records-are : records_of c ≡ N
  records-are =
      ⊎_elim
      (λ (e : k.count ≡ km + 49).
      rw (deciles-met (omega (arith, e, count-is, km-is)), km-is) (omega (arith, e, count-is)))
      (λ (e : k.count + 48 ≡ km + 49).
      rw (no-deciles (omega (arith, e)), km-is) (omega (arith, e, count-is))) t.long.count

  point-is : (i : ℕ) → i < km → point_at c i ≡ record_words (record_at o f (1 + i)) 15
  point-is i h =
      ap (λ (l : List ℕ). take 15 (drop (15 * i) l)) points-are
      ∙ numbers-at o f k.order _ 1 0 15 km i h
      ∙ ap (λ (j : ℕ). record_words (record_at o f j) 15) (order-at (1 + i) (omega (arith, N-least)))

  beside-is : beside_of o f ≡ padded (5 * o.extra) (numbers_of o f k.order 1 15 o.extra km)
  unfolding beside_of
  beside-is = rw e₀

  extra-is : (i : ℕ) → i < km → extra_at o (beside_of o f) i ≡ drop 15 (record_words (record_at o f (1 + i)) (15 + o.extra))
  extra-is i h =
      ap (λ (l : List ℕ). take o.extra (drop (o.extra * i) l)) beside-is
      ∙ numbers-at o f k.order _ 1 15 o.extra km i h
      ∙ ap (λ (j : ℕ). drop 15 (record_words (record_at o f j) (15 + o.extra))) (order-at (1 + i) (omega (arith, N-least)))

  -- a point and the words that the form adds to it are all the words of its record
  all-is : (i : ℕ) → i < km
      → point_at c i ++ extra_at o (beside_of o f) i ≡ record_words (record_at o f (1 + i)) (15 + o.extra)
  all-is i h =
      let r = record_at o f (1 + i) in
      rw (point-is i h, extra-is i h, ← words-took r 15 o.extra) (take-append-drop 15 (record_words r (15 + o.extra)))

  twelve-is : (i : ℕ) → 1 + km + i < N → twelve_at c i ≡ record_words (record_at o f (1 + km + i)) 12
  twelve-is i h =
      ap (λ (l : List ℕ). take 12 (drop (12 * i) l)) deciles-are
      ∙ numbers-at o f k.order _ (1 + km) 0 12 (k.count - (1 + km)) i (omega (arith, count-is))
      ∙ ap (λ (j : ℕ). record_words (record_at o f j) 12) (order-at (1 + km + i) h)

  next-is : (i : ℕ) → i < N → next_of (record_at o f i) ≡ next_in N i
  next-is i h =
      ⊎_elim
      (λ (e : i + 1 ≡ N).
      let q : k.count - 1 ≡ i = omega (arith, count-is) in
      rw (eq-eqb (i + 1) N e)
      (ap (λ (j : ℕ). next_of (record_at o f j)) (sym (ap (λ (j : ℕ). get_or k.order j 0) q ∙ order-at i h))
      ∙ ends.last))
      (λ (j : i + 1 < N).
      rw (ne_eqb (i + 1) N (λ z. omega arith))
      (ap (λ (m : ℕ). next_of (record_at o f m)) (sym (order-at i h))
      ∙ (ends.links i (omega (arith, count-is))).next
      ∙ order-at (i + 1) j))
      (eq-or-lt_of_le {n = i + 1} {m = N} (omega arith))

  sound-is : (j : ℕ) → 1 ≤ j → j < N → sound_by o (leb 48 (km + 48 - j)) (record_at o f j) ≡ true
  sound-is j a h =
      let q : j - 1 + 1 ≡ j = omega arith in
      let d : km + 49 - 1 - (j - 1 + 1) ≡ km + 48 - j = omega arith in
      let g : get_or k.order (j - 1 + 1) 0 ≡ j = ap (λ (m : ℕ). get_or k.order m 0) q ∙ order-at j h in
      ap (λ (m : ℕ). sound_by o (leb 48 m) (record_at o f j)) (sym d)
      ∙ ap (λ (m : ℕ). sound_by o (leb 48 (km + 49 - 1 - (j - 1 + 1))) (record_at o f m)) (sym g)
      ∙ (ends.links (j - 1) (omega (arith, count-is))).sound

  record-long : (i : ℕ) → i < N → length (record_at o f i) ≡ o.size
  record-long i h =
      length-take-le o.size (drop (o.size * i) f)
      (simp length-drop (omega (arith, length-is, part_within o.size N i h)))

  record-bytes : (i : ℕ) → Each 256 (record_at o f i)
  record-bytes i = each_take 256 o.size (drop (o.size * i) f) (each-drop 256 (o.size * i) f w.bytes)

  -- a record of so many words, put together again
  again : (i kind words : ℕ) → i < N → 4 + 4 * words ≤ o.size → fits kind words (record_at o f i) ≡ true
      → record_of o.size kind (next_in N i) (record_words (record_at o f i) words) ≡ record_at o f i
  again i kind words h m e =
      let r = record_at o f i in
      let p = fits_both kind words r e in
      let z = record-long i h in
      ap (λ (x : ℕ). record_of o.size x (next_in N i) (record_words r words)) (sym p.0)
      ∙ ap (λ (x : ℕ). record_of o.size (kind_of r) x (record_words r words)) (sym (next-is i h))
      ∙ ap (λ (x : ℕ). record_of x (kind_of r) (next_of r) (record_words r words)) (sym z)
      ∙ record-again r (record-bytes i) words (omega (arith, z)) p.1

  head-is : head_of o c (next_in N 0) ≡ record_at o f 0
  unfolding circuit_of
  head-is =
      let h : 0 < N = omega (arith, N-least) in
      ap (head_of o c) (sym (next-is 0 h))
      ∙ head-again (record_at o f 0) (record-bytes 0) o (record-long 0 h) fit t.head c refl refl refl

  point-again : (i : ℕ) → 1 ≤ i → i ≤ km
      → record_of o.size 2 (next_in N i) (point_at c (i - 1) ++ extra_at o (beside_of o f) (i - 1)) ≡ record_at o f i
  point-again i a h =
      let q : 1 + (i - 1) ≡ i = omega arith in
      let m : i < N = omega (arith, N-least) in
      ap (record_of o.size 2 (next_in N i))
      (all-is (i - 1) (omega arith) ∙ ap (λ (j : ℕ). record_words (record_at o f j) (15 + o.extra)) q)
      ∙ again i 2 (15 + o.extra) m (omega arith) (rw (le-leb 48 (km + 48 - i) (omega arith)) at (sound-is i a m))

  twelve-again : (i : ℕ) → km < i → i < N → record_of o.size 3 (next_in N i) (twelve_at c (i - (km + 1))) ≡ record_at o f i
  twelve-again i a h =
      let q : 1 + km + (i - (km + 1)) ≡ i = omega arith in
      ap (record_of o.size 3 (next_in N i))
      (twelve-is (i - (km + 1)) (omega arith) ∙ ap (λ (j : ℕ). record_words (record_at o f j) 12) q)
      ∙ again i 3 12 h (omega arith) (rw (lt-leb 48 (km + 48 - i) (omega arith)) at (sound-is i (omega arith) h))

  entry-by : (i : ℕ) → i < N → (a b : Bool) → eqb i 0 ≡ a → leb i c.km ≡ b → entry_of o c (beside_of o f) N i ≡ record_at o f i
  unfolding entry_of
  entry-by i h true b p q =
      let e = eqb-true i 0 p in
      rw p (ap (λ (j : ℕ). head_of o c (next_in N j)) e ∙ head-is ∙ ap (record_at o f) (sym e))
  entry-by i h false true p q =
      let some = eqb-false i 0 p in
      rw (p, q) (point-again i (omega arith) (rw km-is at (leb-true i c.km q)))
  entry-by i h false false p q = rw (p, q, km-is) (twelve-again i (rw km-is at (leb-false i c.km q)) h)

  entries-are : (n : ℕ) → n ≤ N → entries_of o c (beside_of o f) N n ≡ take (o.size * n) f
  unfolding entries_of
  entries-are zero h = rw mul-zero
  entries-are (suc n) h =
      let q : o.size * suc n ≡ o.size * n + o.size = omega arith in
      rw (entries-are n (omega arith), entry-by n (omega arith) (eqb n 0) (leb n c.km) refl refl, q)
      (sym (take-add (o.size * n) o.size f))

  file-is : file_of o c (beside_of o f) ≡ f
  unfolding file_of
  file-is = rw records-are (entries-are N (omega arith) ∙ take_all (o.size * N) f (omega (arith, length-is)))

  file-again : file_of o (circuit_in (read_of o f)) (beside_of o f) ≡ f
  file-again = ap (λ (x : Circuit). file_of o x (beside_of o f)) read_is ∙ file-is

  good : good_of c ≡ true
  unfolding circuit_of
  good = good-is c t.head.some km-most t.head.form

  -- and the writer says so of any cells that have the room
  module _ (out : List ℕ) (room : length f ≤ length out) where
    size_is : o.size * records_of c ≡ length f
    size_is = ap (λ (n : ℕ). o.size * n) records-are ∙ sym length-is

    wrote : (Ok (o.size * records_of c) ≡ write_answer_of o c out)
        × (file_of o c (beside_of o f) ++ drop (o.size * records_of c) out ≡ left_of o c (beside_of o f) out)
    wrote = write-good o fit c (beside_of o f) out good (rw size_is room)

    answer-again : write_answer_of o (circuit_in (read_of o f)) out ≡ Ok (length f)
    answer-again =
        ap (λ (x : Circuit). write_answer_of o x out) read_is ∙ sym wrote.0 ∙ ap Ok size_is

    bytes-again : take (length f) (left_of o (circuit_in (read_of o f)) (beside_of o f) out) ≡ f
    bytes-again =
        ap (λ (x : Circuit). take (length f) (left_of o x (beside_of o f) out)) read_is
        ∙ ap (take (length f)) (sym wrote.1)
        ∙ take_at (file_of o c (beside_of o f)) (drop (o.size * records_of c) out) (length f) (ap length file-is)
        ∙ file-is

pub written_read : EveryForm WrittenRead
written_read o fit f w =
    let g = chain-answered o f w.read in
    record {
      file = file-again o fit f w g.0 g.1;
      answer = answer-again o fit f w g.0 g.1;
      bytes = bytes-again o fit f w g.0 g.1;
    }
