-- A circuit that is written is the one read back: record i of the file is entry i, its next index is i + 1 and the last
-- one's is zero, so the chain is 0, 1, 2, .., and each record gives its words back. No entry holds a word past the km points.
use Prim.Native.Nat.{ℕ, zero, suc, ◌+◌, ◌*◌, ◌-◌, ◌%◌, ◌^◌, ◌≤◌, ◌<◌}
use mathlib.Core.Path.{◌≡◌, refl, ap, ◌∙◌, sym}
use mathlib.Core.List.{List, [], ◌∷◌, ◌++◌, append_assoc, append-nil}
use mathlib.Core.Bool.{Bool, true, false, ◌&&◌, ◌||◌, or-false, or_assoc}
use mathlib.Core.Logic.{⊎_elim}
use native.Mathlib.Omega.{arith}
use native.Mathlib.Numerals.{add-one}
use native.Mathlib.Nat.{eq-or-lt_of_le, add-suc, add-zero, mul-zero, mul-le-mul_left, mul-div_right, mul-mod_right}
use lib.ListN.{length, get_or, take, drop, replicate, length-append, length-drop, take-append-drop}
use lib.Seq.{drop-append-le, take-append-le, drop_at, take_at, take_all, get_or_at, take-add, length-take-le}
use lib.Dec.{eqb, leb}
use borrow.Author.Tests.{eq-eqb, ne_eqb, le-leb, lt-leb, lt-ltb, leb-true, leb-false}
use Rattle.std.specs.Prelude.{Some, None, Ok}
use Rattle.circuit.specs.declared.Circuit.{Circuit}
use Rattle.records.specs.declared.Form.{Form}
use Rattle.records.specs.Record.{Fit, record_at, half_at, word_at, next_of, record_words, all_zero}
use Rattle.records.specs.Chain.{head_good, record_count, km_of, shape_of, member, step_of, sound_by, chain_along, answered_chain, padded, walk, chain_of}
use Rattle.circuit.specs.Read.{numbers_of, circuit_of, read_of, beside_of}
use Rattle.std.proofs.lemmas.Bool.{and_parts}
use Rattle.records.proofs.Lists.{zeros, length-words}
use Rattle.records.proofs.record_chain.Steps.{walk_end, walk-on}
use Rattle.circuit.proofs.Answers.{read-answered}
use Rattle.circuit.specs.Bytes.{bytes_of, head_of, record_of}
use Rattle.circuit.specs.Written.{good_of, write_answer_by, write_answer_of, left_of, point_at, extra_at, twelve_at, decile_records, records_of, next_index_by, next_in, entry_by, entry_of, entries_of, file_of}
use Rattle.circuit.proofs.circuit_write.Cells.{part_within, length-entry, length-entries, length-file, records_most, size-most, write-good}
use Rattle.circuit.specs.Forms.{Each, Whole, Beside, held_circuit, held_beside, indices_below}
use Rattle.circuit.specs.Laws.{EveryForm, ReadWritten, ReadSame, WrittenLength}
use Rattle.circuit.proofs.circuit_laws.Back.{half_back, word_back, next-back, all-zeros, record-words, record-fits}

pub each_take : (n k : ℕ) (l : List ℕ) → Each n l → Each n (take k l)
each_take n zero l p = tt
each_take n (suc k) [] p = tt
each_take n (suc k) (x ∷ l) p = (p.0, each_take n k l p.1)

pub each-drop : (n k : ℕ) (l : List ℕ) → Each n l → Each n (drop k l)
each-drop n zero l p = p
each-drop n (suc k) [] p = tt
each-drop n (suc k) (x ∷ l) p = each-drop n k l p.1

pub each_append : (n : ℕ) (l m : List ℕ) → Each n l → Each n m → Each n (l ++ m)
each_append n [] m p q = q
each_append n (x ∷ l) m p q = (p.0, each_append n l m p.1 q)

-- the first words of more words
pub words-took : (r : List ℕ) (n k : ℕ) → take n (record_words r (n + k)) ≡ record_words r n
unfolding record_words
words-took r n zero = rw add-zero (take_all n (record_words r n) (omega (arith, length-words r n)))
words-took r n (suc k) =
    rw add-suc
    (take-append-le n (record_words r (n + k)) (word_at r (4 + 4 * (n + k)) ∷ []) (omega (arith, length-words r (n + k)))
    ∙ words-took r n k)

pub length_up : (n : ℕ) → length (indices_below n) ≡ n
unfolding indices_below
length_up zero = refl
length_up (suc n) = simp (length-append, length_up n, add-one)

-- what stands at place j of 0, 1, 2, ..
pub up_at : (n j : ℕ) (tail : List ℕ) → j < n → get_or (indices_below n ++ tail) j 0 ≡ j
unfolding indices_below
up_at zero j tail h = absurd (omega arith)
up_at (suc n) j tail h =
    rw append_assoc
    (⊎_elim
    (λ e. ap (λ (i : ℕ). get_or (indices_below n ++ (n ∷ tail)) i 0) e ∙ get_or_at (indices_below n) n tail 0 n (length_up n) ∙ sym e)
    (λ k. up_at n j (n ∷ tail) k) (eq-or-lt_of_le {n = j} {m = n} (omega arith)))

member-append : (n m : ℕ) (l : List ℕ) → member n (l ++ (m ∷ [])) ≡ member n l || eqb n m
unfolding member
member-append n m [] = or-false (eqb n m)
member-append n m (x ∷ l) = rw (member-append n m l) (sym (or_assoc (eqb n x) (member n l) (eqb n m)))

-- a number that is not below k is not among 0, .., k - 1
fresh : (k n : ℕ) → k ≤ n → member n (indices_below k) ≡ false
unfolding indices_below member
fresh zero n h = refl
fresh (suc k) n h = rw (member-append n k (indices_below k), fresh k n (omega arith), ne_eqb n k (λ e. omega arith))

one_more : (i : ℕ) → indices_below (i + 1) ++ ((i + 1) ∷ []) ≡ indices_below (i + 1 + 1)
unfolding indices_below
one_more i = rw (add-one (i + 1)) refl

-- record i of the entries
entry_in : (o : Form) (fit : Fit o) (c : Circuit) (beside : List ℕ) (n k i : ℕ) → i < k
    → record_at o (entries_of o c beside n k) i ≡ entry_of o c beside n i
unfolding entries_of
entry_in o fit c beside n zero i h = absurd (omega arith)
entry_in o fit c beside n (suc k) i h =
    let A = entries_of o c beside n k in
    let B = entry_of o c beside n k in
    let len = length-entries o fit c beside n k in
    ⊎_elim
    (λ (e : i ≡ k).
    ap (record_at o (A ++ B)) e
    ∙ ap (take o.size) (drop_at A B (o.size * k) len)
    ∙ take_all o.size B (omega (arith, length-entry o fit c beside n k))
    ∙ ap (entry_of o c beside n) (sym e))
    (λ (j : i < k).
    let room = part_within o.size k i j in
    let q : o.size ≤ length (drop (o.size * i) A) = simp length-drop (omega (arith, len, room)) in
    ap (take o.size) (drop-append-le (o.size * i) A B (omega (arith, len, room)))
    ∙ take-append-le o.size (drop (o.size * i) A) B q
    ∙ entry_in o fit c beside n k i j)
    (eq-or-lt_of_le {n = i} {m = k} (omega arith))

next_small : (b : Bool) (i : ℕ) → i < 60 → next_index_by b i < 0x1_0000
next_small true i h = omega arith
next_small false i h = omega arith

-- the next index of an entry
module _ (o : Form) (c : Circuit) (beside : List ℕ) (n i : ℕ) (h : i < 60) where
  entry_next : (first point : Bool) → next_of (entry_by first point o c beside n i) ≡ next_in n i
  unfolding head_of half_at
  entry_next true point = half_back (next_in n i) (next_small (eqb (i + 1) n) i h)
  entry_next false true =
      next-back o.size 2 (next_in n i) (point_at c (i - 1) ++ extra_at o beside (i - 1)) (next_small (eqb (i + 1) n) i h)
  entry_next false false =
      next-back o.size 3 (next_in n i) (twelve_at c (i - (c.km + 1))) (next_small (eqb (i + 1) n) i h)

  next-is : next_of (entry_of o c beside n i) ≡ next_in n i
  unfolding entry_of
  next-is = entry_next (eqb i 0) (leb i c.km)

least_by : (b : Bool) (m : ℕ) → 1 + m ≤ 1 + m + decile_records b
least_by true m = omega arith
least_by false m = omega arith

module _ (o : Form) (fit : Fit o) (c : Circuit) (beside : List ℕ) (w : Whole c) (x : Beside o beside) (some : 1 ≤ c.km)
    (most : c.km ≤ 5) (form : c.shape ≤ 1)
  where
    abbrev N : ℕ
    N = records_of c

    abbrev file : List ℕ
    file = file_of o c beside

    N-least : 1 + c.km ≤ N
    N-least = least_by (all_zero c.deciles) c.km

    N-most : N ≤ c.km + 49
    N-most = records_most c

    at-file : (i : ℕ) → i < N → record_at o file i ≡ entry_of o c beside N i
    unfolding file_of
    at-file i h = entry_in o fit c beside N N i h

    head_at : record_at o file 0 ≡ head_of o c (next_in N 0)
    unfolding entry_of
    head_at = at-file 0 (omega (arith, N-least))

    -- the words of a point, those that the form adds with them
    abbrev all_at : ℕ → List ℕ
    all_at i = point_at c i ++ extra_at o beside i

    point_at_lem : (i : ℕ) → i < c.km → record_at o file (i + 1) ≡ record_of o.size 2 (next_in N (i + 1)) (all_at i)
    unfolding entry_of
    point_at_lem i h =
        let q : i + 1 - 1 ≡ i = omega arith in
        at-file (i + 1) (omega (arith, N-least))
        ∙ rw (ne_eqb (i + 1) 0 (λ e. omega arith), le-leb (i + 1) c.km (omega arith), q) refl

    twelve-at : (i : ℕ) → 1 + c.km + i < N
        → record_at o file (1 + c.km + i) ≡ record_of o.size 3 (next_in N (1 + c.km + i)) (twelve_at c i)
    unfolding entry_of
    twelve-at i h =
        let q : 1 + c.km + i - (c.km + 1) ≡ i = omega arith in
        at-file (1 + c.km + i) h
        ∙ rw (ne_eqb (1 + c.km + i) 0 (λ e. omega arith), lt-leb (1 + c.km + i) c.km (omega arith), q) refl

    point-long : (i : ℕ) → i < c.km → length (point_at c i) ≡ 15
    point-long i h = length-take-le 15 (drop (15 * i) c.points) (simp length-drop (omega (arith, w.five)))

    extra-long : (i : ℕ) → i < c.km → length (extra_at o beside i) ≡ o.extra
    extra-long i h =
        length-take-le o.extra (drop (o.extra * i) beside)
        (simp length-drop (omega (arith, x.five, part_within o.extra 5 i (omega arith))))

    all-long : (i : ℕ) → i < c.km → length (all_at i) ≡ 15 + o.extra
    all-long i h = omega (arith, length-append (point_at c i) (extra_at o beside i), point-long i h, extra-long i h)

    -- the file has N records
    pub count-file : record_count o file ≡ N
    count-file = rw (length-file o fit c beside) (mul-div_right N (omega arith))

    twelve-long : (i : ℕ) → i < 48 → length (twelve_at c i) ≡ 12
    twelve-long i h = length-take-le 12 (drop (12 * i) c.deciles) (simp length-drop (omega (arith, w.all)))

    step-file : (i : ℕ) → i + 1 < N → step_of o file (indices_below (i + 1)) i ≡ Ok (Some (i + 1))
    unfolding step_of
    step-file i h =
        let e : next_of (record_at o file i) ≡ i + 1
        = ap next_of (at-file i (omega arith)) ∙ next-is o c beside N i (omega (arith, N-most)) ∙ rw (ne_eqb (i + 1) N (λ z. omega arith)) refl in
        rw (
          e,
          ne_eqb (i + 1) 0 (λ z. omega arith),
          lt-ltb (i + 1) (record_count o file) (rw count-file h),
          fresh (i + 1) (i + 1) (omega arith),
        )

    end-file : (i : ℕ) → i + 1 ≡ N → step_of o file (indices_below (i + 1)) i ≡ Ok None
    unfolding step_of
    end-file i h =
        let e : next_of (record_at o file i) ≡ 0
        = ap next_of (at-file i (omega arith)) ∙ next-is o c beside N i (omega (arith, N-most)) ∙ rw (eq-eqb (i + 1) N h) refl in
        rw e

    sound-point : (i : ℕ) → i < c.km → sound_by o (leb 48 (c.km + 48 - (i + 1))) (record_at o file (i + 1)) ≡ true
    sound-point i h =
        rw (le-leb 48 (c.km + 48 - (i + 1)) (omega arith), point_at_lem i h)
        (rw (all-long i h) at (record-fits o.size 2 (next_in N (i + 1)) (all_at i) (omega arith)))

    sound-twelve : (i : ℕ) → 1 + c.km + i < N
        → sound_by o (leb 48 (c.km + 48 - (1 + c.km + i))) (record_at o file (1 + c.km + i)) ≡ true
    sound-twelve i h =
        rw (lt-leb 48 (c.km + 48 - (1 + c.km + i)) (omega arith), twelve-at i h)
        (rw (twelve-long i (omega (arith, N-most))) at (record-fits o.size 3 (next_in N (1 + c.km + i)) (twelve_at c i) (omega arith)))

    sound-by : (j : ℕ) → 1 ≤ j → j < N → (b : Bool) → leb j c.km ≡ b
        → sound_by o (leb 48 (c.km + 48 - j)) (record_at o file j) ≡ true
    sound-by j a h true e =
        let k = leb-true j c.km e in
        let q : j ≡ j - 1 + 1 = omega arith in
        ap (λ (x : ℕ). sound_by o (leb 48 (c.km + 48 - x)) (record_at o file x)) q ∙ sound-point (j - 1) (omega arith)
    sound-by j a h false e =
        let k = leb-false j c.km e in
        let q : j ≡ 1 + c.km + (j - (1 + c.km)) = omega arith in
        ap (λ (x : ℕ). sound_by o (leb 48 (c.km + 48 - x)) (record_at o file x)) q
        ∙ sound-twelve (j - (1 + c.km)) (omega arith)

    ended_by : (b : Bool) (l : ℕ) → l + decile_records b ≡ 48 → (eqb l 48 || eqb l 0) ≡ true
    ended_by true l h = rw (eq-eqb l 48 (omega arith))
    ended_by false l h = rw (ne_eqb l 48 (λ z. omega arith), eq-eqb l 0 (omega arith))

    -- k more records follow record i
    walk-file : (k i : ℕ) → i + 1 + k ≡ N
        → walk o file (c.km + 48 - i) (indices_below (i + 1)) i ≡ answered_chain (indices_below N)
    walk-file zero i h =
        let e : i + 1 ≡ N = omega arith in
        walk_end o file (indices_below (i + 1)) i (c.km + 48 - i) (end-file i e)
        ∙ rw (ended_by (all_zero c.deciles) (c.km + 48 - i) (omega (arith, N-most))) (ap (λ (n : ℕ). answered_chain (indices_below n)) e)
    walk-file (suc k) i h =
        let q : c.km + 48 - i - 1 ≡ c.km + 48 - (i + 1) = omega arith in
        walk-on o file (indices_below (i + 1)) i (i + 1) (c.km + 48 - i) (step-file i (omega arith)) (λ z. omega (arith, N-most))
        (rw q (sound-by (i + 1) (omega arith) (omega arith) (leb (i + 1) c.km) refl))
        ∙ rw (q, one_more i) (walk-file k (i + 1) (omega arith))

    head-good : head_good o (head_of o c (next_in N 0)) ≡ true
    unfolding head_good head_of half_at bytes_of all_zero
    head-good =
        rw (
          eq-eqb _ o.first (half_back o.first (omega arith)),
          le-leb 1 c.km some,
          le-leb c.km 5 most,
          le-leb c.shape 1 form,
          all-zeros (o.size - 24),
        )

    head-km : km_of (record_at o file 0) ≡ c.km
    unfolding head_of
    head-km = ap km_of head_at

    pub chain-file : chain_of o file ≡ answered_chain (indices_below N)
    unfolding chain_of indices_below
    chain-file =
        let q : c.km + 48 ≡ c.km + 48 - 0 = omega arith in
        let two : o.size * 2 ≤ o.size * N = mul-le-mul_left o.size (omega (arith, N-least)) in
        rw (
          eq-eqb (length file % o.size) 0 (rw (length-file o fit c beside) (mul-mod_right o.size N)),
          le-leb (2 * o.size) (length file) (omega (arith, length-file o fit c beside, two)),
          le-leb (length file) (64 * o.size) (omega (arith, length-file o fit c beside, size-most o c most)),
          ap (head_good o) head_at ∙ head-good,
          head-km,
          q,
        )
        (walk-file (N - 1) 0 (omega (arith, N-least)))

    abbrev order : List ℕ
    order = padded 64 (indices_below N)

    order-at : (j : ℕ) → j < N → get_or order j 0 ≡ j
    order-at j h = up_at N j (replicate (64 - length (indices_below N)) 0) h

    all_words : (i : ℕ) → i < c.km → record_words (record_at o file (i + 1)) (15 + o.extra) ≡ all_at i
    all_words i h =
        let p = each_take (2 ^ 32) 15 (drop (15 * i) c.points) (each-drop (2 ^ 32) (15 * i) c.points w.points) in
        let q = each_take (2 ^ 32) o.extra (drop (o.extra * i) beside) (each-drop (2 ^ 32) (o.extra * i) beside x.words) in
        rw (point_at_lem i h)
        (rw (all-long i h) at
        (record-words o.size 2 (next_in N (i + 1)) (all_at i) (each_append (2 ^ 32) (point_at c i) (extra_at o beside i) p q)))

    point-words : (i : ℕ) → i < c.km → record_words (record_at o file (i + 1)) 15 ≡ point_at c i
    point-words i h =
        sym (words-took (record_at o file (i + 1)) 15 o.extra)
        ∙ ap (take 15) (all_words i h)
        ∙ take_at (point_at c i) (extra_at o beside i) 15 (point-long i h)

    extra-words : (i : ℕ) → i < c.km → drop 15 (record_words (record_at o file (i + 1)) (15 + o.extra)) ≡ extra_at o beside i
    extra-words i h = ap (drop 15) (all_words i h) ∙ drop_at (point_at c i) (extra_at o beside i) 15 (point-long i h)

    twelve-words : (i : ℕ) → 1 + c.km + i < N → record_words (record_at o file (1 + c.km + i)) 12 ≡ twelve_at c i
    twelve-words i h =
        rw (twelve-at i h)
        (rw (twelve-long i (omega (arith, N-most))) at (record-words o.size 3 (next_in N (1 + c.km + i)) (twelve_at c i) (each_take (2 ^ 32) 12 (drop (12 * i) c.deciles) (each-drop (2 ^ 32) (12 * i) c.deciles w.deciles))))

    points-back : (n : ℕ) → n ≤ c.km → numbers_of o file order 1 0 15 n ≡ take (15 * n) c.points
    unfolding numbers_of
    points-back zero h = refl
    points-back (suc n) h =
        let g : get_or order (1 + n) 0 ≡ n + 1 = order-at (1 + n) (omega (arith, N-least)) ∙ omega arith in
        let q : 15 * suc n ≡ 15 * n + 15 = omega arith in
        rw (points-back n (omega arith), g, point-words n (omega arith), q) (sym (take-add (15 * n) 15 c.points))

    extras-back : (n : ℕ) → n ≤ c.km → numbers_of o file order 1 15 o.extra n ≡ take (o.extra * n) beside
    unfolding numbers_of
    extras-back zero h = rw mul-zero
    extras-back (suc n) h =
        let g : get_or order (1 + n) 0 ≡ n + 1 = order-at (1 + n) (omega (arith, N-least)) ∙ omega arith in
        let q : o.extra * suc n ≡ o.extra * n + o.extra = omega arith in
        rw (extras-back n (omega arith), g, extra-words n (omega arith), q) (sym (take-add (o.extra * n) o.extra beside))

    deciles-back : (n : ℕ) → 1 + c.km + n ≤ N → numbers_of o file order (1 + c.km) 0 12 n ≡ take (12 * n) c.deciles
    unfolding numbers_of
    deciles-back zero h = refl
    deciles-back (suc n) h =
        let q : 12 * suc n ≡ 12 * n + 12 = omega arith in
        rw (deciles-back n (omega arith), order-at (1 + c.km + n) (omega arith), twelve-words n (omega arith), q)
        (sym (take-add (12 * n) 12 c.deciles))

    points-file : padded 75 (numbers_of o file order 1 0 15 c.km) ≡ padded 75 (take (15 * c.km) c.points)
    points-file = ap (padded 75) (points-back c.km (omega arith))

    deciles-file : (b : Bool) → all_zero c.deciles ≡ b
        → padded 576 (numbers_of o file order (1 + c.km) 0 12 (N - (1 + c.km))) ≡ c.deciles
    deciles-file true e =
        let q : N - (1 + c.km) ≡ 0 = rw e (omega arith) in
        rw (q, deciles-back 0 (omega (arith, N-least))) (sym (zeros c.deciles e ∙ ap (λ (n : ℕ). replicate n 0) w.all))
    deciles-file false e =
        let q : N - (1 + c.km) ≡ 48 = rw e (omega arith) in
        let m : 1 + c.km + 48 ≤ N = rw e (omega arith) in
        let t : take 576 c.deciles ≡ c.deciles = take_all 576 c.deciles (omega (arith, w.all)) in
        rw (q, deciles-back 48 m, t, w.all) (append-nil c.deciles)

    head-words : (word_at (record_at o file 0) 8 ≡ c.gcd) × (word_at (record_at o file 0) 12 ≡ c.gcdkm)
        × (word_at (record_at o file 0) 16 ≡ c.amind) × (word_at (record_at o file 0) 20 ≡ c.ssn)
    unfolding head_of word_at bytes_of
    head-words =
        rw head_at
        (word_back c.gcd w.gcd, word_back c.gcdkm w.gcdkm, word_back c.amind w.amind, word_back c.ssn w.ssn)

    head-shape : shape_of (record_at o file 0) ≡ c.shape
    unfolding head_of
    head-shape = ap shape_of head_at

    deciles-counted : padded 576 (numbers_of o file order (1 + c.km) 0 12 (length (indices_below N) - (1 + c.km))) ≡ c.deciles
    deciles-counted =
        ap (λ (n : ℕ). padded 576 (numbers_of o file order (1 + c.km) 0 12 (n - (1 + c.km)))) (length_up N)
        ∙ deciles-file (all_zero c.deciles) refl

    circuit-file : circuit_of o file (chain_along (indices_below N)) ≡ held_circuit c
    unfolding circuit_of held_circuit
    circuit-file =
        rw (
          head-km,
          head-shape,
          head-words.0,
          head-words.1,
          head-words.2,
          head-words.3,
          points-file,
          deciles-counted,
        )

    pub read-file : read_of o file ≡ Ok (held_circuit c)
    read-file = read-answered o file (chain_along (indices_below N)) chain-file ∙ ap Ok circuit-file

    pub beside-file : beside_of o file ≡ held_beside o c beside
    unfolding beside_of held_beside
    beside-file = rw (chain-file, head-km, extras-back c.km (omega arith))

written-by : (g r : Bool) (m n : ℕ) → write_answer_by g r m ≡ Ok n → (g ≡ true) × (r ≡ true) × (m ≡ n)
written-by true true m n e = (refl, refl, cc)
written-by true false m n e = absurd (let z : ◌≡◌ {A = ℕ} 0 1 = cc in omega arith)
written-by false r m n e = absurd (let z : ◌≡◌ {A = ℕ} 0 1 = cc in omega arith)

module _ (o : Form) (fit : Fit o) (c : Circuit) (out : List ℕ) (n : ℕ) (e : write_answer_of o c out ≡ Ok n) where
  taken : (good_of c ≡ true) × (leb (o.size * records_of c) (length out) ≡ true) × (o.size * records_of c ≡ n)
  unfolding write_answer_of
  taken = written-by (good_of c) (leb (o.size * records_of c) (length out)) (o.size * records_of c) n e

  -- km and shape, as the writer tested them
  pub in-range : (1 ≤ c.km) × (c.km ≤ 5) × (c.shape ≤ 1)
  in-range =
      let g = and_parts (leb 1 c.km) (leb c.km 5 && leb c.shape 1) taken.0 in
      let h = and_parts (leb c.km 5) (leb c.shape 1) g.1 in
      (leb-true _ _ g.0, leb-true _ _ h.0, leb-true _ _ h.1)

  pub written-file : (beside : List ℕ) → take n (left_of o c beside out) ≡ file_of o c beside
  written-file beside =
      ap (take n) (sym (write-good o fit c beside out taken.0 (leb-true _ _ taken.1)).1)
      ∙ take_at (file_of o c beside) (drop (o.size * records_of c) out) n (length-file o fit c beside ∙ taken.2)

  held_same : Whole c → drop (15 * c.km) c.points ≡ replicate (75 - 15 * c.km) 0 → held_circuit c ≡ c
  unfolding held_circuit
  held_same w z =
      let l : length (take (15 * c.km) c.points) ≡ 15 * c.km
      = length-take-le (15 * c.km) c.points (omega (arith, w.five, in-range.1)) in
      let p : padded 75 (take (15 * c.km) c.points) ≡ c.points = rw (l, ← z) (take-append-drop (15 * c.km) c.points) in
      rw p refl

  beside_same : (beside : List ℕ) → Beside o beside
      → drop (o.extra * c.km) beside ≡ replicate (5 * o.extra - o.extra * c.km) 0 → held_beside o c beside ≡ beside
  unfolding held_beside
  beside_same beside x z =
      let m : o.extra * c.km ≤ o.extra * 5 = mul-le-mul_left o.extra in-range.1 in
      let l : length (take (o.extra * c.km) beside) ≡ o.extra * c.km
      = length-take-le (o.extra * c.km) beside (omega (arith, x.five, m)) in
      rw (l, ← z) (take-append-drop (o.extra * c.km) beside)

pub written-length : EveryForm WrittenLength
written-length o fit c out n e = sym (taken o fit c out n e).2

pub read-written : EveryForm ReadWritten
read-written o fit c beside out n w x e =
    let t = in-range o fit c out n e in
    rw (written-file o fit c out n e beside)
    (record {
      answer = read-file o fit c beside w x t.0 t.1 t.2;
      words = beside-file o fit c beside w x t.0 t.1 t.2;
    })

pub read_same : EveryForm ReadSame
read_same o fit c beside out n w x e z y =
    let r = read-written o fit c beside out n w x e in
    record {
      answer =
          r.answer
          ∙ ap Ok (held_same o fit c out n e w z);
      words = r.words ∙ beside_same o fit c out n e beside x y;
    }
