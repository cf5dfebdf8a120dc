-- Records put one after the other, and what the writer answers and leaves.
use Prim.Native.Nat.{ℕ, zero, suc, ◌+◌, ◌*◌, ◌-◌, ◌≤◌, ◌<◌}
use mathlib.Core.Path.{◌≡◌, refl, ◌∙◌}
use mathlib.Core.List.{List, ◌++◌}
use native.Mathlib.Omega.{arith}
use native.Mathlib.Numerals.{add-one}
use native.Mathlib.Nat.{add-sub_cancel_left, mul-le-mul_left}
use lib.ListN.{length, take, drop, length-take, length-replicate, length-append}
use lib.Seq.{take_all}
use mathlib.Core.Bool.{Bool, true, false}
use lib.Dec.{eqb, leb}
use borrow.Author.Tests.{eq-eqb, ne_eqb, le-leb, lt-leb}
use Rattle.refusal.specs.declared.Refusal.{Refusal}
use Rattle.circuit.specs.declared.Circuit.{Circuit}
use Rattle.std.specs.Prelude.{Ok, Err}
use Rattle.records.specs.declared.Form.{Form}
use Rattle.records.specs.Record.{Fit, all_zero}
use Rattle.circuit.specs.Bytes.{bytes_of, record_of, head_of}
use Rattle.circuit.proofs.record_put.Cells.{fill_on, length-record}
use Rattle.circuit.specs.Written.{point_at, extra_at, twelve_at, next_in, entry_by, entry_of, entries_of, decile_records, records_of, file_of, good_of, write_answer_of, left_of}

took : (n : ℕ) (l : List ℕ) → length (take n l) ≤ n
took n l = simp length-take (omega arith)

module _ (o : Form) (fit : Fit o) (c : Circuit) (beside : List ℕ) (n : ℕ) where
  entry-by : (first point : Bool) (i : ℕ) → length (entry_by first point o c beside n i) ≡ o.size
  unfolding head_of bytes_of
  entry-by true point i = simp length-replicate (omega arith)
  entry-by false true i =
      let p = point_at c (i - 1) in
      let x = extra_at o beside (i - 1) in
      length-record o.size 2 (next_in n i) (p ++ x)
      (omega (arith, length-append p x, took 15 (drop (15 * (i - 1)) c.points), took o.extra (drop (o.extra * (i - 1)) beside)))
  entry-by false false i =
      length-record o.size 3 (next_in n i) (twelve_at c (i - (c.km + 1)))
      (omega (arith, took 12 (drop (12 * (i - (c.km + 1))) c.deciles)))

  pub length-entry : (i : ℕ) → length (entry_of o c beside n i) ≡ o.size
  unfolding entry_of
  length-entry i = entry-by (eqb i 0) (leb i c.km) i

  pub length-entries : (k : ℕ) → length (entries_of o c beside n k) ≡ o.size * k
  unfolding entries_of
  length-entries zero = omega arith
  length-entries (suc k) = simp (length-append, length-entries k, length-entry) (omega arith)

  -- one more record put
  pub entry_more : (i : ℕ) (l l₀ ys : List ℕ) → l ≡ entries_of o c beside n i ++ drop (o.size * i) l₀
      → ys ≡ entry_of o c beside n i
      → take (o.size * i) l ++ (ys ++ drop (o.size * i + o.size - o.size * i) (drop (o.size * i) l))
      ≡ entries_of o c beside n (i + 1) ++ drop (o.size * (i + 1)) l₀
  unfolding entries_of
  entry_more i l l₀ ys e y =
      let q : o.size * i + o.size ≡ o.size * (i + 1) = omega arith in
      fill_on l l₀ (entries_of o c beside n i) (o.size * i) e (length-entries i) ys o.size ∙ rw (y, q, add-one i) refl

  -- which record it is that is put
  module _ (i next : ℕ) (k : next ≡ next_in n i) where
    pub entry-head : i ≡ 0 → head_of o c next ≡ entry_of o c beside n i
    unfolding entry_of
    entry-head e = rw (k, eq-eqb i 0 e)

    pub entry-point : (i ≡ 0 → ⊥) → i ≤ c.km
        → record_of o.size 2 next
        (take (15 * (i - 1) + 15 - 15 * (i - 1)) (drop (15 * (i - 1)) c.points)
        ++ take (o.extra * (i - 1) + o.extra - o.extra * (i - 1)) (drop (o.extra * (i - 1)) beside))
        ≡ entry_of o c beside n i
    unfolding entry_of
    entry-point e h =
        rw (
          k,
          ne_eqb i 0 e,
          le-leb i c.km h,
          add-sub_cancel_left (15 * (i - 1)) 15,
          add-sub_cancel_left (o.extra * (i - 1)) o.extra,
        )

    pub entry-twelve : (i ≡ 0 → ⊥) → c.km < i
        → record_of o.size 3 next
        (take (12 * (i - (c.km + 1)) + 12 - 12 * (i - (c.km + 1))) (drop (12 * (i - (c.km + 1))) c.deciles))
        ≡ entry_of o c beside n i
    unfolding entry_of
    entry-twelve e h =
        rw (k, ne_eqb i 0 e, lt-leb i c.km h, add-sub_cancel_left (12 * (i - (c.km + 1))) 12)

-- part i of n parts of one length lies within them
pub part_within : (size n i : ℕ) → i < n → size * i + size ≤ size * n
part_within size n i h =
    let a : size * (i + 1) ≤ size * n = mul-le-mul_left size (omega arith) in
    omega arith

most-by : (b : Bool) (m : ℕ) → 1 + m + decile_records b ≤ m + 49
most-by true m = omega arith
most-by false m = omega arith

pub records_most : (c : Circuit) → records_of c ≤ c.km + 49
records_most c = most-by (all_zero c.deciles) c.km

-- a file has at most 64 records
pub size-most : (o : Form) (c : Circuit) → c.km ≤ 5 → o.size * records_of c ≤ 64 * o.size
size-most o c h =
    let a : o.size * records_of c ≤ o.size * 64 = mul-le-mul_left o.size (omega (arith, records_most c)) in
    omega arith

module _ (o : Form) (fit : Fit o) (c : Circuit) (beside : List ℕ) where
  pub length-file : length (file_of o c beside) ≡ o.size * records_of c
  unfolding file_of
  length-file = length-entries o fit c beside (records_of c) (records_of c)

  -- the answer and the cells left, by the tests
  module _ (out : List ℕ) where
    pub write-bad : good_of c ≡ false
        → (Err Refusal.RecordZero ≡ write_answer_of o c out) × (out ≡ left_of o c beside out)
    unfolding write_answer_of left_of
    write-bad e = (rw e, rw e)

    pub write-small : good_of c ≡ true → length out < o.size * records_of c
        → (Err Refusal.Length ≡ write_answer_of o c out) × (out ≡ left_of o c beside out)
    unfolding write_answer_of left_of
    write-small e h = let t = lt-leb (o.size * records_of c) (length out) h in (rw (e, t), rw (e, t))

    pub write-good : good_of c ≡ true → o.size * records_of c ≤ length out
        → (Ok (o.size * records_of c) ≡ write_answer_of o c out)
        × (file_of o c beside ++ drop (o.size * records_of c) out ≡ left_of o c beside out)
    unfolding write_answer_of left_of
    write-good e h =
        let t = le-leb (o.size * records_of c) (length out) h in
        let all = take_all (o.size * records_of c) (file_of o c beside) (omega (arith, length-file)) in
        (rw (e, t), rw (e, t, all))

pub good-is : (c : Circuit) → 1 ≤ c.km → c.km ≤ 5 → c.shape ≤ 1 → good_of c ≡ true
good-is c a b d = rw (le-leb 1 c.km a, le-leb c.km 5 b, le-leb c.shape 1 d)
