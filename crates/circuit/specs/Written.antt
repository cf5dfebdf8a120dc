-- The file that holds a circuit, and what the writer answers and leaves (the paper, "Circuit file").
use Rattle.std.specs.Prelude.{ℕ, zero, suc, ◌+◌, ◌*◌, ◌-◌, List, [], ◌++◌, Bool, true, false, ◌&&◌, length, take, drop, eqb, leb, Result, Ok, Err}
use Rattle.std.specs.Result.{result_unwrap_or}
use Rattle.refusal.specs.declared.Refusal.{Refusal}
use Rattle.circuit.specs.declared.Circuit.{Circuit}
use Rattle.records.specs.declared.Form.{Form}
use Rattle.records.specs.Record.{all_zero}
use Rattle.circuit.specs.Bytes.{record_of, head_of}

-- the point, the words that the form adds to it, and the twelve deciles of a place, counted from 0
abbrev pub point_at : Circuit → ℕ → List ℕ
point_at c i = take 15 (drop (15 * i) c.points)

abbrev pub extra_at : Form → List ℕ → ℕ → List ℕ
extra_at o beside i = take o.extra (drop (o.extra * i) beside)

abbrev pub twelve_at : Circuit → ℕ → List ℕ
twelve_at c i = take 12 (drop (12 * i) c.deciles)

-- the deciles are written unless all are +0
abbrev pub decile_records : Bool → ℕ
decile_records true = 0
decile_records false = 48

abbrev pub records_of : Circuit → ℕ
records_of c = 1 + c.km + decile_records (all_zero c.deciles)

-- records are numbered in chain order, and the last one's next index is zero
abbrev pub next_index_by : Bool → ℕ → ℕ
next_index_by true i = 0
next_index_by false i = i + 1

abbrev pub next_in : ℕ → ℕ → ℕ
next_in n i = next_index_by (eqb (i + 1) n) i

abbrev pub entry_by : Bool → Bool → Form → Circuit → List ℕ → ℕ → ℕ → List ℕ
entry_by true point o c beside n i = head_of o c (next_in n i)
entry_by false true o c beside n i =
    record_of o.size 2 (next_in n i) (point_at c (i - 1) ++ extra_at o beside (i - 1))
entry_by false false o c beside n i = record_of o.size 3 (next_in n i) (twelve_at c (i - (c.km + 1)))

-- record i of n; `beside` are the words that the form adds to the points, none of them in the paper's form
unfoldable pub entry_of : Form → Circuit → List ℕ → ℕ → ℕ → List ℕ
entry_of o c beside n i = entry_by (eqb i 0) (leb i c.km) o c beside n i

-- the first k records of n
unfoldable pub entries_of : Form → Circuit → List ℕ → ℕ → ℕ → List ℕ
entries_of o c beside n zero = []
entries_of o c beside n (suc k) = entries_of o c beside n k ++ entry_of o c beside n k

unfoldable pub file_of : Form → Circuit → List ℕ → List ℕ
file_of o c beside = entries_of o c beside (records_of c) (records_of c)

abbrev pub size_of : Form → Circuit → ℕ
size_of o c = o.size * records_of c

-- km and shape
abbrev pub good_of : Circuit → Bool
good_of c = leb 1 c.km && (leb c.km 5 && leb c.shape 1)

abbrev pub write_answer_by : Bool → Bool → ℕ → Result ℕ Refusal
write_answer_by false room n = Err Refusal.RecordZero
write_answer_by true false n = Err Refusal.Length
write_answer_by true true n = Ok n

-- km and shape first, then the room lent
unfoldable pub write_answer_of : Form → Circuit → List ℕ → Result ℕ Refusal
write_answer_of o c out = write_answer_by (good_of c) (leb (size_of o c) (length out)) (size_of o c)

-- the cells lent, afterwards: as many as were written hold the file, those past its end, and all of them at a refusal, are as
-- they were
unfoldable pub left_of : Form → Circuit → List ℕ → List ℕ → List ℕ
left_of o c beside out = let n = result_unwrap_or (write_answer_of o c out) 0 in take n (file_of o c beside) ++ drop n out
