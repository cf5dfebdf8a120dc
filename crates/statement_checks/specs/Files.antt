-- The ranges of the laws of files, texts and sheets at their ends.
use Rattle.std.specs.Prelude.{List, [], ◌≡◌, ℕ, ◌+◌, ◌*◌, ◌≤◌, length, take, Ok}
use Rattle.records.specs.Record.{form64, Fit}
use Rattle.circuit.specs.declared.Circuit.{Circuit}
use Rattle.circuit.specs.Read.{read_of}
use Rattle.circuit.specs.Written.{size_of, write_answer_of, left_of}
use Rattle.composing.specs.Draft.{composed_of}
use Rattle.first_difference.specs.Laws.{carriage_return}
use Rattle.marking.specs.Marked.{marked_of}

pub record FilesAsRead : Type 0 where
  -- every layout whose record has room for a point's words, its size and first kind numbers of two bytes, is fit
  pub every-fit : (size first extra : ℕ) → 64 + 4 * extra ≤ size → size ≤ 65535 → first ≤ 65535 → Fit (record { size = size; first = first; extra = extra })
  -- a text without a wrong line is written, and read back, where there is room for a file with record 0, five points and the deciles, and no more
  pub room : (text out : List ℕ) (c : Circuit) → composed_of text ≡ Ok c → length out ≡ 64 * (1 + 5 + 48)
      → (write_answer_of form64 c out ≡ Ok (size_of form64 c))
      × (read_of form64 (take (size_of form64 c) (left_of form64 c [] out)) ≡ Ok c)
  -- a marking is decided by the size, the 64 records of the longest file, and one byte over the longest sheet
  pub decided : (input : List ℕ) → marked_of (take (4 + 64 * 64 + 49153) input) ≡ marked_of input
  -- ASCII's CR
  pub return : carriage_return ≡ 0x0d
