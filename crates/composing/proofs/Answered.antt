-- A circuit that a text says is one that the writer takes, and its file has room; so has the line of what is wrong.
use mathlib.Core.Path.{◌≡◌, refl}
use mathlib.Core.Bool.{Bool, true, false}
use mathlib.Core.List.{List, [], ◌∷◌}
use Prim.Native.Nat.{ℕ}
use native.Mathlib.Omega.{arith}
use lib.Dec.{leb}
use lib.ListN.{replicate}
use Rattle.std.specs.Prelude.{Ok}
use Rattle.lines.proofs.Sizes.{AtMost, ◌then◌, word, line-feed, decimal}
use Rattle.records.specs.Record.{form64}
use Rattle.records.proofs.Lists.{fit64}
use Rattle.circuit.specs.declared.Circuit.{Circuit}
use Rattle.circuit.specs.Written.{size_of, good_of, write_answer_by, write_answer_of, file_of}
use Rattle.circuit_turn.proofs.Files.{file-most}
use Rattle.composing.specs.declared.compose_line.faults.Fault.{Fault}
use Rattle.composing.specs.declared.compose_line.faults.Wrong.{Wrong}
use Rattle.composing.specs.Draft.{composed_of}
use Rattle.composing.proofs.compose_laws.Written.{text-written}
use Rattle.composing.specs.FaultText.{fault_words, line_word, wrong_text}

pub good_said : (text : List ℕ) (c : Circuit) → composed_of text ≡ Ok c → good_of c ≡ true
unfolding write_answer_of
good_said text c e =
    by (good_of c) (leb (size_of form64 c) 3456) (text-written text (replicate 3456 0) c e (omega arith))
  where
    by : (g m : Bool) → write_answer_by g m (size_of form64 c) ≡ Ok (size_of form64 c) → g ≡ true
    by true m h = refl
    by false m h = let z : ◌≡◌ {A = ℕ} 0 1 = cc in absurd (omega arith)

pub file-room : (text : List ℕ) (c : Circuit) → composed_of text ≡ Ok c → AtMost (file_of form64 c []) 3456
file-room text c e = record { most = file-most form64 fit64 c (good_said text c e) [] }

words-most : (f : Fault) → AtMost (fault_words f) 26
unfolding fault_words
words-most f = record { most = grind arith }

pub wrong-room : (w : Wrong) → AtMost (wrong_text w) 54
unfolding wrong_text
wrong-room w = word line_word then decimal w.line then word (58 ∷ 32 ∷ []) then words-most w.fault then line-feed
