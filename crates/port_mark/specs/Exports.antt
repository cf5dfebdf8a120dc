-- What the export answers, and the words that it leaves. Room for no word is refused with 1, before all else.
use Rattle.std.specs.Prelude.{cond, List, ℕ, ltb, length}
use Rattle.refusal.specs.Number.{answer_number}
use Rattle.port_mark.specs.Words.{marking_into}
use Rattle.marking.specs.Marked.{marked_of}

pub record Ported : Type 0 where
  pub number : ℕ
  pub words : List ℕ

unfoldable pub mark_left : List ℕ → List ℕ → Ported
mark_left input out =
    cond (ltb (length out) 1) (record { number = 1; words = out })
    (record { number = answer_number (marked_of input); words = marking_into (marked_of input) out })
