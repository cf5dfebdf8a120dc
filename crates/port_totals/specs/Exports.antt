-- What each export answers, and the words that it leaves. Room for no word is refused with 1, before all else.
use Rattle.std.specs.Prelude.{cond, List, ℕ, ltb, length}
use Rattle.refusal.specs.Number.{answer_number}
use Rattle.answer_words.specs.Words.{number_left}
use Rattle.totals.specs.Total.{total_of}

pub record Ported : Type 0 where
  pub number : ℕ
  pub words : List ℕ

unfoldable pub total_left : List ℕ → List ℕ → Ported
total_left prices out =
    cond (ltb (length out) 1) (record { number = 1; words = out })
    (record { number = answer_number (total_of prices); words = number_left (total_of prices) out })
