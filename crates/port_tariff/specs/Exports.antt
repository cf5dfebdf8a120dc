-- What the export answers, and the words that it leaves. Room for no word is refused with 1, before all else.
use Rattle.std.specs.Prelude.{cond, List, ℕ, ltb, length}
use Rattle.std.specs.Float.{binary32}
use Rattle.std.specs.Float.Ieee.{of_bits}
use Rattle.refusal.specs.Number.{answer_number}
use Rattle.answer_words.specs.Words.{number_left}
use Rattle.tariff.specs.Price.{price_of}

pub record Ported : Type 0 where
  pub number : ℕ
  pub words : List ℕ

unfoldable pub price_left : ℕ → List ℕ → List ℕ → ℕ → List ℕ → Ported
price_left muf tops rates seconds out =
    let a = price_of (of_bits binary32 muf) tops rates seconds in
    cond (ltb (length out) 1) (record { number = 1; words = out }) (record { number = answer_number a; words = number_left a out })
