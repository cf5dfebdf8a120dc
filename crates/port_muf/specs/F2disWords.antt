-- `f2dis` on words, the deciles as they are lent. Too few words are refused with 1, before all else; a refusal writes nothing.
use Rattle.refusal.specs.Number.{answer_number}
use Rattle.refusal.specs.declared.Refusal.{Refusal}
use Rattle.std.specs.Prelude.{Bool, true, false, List, ℕ, ltb, length, Float, Result}
use Rattle.port_state.specs.Ports.{Ported, refused_with}
use Rattle.answer_words.specs.Words.{float_left}
use Rattle.deciles.specs.F2dis.{f2dis_of}
use Rattle.port_state.specs.Words.{number}

-- too few numbers, no room for the answer
abbrev pub f2dis_by : Bool → Bool → List ℕ → Result Float Refusal → Ported
f2dis_by true b out d = refused_with Refusal.Length out
f2dis_by false true out d = refused_with Refusal.Length out
f2dis_by false false out d = record { number = answer_number d; words = float_left d out }

-- not 576 deciles: 10, by `f2dis_of`
unfoldable pub f2dis_left : List Float → List ℕ → List ℕ → Ported
f2dis_left deciles numbers out =
    f2dis_by (ltb (length numbers) 5) (ltb (length out) 1) out
    (f2dis_of deciles (number numbers 0) (number numbers 1) (number numbers 2) (number numbers 3) (number numbers 4))
