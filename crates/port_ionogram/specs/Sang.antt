-- `sang` on words: refused with 1 where no word is lent for the count; a refused call leaves every word.
use Rattle.std.specs.Prelude.{Bool, true, false, Result, List, ℕ}
use Rattle.std.specs.Float.{binary32}
use Rattle.std.specs.Float.Ieee.{of_bits}
use Rattle.refusal.specs.declared.Refusal.{Refusal}
use Rattle.port_state.specs.Ports.{Ported, refused_with}
use Rattle.refusal.specs.Number.{answer_number}
use Rattle.answer_words.specs.Words.{short, number_left}
use Rattle.reflectrix.specs.Angles.{sang_of}

abbrev pub unless_short : Bool → List ℕ → Ported → Ported
unless_short true w a = refused_with Refusal.Length w
unless_short false w a = a

abbrev pub scan_into : Result ℕ Refusal → List ℕ → Ported
scan_into a out = record { number = answer_number a; words = number_left a out }

unfoldable pub sang_words : ℕ → ℕ → List ℕ → Ported
sang_words gcdkm amind out = unless_short (short out 1) out (scan_into (sang_of (of_bits binary32 gcdkm) (of_bits binary32 amind)) out)
