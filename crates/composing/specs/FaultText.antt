-- What is wrong with a text that says a circuit: the number of its line, and what is wrong.
use Rattle.std.specs.Prelude.{ℕ, List, [], ◌∷◌, ◌++◌}
use Rattle.lines.specs.Text.{decimal_of, line_feed}
use Rattle.lines.specs.Ascii.{ascii}
use Rattle.composing.specs.declared.compose_line.faults.Fault.{Fault}
use Rattle.composing.specs.declared.compose_line.faults.Wrong.{Wrong}

-- what is wrong, in words
unfoldable pub fault_words : Fault → List ℕ
fault_words Fault.UnknownLine = ascii "not path, point or deciles"
fault_words Fault.UnknownField = ascii "unknown field"
fault_words Fault.FieldTwice = ascii "a field twice"
fault_words Fault.NotANumber = ascii "not a number"
fault_words Fault.NumberMissing = ascii "a number is missing"
fault_words Fault.FieldMissing = ascii "a field is missing"
fault_words Fault.SecondPath = ascii "a second path"
fault_words Fault.BadShape = ascii "shape is not 0 or 1"
fault_words Fault.NoPathYet = ascii "no path before it"
fault_words Fault.PointTooLate = ascii "a point after deciles"
fault_words Fault.TooManyPoints = ascii "too many points"
fault_words Fault.NoPointYet = ascii "no point before it"
fault_words Fault.TooManyDeciles = ascii "too many deciles"
fault_words Fault.NoPath = ascii "no path"
fault_words Fault.NoPoint = ascii "no point"
fault_words Fault.TooFewDeciles = ascii "not 48 lines of deciles"

-- `line `
abbrev pub line_word : List ℕ
line_word = 108 ∷ 105 ∷ 110 ∷ 101 ∷ 32 ∷ []

-- `line N: ` and what is wrong
unfoldable pub wrong_text : Wrong → List ℕ
wrong_text w = line_word ++ (decimal_of w.line ++ (58 ∷ 32 ∷ [] ++ (fault_words w.fault ++ (line_feed ∷ []))))
