-- What a line of a circuit's text says: its kind and its numbers, or what is wrong. What stands from a `#` on is not looked at. The first word is the
-- line's kind; then names of fields, in any order, each followed by its numbers; a line of deciles has twelve numbers and no names.
use Rattle.std.specs.Prelude.{ℕ, ◌+◌, ◌-◌, false, cond, List, [], ◌∷◌, eqb, ltb, get_or, set, replicate, Option, Some, None, Result, Ok, Err}
use Rattle.std.specs.List.{list_any}
use Rattle.composing.specs.Words.{up_to, words_of}
use Rattle.composing.specs.Decimal.{decimal_read}
use Rattle.composing.specs.declared.compose_line.Row.{Row}
use Rattle.composing.specs.declared.compose_line.names.LineKind.{LineKind}
use Rattle.composing.specs.declared.compose_line.faults.Fault.{Fault}
use Rattle.composing.specs.Names.{line_kind_of, field_place_of, width_of, wanted_of, at_once}

-- an answer to go on from, where nothing is wrong
abbrev pub then : {A B E : Type 0} → (A → Result B E) → Result A E → Result B E
then f (Ok a) = f a
then f (Err e) = Err e

-- no word yet
abbrev pub blank_row : Option Row
blank_row = None

-- the first word says which kind of line it is
unfoldable pub begun : LineKind → Row
begun k = record { kind = k; values = replicate 15 0; missing = wanted_of k; at = 0; left = at_once k }

-- a name: the next numbers, so many, go to the places from p on
unfoldable pub named : Row → ℕ → ℕ → Row
named r p n = record { kind = r.kind; values = r.values; missing = r.missing; at = p; left = n }

-- a number: it goes to its place, which is then no longer missing; there are fifteen places
unfoldable pub stored : Row → ℕ → Row
stored r v =
    cond (ltb r.at 15)
    (record {
      kind = r.kind;
      values = set r.values r.at v;
      missing = set r.missing r.at false;
      at = r.at + 1;
      left = r.left - 1;
    }) r

abbrev pub first_word : Option LineKind → Result Row Fault
first_word (Some k) = Ok (begun k)
first_word None = Err Fault.UnknownLine

-- a field whose number is no longer missing was there before
unfoldable pub field_word : Row → Option ℕ → Result Row Fault
field_word r None = Err Fault.UnknownField
field_word r (Some p) = cond (get_or r.missing p false) (Ok (named r p (width_of r.kind p))) (Err Fault.FieldTwice)

abbrev pub number_by : Option ℕ → Row → Result Row Fault
number_by (Some b) r = Ok (stored r b)
number_by None r = Err Fault.NotANumber

-- one word more
unfoldable pub with_word : Option Row → List ℕ → Result Row Fault
with_word None w = first_word (line_kind_of w)
with_word (Some r) w = cond (eqb r.left 0) (field_word r (field_place_of r.kind w)) (number_by (decimal_read w) r)

-- after something wrong nothing counts
unfoldable pub with_words : Option Row → List (List ℕ) → Result (Option Row) Fault
with_words r [] = Ok r
with_words r (w ∷ ws) = then (λ s. with_words (Some s) ws) (with_word r w)

-- at the end of the line no number is awaited, and none is missing
unfoldable pub ended_row : Option Row → Result (Option Row) Fault
ended_row None = Ok None
ended_row (Some r) =
    cond (eqb r.left 0) (cond (list_any (λ m. m) r.missing) (Err Fault.FieldMissing) (Ok (Some r))) (Err Fault.NumberMissing)

-- 35 is `#`; no row is a line without a word
unfoldable pub row_of : List ℕ → Result (Option Row) Fault
row_of line = then ended_row (with_words blank_row (words_of (up_to 35 line)))
