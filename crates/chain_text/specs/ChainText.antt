-- What `chain` prints: record, kind and next index for each step of the chain, then `end` and the count; of a refused file only the refusal.
use Rattle.std.specs.Prelude.{List, [], ◌∷◌, ◌++◌, ℕ, get_or, Result, Ok, Err}
use Rattle.refusal.specs.declared.Refusal.{Refusal}
use Rattle.lines.specs.Text.{space, line_feed, decimal_of, field_of, refused_text, joined}
use Rattle.records.specs.declared.record_chain.Chain.{Chain}
use Rattle.records.specs.Record.{form64, record_at, kind_of, next_of}
use Rattle.records.specs.Chain.{chain_of}

-- record n, whose bytes are r
unfoldable pub step_line : List ℕ → ℕ → List ℕ
step_line r n = decimal_of n ++ (field_of (kind_of r) ++ (field_of (next_of r) ++ (line_feed ∷ [])))

-- step i of the chain
abbrev pub step_line_at : List ℕ → List ℕ → ℕ → List ℕ
step_line_at f order i = step_line (record_at form64 f (get_or order i 0)) (get_or order i 0)

-- `end ` in ASCII
abbrev pub end_word : List ℕ
end_word = 101 ∷ 110 ∷ 100 ∷ space ∷ []

unfoldable pub end_line : ℕ → List ℕ
end_line count = end_word ++ (decimal_of count ++ (line_feed ∷ []))

unfoldable pub followed_text : List ℕ → Chain → List ℕ
followed_text f c = joined (step_line_at f c.order) c.count ++ end_line c.count

abbrev pub chain_text_by : Result Chain Refusal → List ℕ → List ℕ
chain_text_by (Ok c) f = followed_text f c
chain_text_by (Err r) f = refused_text r

unfoldable pub chain_text : List ℕ → List ℕ
chain_text f = chain_text_by (chain_of form64 f) f
