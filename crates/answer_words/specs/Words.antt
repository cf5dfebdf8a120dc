-- Whether there is room for an answer in the words lent, and what an answer of one number leaves there.
use Rattle.std.specs.Prelude.{Bool, List, ℕ, ltb, length, set, Float, Result, Ok, Err}
use Rattle.std.specs.Float.{binary32}
use Rattle.std.specs.Float.Ieee.{to_bits}
use Rattle.refusal.specs.declared.Refusal.{Refusal}

-- has the list fewer words than its layout
abbrev pub short : List ℕ → ℕ → Bool
short w n = ltb (length w) n

-- the number in the first word; at a refusal every word as it was
abbrev pub number_left : Result ℕ Refusal → List ℕ → List ℕ
number_left (Ok n) out = set out 0 n
number_left (Err r) out = out

-- a float by its bits
abbrev pub float_left : Result Float Refusal → List ℕ → List ℕ
float_left (Ok x) out = set out 0 (to_bits binary32 x)
float_left (Err r) out = out
