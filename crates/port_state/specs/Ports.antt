-- What a call on words answers and leaves, and the points of a path as words.
use Rattle.std.specs.Prelude.{List, ℕ, zero, suc, ◌+◌, ◌*◌, replicate, set}
use Rattle.scalar.specs.Literals.{f0}
use Rattle.refusal.specs.Number.{number_of}
use Rattle.refusal.specs.declared.Refusal.{Refusal}
use Rattle.layers.specs.declared.LayerParams.{LayerParams}
use Rattle.port_state.specs.Words.{floats_of}

-- the number answered, 0 or the refusal's, and the words afterwards
pub record Ported : Type 0 where
  pub number : ℕ
  pub words : List ℕ

abbrev pub refused_with : Refusal → List ℕ → Ported
refused_with r w = record { number = number_of r; words = w }

-- point k: nine words, fi, yi, hi
unfoldable pub point_of : List ℕ → ℕ → LayerParams
point_of points k = record { fi = floats_of points (9 * k) 3; yi = floats_of points (9 * k + 3) 3; hi = floats_of points (9 * k + 6) 3 }

abbrev pub zero_point : LayerParams
zero_point = record { fi = replicate 3 f0; yi = replicate 3 f0; hi = replicate 3 f0 }

-- the first n of five rows, the rest zero
unfoldable pub five_rows_of : {T : Type 0} → (ℕ → T) → T → ℕ → List T
five_rows_of row z zero = replicate 5 z
five_rows_of row z (suc n) = set (five_rows_of row z n) n (row n)

-- the first n points
abbrev pub points_of : List ℕ → ℕ → List LayerParams
points_of points n = five_rows_of (point_of points) zero_point n
