-- The numbers of a circuit's words: the points' layers, Es and places, the path; and its shape in a state.
use Rattle.std.specs.Prelude.{Bool, true, false, List, [], ◌∷◌, ◌++◌, map, ℕ, zero, suc, ◌+◌, ◌/◌, ◌%◌, eqb, ℤ, pos, negsuc, Float}
use Rattle.std.specs.Float.{binary32}
use Rattle.std.specs.Float.Ieee.{of_bits}
use Rattle.circuit.specs.Point.{point_number}
use Rattle.circuit.specs.declared.Circuit.{Circuit}
use Rattle.layers.specs.State.{with_iedp}
use Rattle.layers.specs.declared.IonoState.{IonoState}
use Rattle.layers.specs.declared.LayerParams.{LayerParams}
use Rattle.layer_mufs.specs.declared.PathNumbers as path

-- three numbers of point i, from word j on
unfoldable pub three_at : List ℕ → ℕ → ℕ → List Float
three_at words i j = point_number words i j ∷ point_number words i (j + 1) ∷ point_number words i (j + 2) ∷ []

-- the layers of point i
unfoldable pub layers_at : List ℕ → ℕ → LayerParams
layers_at words i = record { fi = three_at words i 0; yi = three_at words i 3; hi = three_at words i 6 }

unfoldable pub params_of : List ℕ → List LayerParams
params_of words = map (layers_at words) (0 ∷ 1 ∷ 2 ∷ 3 ∷ 4 ∷ [])

-- the first n of the points' Es numbers: of each point its words 9 to 12, Es fs and hs
unfoldable pub es_up_to : List ℕ → ℕ → List Float
es_up_to words zero = []
es_up_to words (suc n) = es_up_to words n ++ (point_number words (n / 4) (9 + n % 4) ∷ [])

unfoldable pub es_of : List ℕ → List Float
es_of words = es_up_to words 20

-- of each point clat (word 13) or clck (word 14)
unfoldable pub column_of : List ℕ → ℕ → List Float
column_of words j = map (λ i. point_number words i j) (0 ∷ 1 ∷ 2 ∷ 3 ∷ 4 ∷ [])

-- shape 0: `iedp` -1; 1: `iedp` 0
abbrev pub iedp_by : Bool → ℤ
iedp_by true = negsuc 0
iedp_by false = pos 0

unfoldable pub shaped_of : IonoState → ℕ → IonoState
shaped_of s shape = with_iedp s (iedp_by (eqb shape 0))

unfoldable pub path_of : Circuit → path.PathNumbers
path_of c =
    record { gcd = of_bits binary32 c.gcd; gcdkm = of_bits binary32 c.gcdkm; amind = of_bits binary32 c.amind; ssn = of_bits binary32 c.ssn }
