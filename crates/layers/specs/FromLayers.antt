-- `from_layers`: the state that the points' layers make. The paper's refusal: 5 where the point count is not 1 to 5.
use Rattle.std.specs.Prelude.{Bool, true, false, List, ℕ, zero, suc, negsuc, get_or, Result, Ok, Err}
use Rattle.refusal.specs.declared.Refusal.{Refusal}
use Rattle.layers.specs.State.{no_layers, zero_state, with_tables, with_km, with_iedp}
use Rattle.layers.specs.declared.IonoState.{IonoState}
use Rattle.layers.specs.declared.LayerParams.{LayerParams}
unfoldable pub use Rattle.layers.specs.Rules.{count_taken, row_set}

unfoldable pub point_set : IonoState → ℕ → LayerParams → IonoState
point_set s k p = with_tables s (row_set s.fi k p.fi) (row_set s.yi k p.yi) (row_set s.hi k p.hi)

-- the first n points, in their order
unfoldable pub points_set : IonoState → List LayerParams → ℕ → IonoState
points_set s params zero = s
points_set s params (suc n) = point_set (points_set s params n) n (get_or params n no_layers)

-- n points, none of them set yet
unfoldable pub empty_of : ℕ → IonoState
empty_of n = with_iedp (with_km zero_state n) (negsuc 0)

abbrev pub from_layers_by : Bool → List LayerParams → ℕ → Result IonoState Refusal
from_layers_by true params count = Ok (points_set (empty_of count) params count)
from_layers_by false params count = Err Refusal.PointCount

unfoldable pub from_layers_of : List LayerParams → ℕ → Result IonoState Refusal
from_layers_of params count = from_layers_by (count_taken count) params count
