-- The words of each answer, in their order.
use Rattle.std.specs.Prelude.{List, [], ◌∷◌, ℕ, set}
use Rattle.port_state.specs.Words.{floats_into}
use Rattle.readings.specs.Scan.{reading_kind, value_of, segment_number}
use Rattle.readings.specs.declared.Reading.{Reading}
use Rattle.readings.specs.declared.Found.{Found}
use Rattle.heights.specs.declared.Heights.{Heights}

-- hp, ht, cursor, segment
unfoldable pub heights_into : Heights → List ℕ → List ℕ
heights_into h out = set (set (floats_into out 0 (h.hp ∷ h.ht ∷ [])) 2 h.cursor) 3 h.segment

-- the kind, the density, the segment
unfoldable pub reading_into : Reading → List ℕ → List ℕ
reading_into r out = set (set (floats_into out 1 (value_of r ∷ [])) 0 (reading_kind r)) 2 (segment_number r)

-- the value, the segment
unfoldable pub found_into : Found → List ℕ → List ℕ
found_into f out = set (floats_into out 0 (f.value ∷ [])) 1 f.segment
