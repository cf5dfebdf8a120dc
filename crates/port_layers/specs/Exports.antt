-- The calls on words: the number answered, 0 or the refusal's, and the words afterwards. Lengths are checked first; a refused call leaves every word.
use Rattle.std.specs.Prelude.{Bool, true, false, ◌&&◌, List, ℕ, ◌/◌, ◌%◌, leb, eqb, length, set, Result, Ok, Err}
use Rattle.refusal.specs.declared.Refusal.{Refusal}
use Rattle.layers.specs.Owners.{owner_number, owner_slot, owner_of}
use Rattle.layers.specs.FromLayers.{from_layers_of}
use Rattle.layers.specs.Ionset.{ionset_of}
use Rattle.layers.specs.declared.IonoState.{IonoState}
use Rattle.layers.specs.declared.Owner.{Owner}
use Rattle.profile.specs.Lecden.{lecden_answer}
use Rattle.port_state.specs.Words.{count_word}
use Rattle.port_state.specs.State.{state_words, state_of, state_into}
use Rattle.port_state.specs.Ports.{Ported, refused_with, points_of}

unfoldable pub ported_state_of : Result IonoState Refusal → List ℕ → Ported
ported_state_of (Ok s) w = record { number = 0; words = state_into s w }
ported_state_of (Err r) w = refused_with r w

abbrev pub port_ionset_by : Bool → List ℕ → Ported
port_ionset_by true w = ported_state_of (ionset_of (state_of w)) w
port_ionset_by false w = refused_with Refusal.Length w

unfoldable pub port_ionset : List ℕ → Ported
port_ionset w = port_ionset_by (leb state_words (length w)) w

abbrev pub port_lecden_by : Bool → List ℕ → ℕ → Ported
port_lecden_by true w k = ported_state_of (lecden_answer (state_of w) k) w
port_lecden_by false w k = refused_with Refusal.Length w

unfoldable pub port_lecden : List ℕ → ℕ → Ported
port_lecden w k = port_lecden_by (leb state_words (length w)) w k

-- whole points, five at most
abbrev pub from_points_by : Bool → List ℕ → List ℕ → Ported
from_points_by true points w =
    let n = length points / 9 in
    ported_state_of (from_layers_of (points_of points n) n) w
from_points_by false points w = refused_with Refusal.PointCount w

abbrev pub port_from_layers_by : Bool → List ℕ → List ℕ → Ported
port_from_layers_by true points w = from_points_by (eqb (length points % 9) 0 && leb (length points) 45) points w
port_from_layers_by false points w = refused_with Refusal.Length w

unfoldable pub port_from_layers : List ℕ → List ℕ → Ported
port_from_layers points w = port_from_layers_by (leb state_words (length w)) points w

-- the owner that counts: its number, and the slot's beside it
unfoldable pub owner_pair : Owner → List ℕ → List ℕ
owner_pair o out = set (set out 0 (owner_number o)) 1 (count_word (owner_slot o))

abbrev pub owner_answer_by : Bool → List ℕ → List ℕ → Ported
owner_answer_by true state out = record { number = 0; words = owner_pair (owner_of (state_of state)) out }
owner_answer_by false state out = refused_with Refusal.Length out

unfoldable pub port_owner : List ℕ → List ℕ → Ported
port_owner state out = owner_answer_by (leb state_words (length state) && leb 2 (length out)) state out
