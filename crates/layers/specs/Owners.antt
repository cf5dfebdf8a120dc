-- Whose profile a state has. `owner_of` says what counts, and nothing else asks the field that stores it.
use Rattle.std.specs.Prelude.{Bool, true, false, ℕ, eqb}
use Rattle.layers.specs.State.{with_owner}
use Rattle.layers.specs.declared.IonoState.{IonoState}
use Rattle.layers.specs.declared.Owner.{Owner}

-- the number of each case: none 0, a slot 1, supplied 2
abbrev pub owner_number : Owner → ℕ
owner_number Owner.None = 0
owner_number (Owner.Slot k) = 1
owner_number Owner.Supplied = 2

-- and the slot's number, 0 beside the others
abbrev pub owner_slot : Owner → ℕ
owner_slot Owner.None = 0
owner_slot (Owner.Slot k) = k
owner_slot Owner.Supplied = 0

-- is `ielect` set, and what is stored: while it is set the profile is supplied, whatever is stored; without it a stored "supplied" is none
abbrev pub owner_by : Bool → Owner → Owner
owner_by true o = Owner.Supplied
owner_by false Owner.None = Owner.None
owner_by false (Owner.Slot k) = Owner.Slot k
owner_by false Owner.Supplied = Owner.None

unfoldable pub owner_of : IonoState → Owner
owner_of s = owner_by s.ielect s.owner

-- a profile is slot k's if it was made for k, or supplied
abbrev pub answers_for : Owner → ℕ → Bool
answers_for Owner.None k = false
answers_for (Owner.Slot j) k = eqb j k
answers_for Owner.Supplied k = true

unfoldable pub owned_by : IonoState → ℕ → Bool
owned_by s k = answers_for (owner_of s) k

-- nobody's, unless `ielect` is set, when no call changes the owner
abbrev pub disowned_by : Bool → IonoState → IonoState
disowned_by true s = s
disowned_by false s = with_owner s Owner.None

unfoldable pub disowned : IonoState → IonoState
disowned s = disowned_by s.ielect s
