-- Whose profile `lecden` of slot k leaves: slot k's, or a supplied one where `ielect` is set.
use Rattle.std.specs.Prelude.{true, ◌≡◌, ℕ}
use Rattle.layers.specs.Owners.{owner_by, owner_of, owned_by}
use Rattle.layers.specs.declared.IonoState.{IonoState}
use Rattle.layers.specs.declared.Owner.{Owner}
use Rattle.profile.specs.Lecden.{lecden_of}

-- what `lecden-owner` says
abbrev pub LecdenOwner : Type 0
LecdenOwner = (s : IonoState) (k : ℕ) → owner_of (lecden_of s k) ≡ owner_by s.ielect (Owner.Slot k)

-- what `lecden-owned` says: it answers for slot k
abbrev pub LecdenOwned : Type 0
LecdenOwned = (s : IonoState) (k : ℕ) → owned_by (lecden_of s k) k ≡ true
