-- The profile that `lecden` leaves is the slot's or supplied.
use Rattle.profile.proofs.Owns.{lecden-owned}
use Rattle.sounding.specs.Genion.{genion_answer}
use Rattle.sounding.specs.Prepared.{GenionPrepared}

pub genion-prepared : GenionPrepared
unfolding genion_answer
genion-prepared s k e = rw (e, lecden-owned s k)
