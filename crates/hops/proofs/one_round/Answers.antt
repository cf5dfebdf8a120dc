-- The code follows the definition; each call is what its contract says.
use Rattle.hops.specs.Rounds.{round_of}
use Rattle.hops.proofs.one_round.Goals as goal

pub returns : goal.returns
unfolding round_of
returns c = rw (← c.correction.ensures, ← c.takeoff-del.ensures, ← c.incidence-sphe.ensures, ← c.secant.ensures)
