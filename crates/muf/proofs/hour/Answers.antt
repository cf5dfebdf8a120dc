-- The code follows the definition; each call is what its contract says.
use Rattle.muf.specs.Hour.{hour_of}
use borrow.Author.Rules.{rules}
use Rattle.muf.proofs.hour.Goals as goal

pub returns : goal.returns
unfolding hour_of
returns c = rw (← c.max.ensures, ← c.max-fot.ensures, ← c.max-2.ensures, ← c.max-allmuf.ensures, ← c.max-3.ensures, ← c.max-hpf.ensures, ← c.by_layer-by.ensures) (search rules)
