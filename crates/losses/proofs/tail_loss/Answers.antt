-- Each path is the clause that its tests choose; each call is what its contract says.
use Rattle.losses.specs.Alosfv.{tail_loss}
use Rattle.losses.proofs.tail_loss.Goals as goal

pub returns-then-htrue-htmuf : goal.returns-then-htrue-htmuf
unfolding tail_loss
returns-then-htrue-htmuf c = rw c.if-htrue-htmuf.true

pub returns : goal.returns
unfolding tail_loss
returns c = rw (c.if-htrue-htmuf.false, ← c.decayed.ensures, ← c.max-c.ensures, ← c.factor.ensures)
