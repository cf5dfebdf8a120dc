-- Each path is the clause that its tests choose; each call is what its contract says.
use Rattle.losses.specs.Alosfv.{e_loss}
use Rattle.losses.proofs.e_loss.Goals as goal

pub returns-then-htrue-htmuf : goal.returns-then-htrue-htmuf
unfolding e_loss
returns-then-htrue-htmuf c = rw c.if-htrue-htmuf.true

pub returns : goal.returns
unfolding e_loss
returns c = rw (c.if-htrue-htmuf.false, ← c.decayed-c.ensures, ← c.factor.ensures)
