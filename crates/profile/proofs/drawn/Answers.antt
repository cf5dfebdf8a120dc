-- What `draw` answers of the slot, where no profile is supplied.
use Rattle.profile.specs.Lecden.{supplied_of, slot_drawn}
use Rattle.profile.proofs.drawn.Goals as goal

pub returns-then-s : goal.returns-then-s
unfolding supplied_of slot_drawn
returns-then-s c = rw c.if-s.true

pub returns : goal.returns
unfolding supplied_of slot_drawn
returns c = rw (c.draw.ensures, c.slot_at.ensures, c.if-s.false)
