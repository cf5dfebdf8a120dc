-- Each path is the clause that its test chooses.
use Rattle.profile.specs.F1.{asp_of}
use Rattle.profile.proofs.slot_curves.f1.slope.Goals as goal

pub returns-then-hup-hlow : goal.returns-then-hup-hlow
unfolding asp_of
returns-then-hup-hlow c = rw c.if-hup-hlow.true

pub returns : goal.returns
unfolding asp_of
returns c = rw c.if-hup-hlow.false
