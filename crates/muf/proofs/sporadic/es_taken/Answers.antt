-- Each path is the clause that its tests choose.
use Rattle.muf.specs.Sporadic.{taken_of}
use Rattle.muf.proofs.sporadic.es_taken.Goals as goal

pub returns-then-a-esd : goal.returns-then-a-esd
unfolding taken_of
returns-then-a-esd c = rw (c.if-a-esd.true)

pub returns : goal.returns
unfolding taken_of
returns c = rw (c.if-a-esd.false)
