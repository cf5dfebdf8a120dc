-- Candidates and density are what the calls answer, the tail's density being what is asked for; the test on zero comes first.
use Rattle.profile.specs.Density.{candidates_of}
use Rattle.profile.specs.Marks.{mark_of}
use Rattle.profile.proofs.shapes.mark_at.Goals as goal

pub returns-then-density : goal.returns-then-density
unfolding mark_of candidates_of
returns-then-density c = rw (← c.requires, ← c.candidates-shapes.ensures, ← c.largest-density.ensures, c.if-density.true)

pub returns : goal.returns
unfolding mark_of candidates_of
returns c = rw (← c.requires, ← c.candidates-shapes.ensures, ← c.largest-density.ensures, c.if-density.false) c.first.ensures
