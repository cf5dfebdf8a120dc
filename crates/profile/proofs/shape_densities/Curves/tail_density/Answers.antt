-- Each path is the clause that its test chooses.
use Rattle.profile.specs.Density.{fnd_of}
use Rattle.profile.proofs.shape_densities.Curves.tail_density.Goals as goal

pub returns-then-h-self : goal.returns-then-h-self
unfolding fnd_of
returns-then-h-self c = rw c.if-h-self.true

pub returns : goal.returns
unfolding fnd_of
returns c = rw (c.if-h-self.false, ← c.exp.ensures)
