-- Of one lane.
use Rattle.profile.specs.Density.{largest_of}
use Rattle.profile.proofs.shape_densities.Candidates.largest.Goals as goal

pub returns : goal.returns
unfolding largest_of
returns c = search (c.largest.ensures, c.index.ensures)
