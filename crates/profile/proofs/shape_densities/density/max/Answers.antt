use Rattle.profile.proofs.shape_densities.Lanes.{larger}
use Rattle.profile.proofs.shape_densities.density.max.Goals as goal

pub returns : goal.returns
returns g c = larger c.args.a c.args.b
