-- An array that is owned has numbers that the format holds.
use Rattle.heights.proofs.Owned.{each-held}
use Rattle.heights.proofs.held.Goals as goal

pub returns : goal.returns
returns c = let g = c.well_formed.0 in each-held c.args.htr g.0 g.1.1
