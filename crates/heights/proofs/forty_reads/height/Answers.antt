-- The code follows the definition; each call is what its contract says.
use Rattle.heights.specs.Nodes.{xt, height_of}
use Rattle.heights.proofs.forty_reads.height.Goals as goal

pub returns : goal.returns
unfolding height_of xt
returns c = rw c.node-zg.ensures
