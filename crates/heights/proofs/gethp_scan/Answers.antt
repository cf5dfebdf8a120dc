-- The code follows the definition; each call is what its contract says.
use mathlib.Core.Path.{◌∙◌}
use Rattle.heights.proofs.Walks.{gethp-scan-so}
use Rattle.heights.proofs.gethp_scan.Goals as goal

pub returns : goal.returns
returns c = let s = c in c.gethp_rising.ensures ∙ gethp-scan-so s.args.s.now s.args.fxx
