-- The heights are f32 numbers, so the walk's reads are those of scans.
use mathlib.Core.Path.{◌∙◌}
use Rattle.heights.proofs.Walks.{gethp-read-so}
use Rattle.heights.proofs.gethp.Goals as goal

pub returns : goal.returns
returns c = c.gethp_rising.ensures ∙ gethp-read-so _ c.args.s.now c.args.fxx c.held.ensures c.rises_throughout.ensures
