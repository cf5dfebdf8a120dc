-- `arcs::arcsin::cosine` meets its contract.
use mathlib.Core.Path.{ap, ◌∙◌}
use Rattle.scalar.specs.Root.{root}
use Rattle.arc_tables.specs.Tables.{cosine_of}
use Rattle.arcs.proofs.arcsin.cosine.Goals as goal

pub returns : goal.returns
unfolding cosine_of
returns c = c.whole_root.ensures ∙ ap root c.rest_of_square-m.ensures.0
