-- `arc_entries::node_cosine` meets its contract: one computed test works out the root at each place.
use lib.Dec.{eqb, eqb→eq}
use lib.Ieee.{size}
use Rattle.scalar.specs.Root.{root, root_in}
use Rattle.cases.proofs.Entries as table
use Rattle.arc_tables.specs.Tables.{cosine_of, cosine_at}
use Rattle.arc_entries.specs.declared.TheConstants.{COSINES}
use Rattle.arc_entries.proofs.node_cosine.Goals as goal

pub returns : goal.returns
unfolding cosine_at cosine_of root root_in size
returns c = eqb→eq _ _ (table.entry (λ i x. eqb x (cosine_at i)) COSINES tt c.args.i c.requires)
