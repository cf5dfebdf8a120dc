-- The copy is the definition's three stores.
use borrow.Author.Rules.{rules}
use Prim.Native.Nat.{◌*◌}
use native.Mathlib.Omega.{arith}
use Rattle.layers.specs.Rules.{row_set}
use Rattle.layers.proofs.layer_rules.Rows.{row_stored}
use Rattle.layers.proofs.layer_rules.set_row.Goals as goal

pub returns : goal.returns
unfolding row_set
returns c = rw c.copy_from_slice.ensures.after (row_stored c.args.table c.args.row _ (3 * c.args.k) (omega arith) (search rules))
