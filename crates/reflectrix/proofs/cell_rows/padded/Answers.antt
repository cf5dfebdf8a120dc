-- The first thirty places are the copy.
use borrow.Author.Rules.{rules}
use Rattle.std.proofs.lemmas.List.{take_at}
use Rattle.reflectrix.proofs.cell_rows.padded.Goals as goal

pub returns : goal.returns
returns c = rw c.copy_from_slice.ensures.after (take_at c.args.x _ 30 (search rules))
