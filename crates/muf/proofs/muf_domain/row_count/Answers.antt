-- The rows that there are, of a quarter as many.
use Rattle.muf.specs.Domain.{row_count_of}
use Rattle.muf.proofs.muf_domain.row_count.Goals as goal

pub returns : goal.returns
unfolding row_count_of
returns c = rw (← c.rows_taken.ensures)
