-- Each column is what its contract says.
use Rattle.sounding.proofs.sounding_rows.by_table.Goals as goal

pub returns : goal.returns
returns c = rw (← c.true_rows-columns.ensures.htrue_value, ← c.true_rows-columns.ensures.segment_value, ← c.virtual_rows.ensures) c.make.ensures
