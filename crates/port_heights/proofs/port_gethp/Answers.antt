-- The cursor is at most 49, so that it fits its word.
use Rattle.heights.proofs.Whole.{cursor-bound}
use Rattle.port_heights.proofs.port_gethp.Goals as goal

pub heights_by-requires-clause-cursor : goal.heights_by-requires-clause-cursor
heights_by-requires-clause-cursor c s x h e = rw e (cursor-bound s.now x)
