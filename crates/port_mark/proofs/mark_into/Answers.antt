-- The number of a line fits a word.
use native.Mathlib.Omega.{arith}
use Rattle.port_mark.proofs.Small.{small}
use Rattle.port_mark.proofs.mark_into.Goals as goal

pub marking_into-requires : goal.marking_into-requires
marking_into-requires c = (omega arith, rw c.mark-m.ensures (small _))
