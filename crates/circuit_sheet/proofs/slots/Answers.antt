-- Each call is given what the one before answered.
use Rattle.circuit_sheet.specs.CircuitSheet.{slots_of}
use Rattle.circuit_sheet.proofs.slots.Goals as goal

pub returns : goal.returns
unfolding slots_of
returns c = rw (c.unwrap_or.ensures, c.ionset.ensures, c.shaped-s.ensures, c.unwrap_or-made.ensures, c.from_layers.ensures, c.zero_state.ensures, c.params-points.ensures)
