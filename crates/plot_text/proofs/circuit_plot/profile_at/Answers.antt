-- The two lists that `lecden` leaves.
use Rattle.plot_text.specs.CircuitPlot.{profile_of}
use Rattle.plot_text.proofs.circuit_plot.profile_at.Goals as goal

pub returns : goal.returns
unfolding profile_of
returns c = rw (← c.lecden_slot-t.ensures)
