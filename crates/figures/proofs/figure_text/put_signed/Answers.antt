use Rattle.figures.proofs.figure_text.Placed.{tenths-placed}
use Rattle.figures.proofs.figure_text.put_signed.Goals as goal

pub returns : goal.returns
returns g c = rw (tenths-placed c.args.n, ← c.from.ensures) c.put_units.ensures
