-- Each step of the definition is what the call of the same name answers.
use Rattle.profile.proofs.slot_curves.draw.Goals as goal

pub returns : goal.returns
returns c = rw (← c.valley-v.ensures, ← c.reshape-f.ensures, ← c.reshaped-q.ensures, ← c.tail_of-t.ensures, ← c.heights-htr.ensures, ← c.curves_of-curves.ensures)
