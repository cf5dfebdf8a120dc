-- Each path is its clause of the definition; each call is what its contract says.
use Rattle.std.proofs.lemmas.Result.{err_from_is_err_and}
use Rattle.muf.specs.Curmuf.{muf_at_slot_with}
use Rattle.muf.proofs.Says.{slot-says}
use Rattle.muf.proofs.muf_at_slot.Goals as goal

pub returns-in_err-m-clause-value : goal.returns-in_err-m-clause-value
unfolding muf_at_slot_with
returns-in_err-m-clause-value c = let p = err_from_is_err_and c.from_residual.result c.from_residual.ensures.1 in rw (p.1, p.2, ← c.lecden_slot-t.ensures, ← c.slot_at-l.ensures, ← c.in_err-m.ensures.value)

pub returns-in_err-m-clause-slot_says : goal.returns-in_err-m-clause-slot_says
returns-in_err-m-clause-slot_says c = slot-says _ _ _ _ _ _ _ _ (returns-in_err-m-clause-value c)

pub returns-in_err-a-clause-value : goal.returns-in_err-a-clause-value
unfolding muf_at_slot_with
returns-in_err-a-clause-value c = let p = err_from_is_err_and c.from_residual-in_err-a.result c.from_residual-in_err-a.ensures.1 in rw (p.1, p.2, ← c.lecden_slot-t.ensures, ← c.slot_at-l.ensures, ← c.in_ok-m.ensures.value, c.in_err-a.was)

pub returns-in_err-a-clause-slot_says : goal.returns-in_err-a-clause-slot_says
returns-in_err-a-clause-slot_says c = slot-says _ _ _ _ _ _ _ _ (returns-in_err-a-clause-value c)

pub returns-clause-value : goal.returns-clause-value
unfolding muf_at_slot_with
returns-clause-value c = rw (← c.lecden_slot-t.ensures, ← c.slot_at-l.ensures, ← c.in_ok-m.ensures.value, c.in_ok-a.was, ← c.finish.ensures)

pub returns-clause-slot_says : goal.returns-clause-slot_says
returns-clause-slot_says c = slot-says _ _ _ _ _ _ _ _ (returns-clause-value c)
