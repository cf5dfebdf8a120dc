-- Each path is the clause that its tests choose; each call is what its contract says.
use Rattle.std.proofs.lemmas.Result.{err_from_is_err_and}
use Rattle.layers.proofs.SlotNumbers.{slot-taken, slot-refused}
use Rattle.losses.specs.Alosfv.{alosfv_answer}
use Rattle.losses.proofs.alosfv.Goals as goal

pub returns-in_err-slot_number : goal.returns-in_err-slot_number
unfolding alosfv_answer
returns-in_err-slot_number c =
    let p = err_from_is_err_and c.from_residual.result c.from_residual.ensures.1 in
    let n = slot-refused c.args.k _ c.in_err-slot_number.ensures.value in
    rw (p.1, p.2, n.0, n.1)

pub returns : goal.returns
unfolding alosfv_answer
returns c = rw (slot-taken _ c.in_ok-slot_number.ensures.value, ← c.alosfv_slot.ensures)
