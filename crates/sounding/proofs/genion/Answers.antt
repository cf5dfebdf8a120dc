-- The answer of each of its tests, in their order.
use Rattle.std.proofs.lemmas.Result.{err_from_is_err_and}
use Rattle.layers.proofs.SlotNumbers.{slot-taken, slot-refused}
use Rattle.sounding.specs.Genion.{genion_answer}
use Rattle.sounding.proofs.genion.Goals as goal

pub returns-in_err-slot_number : goal.returns-in_err-slot_number
unfolding genion_answer
returns-in_err-slot_number c =
    let p = err_from_is_err_and c.from_residual.result c.from_residual.ensures.1 in
    let n = slot-refused c.args.k _ c.in_err-slot_number.ensures.value in
    rw (p.1, p.2, n.0, n.1)

pub returns-then-not-owned_by : goal.returns-then-not-owned_by
unfolding genion_answer
returns-then-not-owned_by c = rw (slot-taken _ c.in_ok-slot_number.ensures.value, ← c.owned_by.ensures, c.if-not-owned_by.true)

pub returns : goal.returns
unfolding genion_answer
returns c = rw (slot-taken _ c.in_ok-slot_number.ensures.value, ← c.owned_by.ensures, c.if-not-owned_by.false, ← c.genion_slot.ensures)
