-- Slots 0 to 2 go to `lecden_slot`; every other number is refused.
use borrow.Author.Tests.{lt-ltb, le-ltb, leb-false}
use Rattle.std.proofs.lemmas.Result.{err_from_is_err_and}
use Rattle.layers.proofs.SlotNumbers.{slot-refused}
use Rattle.profile.specs.Lecden.{lecden_answer}
use Rattle.profile.proofs.lecden.Goals as goal

pub returns-in_err-slot_number : goal.returns-in_err-slot_number
unfolding lecden_answer
returns-in_err-slot_number c =
    let p = err_from_is_err_and c.from_residual.result c.from_residual.ensures.1 in
    let n = slot-refused c.args.k _ c.in_err-slot_number.ensures.value in
    rw (p.1, p.2, n.1, le-ltb _ _ (leb-false c.args.k 2 n.0))

pub returns : goal.returns
unfolding lecden_answer
returns c = rw (lt-ltb _ _ c.in_ok-slot_number.ensures.within, ← c.lecden_slot.ensures)
