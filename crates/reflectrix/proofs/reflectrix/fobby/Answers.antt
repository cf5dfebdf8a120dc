-- The two tests are the definition of the room, and the loop fills it.
use borrow.Author.Tests.{le-leb, lt-leb}
use Rattle.reflectrix.specs.Fobby.{room_for, cells_after, fobby_outcome}
use Rattle.reflectrix.proofs.reflectrix.fobby.Goals.{then-nang-gt40-via-then-nang-gt40, then-nang-gt40-via-else-nang-gt40+then-cells-nang}
use Rattle.reflectrix.proofs.reflectrix.fobby.Goals as goal

pub returns-then-nang-gt40 : goal.returns-then-nang-gt40
unfolding room_for cells_after fobby_outcome
returns-then-nang-gt40 c =
    elim c.then-nang-gt40.branch [
      | then-nang-gt40-via-then-nang-gt40 w ↦
          let many = lt-leb _ _ w.if-nang-gt40.true in record { value = rw many; cells_after = rw many }
      | then-nang-gt40-via-else-nang-gt40+then-cells-nang w ↦
          let few = le-leb _ _ w.if-nang-gt40.false in
          let short = lt-leb _ _ w.if-cells-nang.true in
          record { value = rw (few, short); cells_after = rw (few, short) }
    ]

pub returns : goal.returns
unfolding room_for cells_after fobby_outcome
returns c =
    let few = le-leb _ _ c.if-nang-gt40.false in
    let room = le-leb _ _ c.if-cells-nang.false in
    record { value = rw (few, room); cells_after = rw (few, room) c.angles.ensures }
