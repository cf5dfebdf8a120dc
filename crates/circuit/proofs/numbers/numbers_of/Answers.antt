use Prim.Native.Nat.{◌*◌}
use mathlib.Core.Path.{refl, ap, ◌∙◌}
use native.Mathlib.Omega.{arith}
use lib.ListN.{length, length-drop, length-replicate}
use lib.Seq.{length-take-le}
use borrow.Rule.Slice.PartMut.{same_len_mid}
use Rattle.records.proofs.Lists.{length_part}
use Rattle.circuit.proofs.Lists.{read-on, none-read, room-on}
use Rattle.circuit.proofs.numbers.numbers_of.Goals as goal

pub loop-i-init : goal.loop-i-init
loop-i-init g c =
    record { in_list = omega arith; room = length-replicate _ _; read = λ o found. none-read o _ _ 0 _ _ _ }

pub part-requires : goal.part-requires
part-requires g c =
    let t = c.requires.found.1 in
    (t.parts c.args.file _ (t.there c.loop-i.i c.loop-i-test.true)).0

-- the record is as long as the form says
pub words-requires : goal.words-requires
words-requires g c =
    let t = c.requires.found.1 in
    let l = c.loop-i in
    let h = t.there l.i c.loop-i-test.true in
    let lent = length_part (c.args.width * l.i) c.args.width l.words (rw l.invariant.room (room-on _ _ _ _ c.requires.room c.loop-i-test.true)) in
    let long = ap length ((t.parts c.args.file _ h).1 c.part.result c.part.ensures) ∙ length-take-le c.requires.found.0.size _ (simp length-drop (omega (arith, h))) in
    omega (arith, lent, long, t.room)

pub loop-i-preserved : goal.loop-i-preserved
loop-i-preserved g c =
    let l = c.loop-i in
    let a = c.args in
    let room = room-on _ _ _ _ c.requires.room c.loop-i-test.true in
    let lent = length_part (a.width * l.i) a.width l.words (rw l.invariant.room room) in
    record {
      in_list = omega arith;
      room = same_len_mid _ _ l.words c.words.new.out c.words.auto.out ∙ l.invariant.room;
      read = λ o found.
          let r = (found.parts a.file _ (found.there l.i c.loop-i-test.true)).1 c.part.result c.part.ensures in
          read-on o a.file.now a.records.now a.skip a.width g.row.N l.i l.words c.words.new.out (l.invariant.read o found)
          (c.words.ensures ∙ rw (r, lent) refl) room;
    }
