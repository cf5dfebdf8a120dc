use Prim.Native.Nat.{◌+◌, ◌*◌}
use mathlib.Core.Path.{refl, ap, ◌∙◌}
use native.Mathlib.Omega.{arith}
use lib.ListN.{length, take}
use lib.Seq.{take_all}
use Rattle.records.proofs.Lists.{filled-up}
use Rattle.circuit.specs.Bytes.{bytes_of}
use Rattle.circuit.proofs.record_put.Cells.{words_more, length-filled, bytes-took}
use Rattle.circuit.proofs.record_put.words.Goals as goal

pub loop-i-init : goal.loop-i-init
unfolding bytes_of
loop-i-init c = (omega arith, refl, refl)

pub loop-i-preserved : goal.loop-i-preserved
loop-i-preserved c =
    let a = c.args in
    let l = c.loop-i in
    let e =
    words_more a.ws.now l.out a.out.now c.copy_from_slice.new.self l.i (omega arith) l.invariant.2
    (c.copy_from_slice.ensures.after ∙ c.to_le_bytes.ensures)
    in (
      omega arith,
      ap length e
          ∙ length-filled (bytes_of (take (l.i + 1) a.ws.now)) a.out.now (4 * (l.i + 1))
          (bytes-took a.ws.now (l.i + 1) (omega arith)) (omega arith),
      e,
    )

pub shape_of-out : goal.shape_of-out
shape_of-out c = c.loop-i.invariant.1

pub returns : goal.returns
returns c =
    let a = c.args in
    let l = c.loop-i in
    l.invariant.2
    ∙ filled-up _ a.out.now (4 * l.i) (omega arith)
    ∙ ap bytes_of (take_all l.i a.ws.now (omega arith))
