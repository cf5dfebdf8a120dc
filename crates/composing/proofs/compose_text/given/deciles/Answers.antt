-- The cells that hold the deciles get twelve words more, and nothing else of the circuit changes.
use native.Mathlib.Omega.{arith}
use Prim.Native.Nat.{◌*◌, ◌≤◌}
use mathlib.Core.Path.{◌≡◌}
use lib.ListN.{length, take}
use lib.Seq.{length-take-le}
use Rattle.composing.specs.Draft.{deciled, given_deciles}
use Rattle.composing.proofs.compose_text.Parts.{part_put}
use Rattle.composing.proofs.compose_text.given.deciles.Goals as goal

pub returns : goal.returns
unfolding given_deciles deciled
returns c =
    let a = c.args in
    let n : 12 ≤ length a.values = omega arith in
    let m : length a.d.circuit.deciles ≡ 576 = omega arith in
    rw (c.copy_from_slice.ensures.after, part_put a.d.circuit.deciles (take 12 a.values) (12 * a.d.twelves) 12 (length-take-le 12 a.values n) (omega arith))
