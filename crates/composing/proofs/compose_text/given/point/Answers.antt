-- The cells that hold the points get fifteen words more, and nothing else of the circuit changes but their count.
use native.Mathlib.Omega.{arith}
use Prim.Native.Nat.{◌*◌}
use mathlib.Core.Path.{◌≡◌}
use lib.ListN.{length}
use Rattle.composing.specs.Draft.{pointed, given_point}
use Rattle.composing.proofs.compose_text.Parts.{part_put}
use Rattle.composing.proofs.compose_text.given.point.Goals as goal

pub returns : goal.returns
unfolding given_point pointed
returns c =
    let a = c.args in
    let n : length a.values ≡ 15 = omega arith in
    let m : length a.d.circuit.points ≡ 75 = omega arith in
    rw (c.copy_from_slice.ensures.after, part_put a.d.circuit.points a.values (15 * a.d.circuit.km) 15 n (omega arith))
