-- The four cases of the two tests.
use mathlib.Core.Bool.{Bool, true, false, beq}
use mathlib.Core.Path.{◌≡◌}
use Prim.Native.Nat.{ℕ, ◌<◌}
use native.Mathlib.Omega.{arith}
use mir.Val.{bool_byte}
use Rattle.heights.specs.Nodes.{ib_by, ib_at}
use Rattle.heights.proofs.forty_reads.ib_at.Goals as goal

half : (low up : Bool) (n : ℕ) → n ≡ bool_byte (beq low up) → (n < 2) × (n ≡ ib_by up low)
half true true n e = (omega arith, e)
half true false n e = (omega arith, e)
half false true n e = (omega arith, e)
half false false n e = (omega arith, e)

pub returns : goal.returns
unfolding ib_at
returns c = half _ c.args.up _ c.from.ensures
