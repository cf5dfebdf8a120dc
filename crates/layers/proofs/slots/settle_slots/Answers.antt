use mathlib.Core.Path.{refl, ap, ◌∙◌}
use native.Mathlib.Nat.{le_antisymm}
use native.Mathlib.Numerals.{add-one}
use native.Mathlib.Omega.{arith}
use Rattle.layers.specs.Ionset.{slots_settled}
use Rattle.layers.proofs.slots.settle_slots.Goals as goal

pub loop-k-init : goal.loop-k-init
unfolding slots_settled
loop-k-init c = (omega arith, refl)

pub loop-k-preserved : goal.loop-k-preserved
unfolding slots_settled
loop-k-preserved c = (omega arith, rw (add-one c.loop-k.k, c.settle_slot-t.ensures, c.loop-k.invariant.1))

pub returns : goal.returns
returns c = let k≡n = le_antisymm c.loop-k.invariant.0 c.loop-k-test.false in c.loop-k.invariant.1 ∙ ap (slots_settled _) k≡n
