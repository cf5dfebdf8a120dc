-- Points make at most three slots.
use mathlib.Core.Bool.{Bool, true, false}
use Prim.Native.Nat.{◌≤◌}
use lib.Dec.{leb, lit≤}
use Rattle.layers.specs.Ionset.{layer_from, two_slots, three_slots, assigned_by, assigned_of}
use Rattle.layers.specs.declared.IonoState.{IonoState}

slots-by : (p q : Bool) (s : IonoState) → (assigned_by p q s).kfx ≤ 3
unfolding two_slots three_slots layer_from
slots-by true q s = lit≤ tt
slots-by false true s = lit≤ tt
slots-by false false s = lit≤ tt

pub three-at-most : (s : IonoState) → (assigned_of s).kfx ≤ 3
unfolding assigned_of
three-at-most s = slots-by (leb s.km 1) (leb s.km 3) s
