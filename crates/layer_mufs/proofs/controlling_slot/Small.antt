-- The controlling slot is one of the three.
use mathlib.Core.Bool.{Bool, true, false, cond}
use Prim.Native.Nat.{ℕ, ◌*◌, ◌<◌}
use native.Mathlib.Omega.{arith}
use lib.Dec.{leb, eqb}
use Rattle.scalar.specs.F32.{◌-f◌, ◌≤f◌, ◌<f◌, at}
use Rattle.scalar.specs.Literals.{f0, f0_01}
use Rattle.scalar.specs.Scalar.{abs_of}
use Rattle.layers.specs.declared.IonoState.{IonoState}
use Rattle.layer_mufs.specs.Controlling.{compare_e, controlling_of}

either-small : (b : Bool) (m n : ℕ) → m < 3 → n < 3 → cond b m n < 3
either-small true m n h k = h
either-small false m n h k = k

compare-small : (s : IonoState) (kr : ℕ) → kr < 3 → compare_e s kr < 3
unfolding compare_e
compare-small s kr h = either-small (at s.fi 0 -f at s.fi (3 * kr) ≤f f0) 0 kr (omega arith) h

pub controlling-small : (s : IonoState) → controlling_of s < 3
unfolding controlling_of
controlling-small s =
    let f2 = at s.fi 2 -f at s.fi 8 in
    either-small (leb s.kfx 1) 0 _ (omega arith) (either-small (eqb s.kfx 2) (compare_e s 1) _ (compare-small s 1 (omega arith)) (either-small (abs_of f2 -f f0_01 ≤f f0) (compare_e s 2) _ (compare-small s 2 (omega arith)) (either-small (f2 <f f0) 0 2 (omega arith) (omega arith))))
