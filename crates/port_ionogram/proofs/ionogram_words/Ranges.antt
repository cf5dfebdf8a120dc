-- An angle count is at most 40 and a controlling slot at most 2, so that each is a word.
use mathlib.Core.Bool.{Bool, true, false, cond}
use Prim.Native.Nat.{ℕ, ◌-◌, ◌≤◌}
use native.Mathlib.Omega.{arith}
use lib.Dec.{eqb}
use lib.Ieee.{Float}
use lib.ListN.{get_or}
use Rattle.std.specs.Result.{result_unwrap_or}
use Rattle.scalar.specs.F32.{◌-f◌, ◌<f◌, ◌>f◌, at}
use Rattle.scalar.specs.Literals.{f0, f0_01}
use Rattle.scalar.specs.Scalar.{abs_of}
use Rattle.layers.specs.declared.IonoState.{IonoState}
use Rattle.reflectrix.specs.Angles.{NANGX, distance_step_of, scan_by, sang_of}
use Rattle.selmod.specs.Selmod.{slot_if, selmod_of}
use Rattle.reflectrix.proofs.scan_angles.Forty.{count-most}
use Rattle.reflectrix.proofs.scan_angles.Counts.{step_range, nangx-range}

scan-by : (b : Bool) (amind : Float) (id : ℕ) → id ≤ 8 → result_unwrap_or (scan_by b amind id) 0 ≤ 40
scan-by true amind id h = omega arith
scan-by false amind id h = count-most amind (get_or NANGX (id - 1) 0) (nangx-range (id - 1) (omega arith)).1

pub angles-range : (gcdkm amind : Float) → result_unwrap_or (sang_of gcdkm amind) 0 ≤ 40
unfolding sang_of
angles-range gcdkm amind = scan-by (eqb (distance_step_of gcdkm) 0) amind (distance_step_of gcdkm) (step_range gcdkm)

slot-if : (b : Bool) (k : ℕ) → k ≤ 2 → slot_if b k ≤ 2
slot-if true k h = h
slot-if false k h = omega arith

either-range : (b : Bool) (m n : ℕ) → m ≤ 2 → n ≤ 2 → cond b m n ≤ 2
either-range true m n h k = h
either-range false m n h k = k

pub selmod-range : (s : IonoState) → selmod_of s ≤ 2
unfolding selmod_of
selmod-range s =
    let delfi = at s.fi 2 -f at s.fi 8 in
    either-range (eqb s.kfx 1) 0 _ (omega arith) (either-range (eqb s.kfx 2) _ _ (slot-if (at s.fi 0 >f at s.fi 3) 1 (omega arith)) (either-range (abs_of delfi <f f0_01) _ _ (slot-if (at s.fi 0 >f at s.fi 6) 2 (omega arith)) (slot-if (delfi >f f0) 2 (omega arith))))
