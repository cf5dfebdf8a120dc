-- `selmod`: the slot by which ray paths are worked out, at an end of the path: the one with the lower F2, or with the lower E where F2 is alike.
use Rattle.std.specs.Prelude.{Bool, true, false, cond, ℕ, eqb}
use Rattle.scalar.specs.F32.{◌-f◌, ◌<f◌, ◌>f◌, at}
use Rattle.scalar.specs.Literals.{f0, f0_01}
use Rattle.scalar.specs.Scalar.{abs_of}
use Rattle.layers.specs.declared.IonoState.{IonoState}

abbrev pub slot_if : Bool → ℕ → ℕ
slot_if true k = k
slot_if false k = 0

unfoldable pub selmod_of : IonoState → ℕ
selmod_of s =
    let delfi = at s.fi 2 -f at s.fi 8 in
    cond (eqb s.kfx 1) 0
    -- `ionset` gave both slots one F2, so E tells them apart
    (cond (eqb s.kfx 2) (slot_if (at s.fi 0 >f at s.fi 3) 1)
    (cond (abs_of delfi <f f0_01) (slot_if (at s.fi 0 >f at s.fi 6) 2)
    (slot_if (delfi >f f0) 2)))
