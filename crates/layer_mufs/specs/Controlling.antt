-- `ks` of `curmuf`: which slot controls, the transmitter's, kt = 0, or the receiver's, kr. `s.fi` at 3 * k is the E layer of slot k, at 3 * k + 2 its F2 layer.
use Rattle.std.specs.Prelude.{cond, ℕ, ◌*◌, leb, eqb}
use Rattle.scalar.specs.F32.{◌-f◌, ◌≤f◌, ◌<f◌, at}
use Rattle.scalar.specs.Literals.{f0, f0_01}
use Rattle.scalar.specs.Scalar.{abs_of}
use Rattle.layers.specs.declared.IonoState.{IonoState}

unfoldable pub compare_e : IonoState → ℕ → ℕ
compare_e s kr = cond (at s.fi 0 -f at s.fi (3 * kr) ≤f f0) 0 kr

-- with kfx 0 or 1 kr is 0, with 2 it is 1, else 2
unfoldable pub controlling_of : IonoState → ℕ
controlling_of s =
    let delfi = at s.fi 2 -f at s.fi 8 in
    cond (leb s.kfx 1) 0
    (cond (eqb s.kfx 2) (compare_e s 1)
    (cond (abs_of delfi -f f0_01 ≤f f0) (compare_e s 2)
    (cond (delfi <f f0) 0 2)))
