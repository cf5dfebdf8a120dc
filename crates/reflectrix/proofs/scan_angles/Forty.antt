-- An angle count of at most 40 stays so where it is raised: the table has 40 angles.
use mathlib.Core.Bool.{Bool, true, false}
use Prim.Native.Nat.{ℕ, zero, suc, ◌+◌, ◌-◌, ◌≤◌}
use native.Mathlib.Omega.{arith}
use lib.Ieee.{Float}
use Rattle.scalar.specs.F32.{◌-f◌, ◌<f◌, ◌>f◌, ◌≥f◌, at}
use Rattle.scalar.specs.Literals.{f0, f8_5, f10}
use Rattle.reflectrix.specs.Angles.{ANG, raised_by, raised_from, angle_count_by, angle_count_of}

raised_by_lem : (b : Bool) (n m : ℕ) → n ≤ 40 → m ≤ 40 → raised_by b n m ≤ 40
raised_by_lem true n m p q = p
raised_by_lem false n m p q = q

raised-most : (amind : Float) (n i : ℕ) → i + n ≤ 40 → raised_from amind n i ≤ 40
unfolding raised_from
raised-most amind zero i h = omega arith
raised-most amind (suc n) i h =
    raised_by_lem (at ANG i -f f8_5 -f amind ≥f f0) (i + 1) (raised_from amind n (i + 1)) (omega arith) (raised-most amind n (i + 1) (omega arith))

count_by : (b c : Bool) (amind : Float) (iang : ℕ) → iang ≤ 40 → angle_count_by b c amind iang ≤ 40
count_by true true amind iang h = raised-most amind 40 0 (omega arith)
count_by true false amind iang h = h
count_by false c amind iang h = h

pub count-most : (amind : Float) (iang : ℕ) → iang ≤ 40 → angle_count_of amind iang ≤ 40
unfolding angle_count_of
count-most amind iang h = count_by (amind >f f0) (at ANG (iang - 1) -f f10 -f amind <f f0) amind iang h
