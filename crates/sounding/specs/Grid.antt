-- The thirty sounding frequencies of a slot, in the order in which `genion` writes them. All thirty are written.
use Rattle.std.specs.Prelude.{Bool, true, false, List, replicate, set, Float}
use Rattle.scalar.specs.F32.{◌-f◌, ◌+f◌, ◌*f◌, ◌/f◌, ◌≤f◌, at}
use Rattle.scalar.specs.Literals.{f0, f0_01, f0_85, f0_92, f0_957, f0_96, f0_98, f0_99, f1, f1_01, f1_05, f3, f5, f6, f9, f16}
use Rattle.scalar.specs.Root.{sqrt_of}
use Rattle.profile.specs.Grid.{filled}

-- D-E tail, whose xtail is that of `lecden`, and the E nose: places 0 to 9
unfoldable pub e_grid : List Float → Float → List Float
e_grid fv fi0 =
    let xtail = f0_85 in
    let fex = fi0 *f sqrt_of (f1 -f xtail *f xtail) in
    let fv = set fv 0 f0_01 in
    let fv = set fv 3 fex in
    let fdif = (at fv 3 -f at fv 0) /f f3 in
    let fv = set fv 1 (at fv 0 +f fdif) in
    let fv = set fv 2 (at fv 1 +f fdif) in
    let fv = set fv 8 (f0_957 *f fi0) in
    let fv = set fv 9 (f0_99 *f fi0) in
    filled fv 3 ((at fv 8 -f at fv 3) /f f5) 4

-- the E-F cusp, place 10, and the F nose: places 26 to 29
unfoldable pub nose_grid : List Float → Float → Float → List Float
nose_grid fv fi0 fi2 =
    let fv = set fv 10 (f1_05 *f fi0) in
    let fv = set fv 29 (f0_99 *f fi2) in
    let fv = set fv 28 (f0_98 *f fi2) in
    let fv = set fv 27 (f0_96 *f fi2) in
    set fv 26 (f0_92 *f fi2)

-- places 11 to 25: F2 alone, or F1 up to its cusp with F2 at place 20 and then F2. `fi1 <= 0.0`, which a NaN is not
abbrev pub f_grid_by : Bool → List Float → Float → List Float
f_grid_by true fv fi1 = filled fv 10 ((at fv 26 -f at fv 10) /f f16) 15
f_grid_by false fv fi1 =
    let fv = set fv 19 (f0_99 *f fi1) in
    let fv = filled fv 10 ((at fv 19 -f at fv 10) /f f9) 8 in
    let fv = set fv 20 (f1_01 *f fi1) in
    filled fv 20 ((at fv 26 -f at fv 20) /f f6) 5

unfoldable pub f_grid : List Float → Float → List Float
f_grid fv fi1 = f_grid_by (fi1 ≤f f0) fv fi1

unfoldable pub fvert_of : Float → Float → Float → List Float
fvert_of fi0 fi1 fi2 = f_grid (nose_grid (e_grid (replicate 30 f0) fi0) fi0 fi2) fi1
