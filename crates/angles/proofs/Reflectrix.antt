-- `fobby` takes the cosine of its forty angles, 0 to 89.99 degrees: each of them in radians is computed and found within -4 to 4. So 13 is never its answer either.
use mathlib.Core.Path.{refl}
use mathlib.Core.Bool.{Bool, true, not, ◌&&◌}
use mathlib.Core.List.{List, [], ◌∷◌}
use Prim.Native.Nat.{ℕ, zero, suc}
use lib.Dec.{T}
use lib.Ieee.{Float, of_bits, round, lt, neg, mul}
use lib.Ieee.Bits.{is_false}
use lib.Ieee.Fits.{and_l, and_r}
use Rattle.scalar.specs.F32.{◌*f◌, ◌<f◌, ◌>f◌, negf, at}
use Rattle.scalar.specs.Literals.{f4}
use Rattle.constants.specs.Constants.{D2R}
use Rattle.reflectrix.specs.Angles.{ANG}
use Rattle.angles.specs.Angles.{Small, FobbySmall, FobbyAnswers}
use Rattle.angles.proofs.Angles.{cos-answers}

-- an angle of the list in radians, as in `rcosd_of`
abbrev radians : List Float → ℕ → Float
radians l ia = at l ia *f D2R

small : Float → Bool
small x = not (x <f negf f4) && not (x >f f4)

all_small : List Float → Bool
all_small [] = true
all_small (x ∷ l) = small (x *f D2R) && all_small l

is-small : (x : Float) → T (small x) → Small x
unfolding small
is-small x t = (is_false (x <f negf f4) (and_l (not (x <f negf f4)) (not (x >f f4)) t), is_false (x >f f4) (and_r (not (x <f negf f4)) (not (x >f f4)) t))

-- past the list's end stands NaN
each-small : (l : List Float) → T (all_small l) → (ia : ℕ) → Small (radians l ia)
unfolding all_small lt mul of_bits
each-small [] t ia = (refl, refl)
each-small (x ∷ l) t zero = is-small (x *f D2R) (and_l (small (x *f D2R)) (all_small l) t)
each-small (x ∷ l) t (suc ia) = each-small l (and_r (small (x *f D2R)) (all_small l) t) ia

forty : T (all_small ANG)
unfolding all_small small ANG of_bits round lt neg mul
forty = tt

-- cos in `fobby`, at every angle of the scan
pub fobby-small : FobbySmall
fobby-small ia = each-small ANG forty ia

pub fobby-answers : FobbyAnswers
fobby-answers ia = cos-answers (at ANG ia *f D2R) (fobby-small ia)
