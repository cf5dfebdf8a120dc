-- The arguments of sine and cosine in the MUF and in the reflectrix: each is within -4 to 4, or NaN, so that refusal 13 is never an answer of theirs.
use Rattle.std.specs.Prelude.{◌≡◌, Bool, true, false, ◌&&◌, ℕ, T, Float, Ok}
use Rattle.std.specs.Float.{binary32}
use Rattle.std.specs.Float.Ieee.{fits}
use Rattle.scalar.specs.F32.{◌*f◌, ◌≤f◌, ◌<f◌, ◌>f◌, negf, at}
use Rattle.scalar.specs.Literals.{f0, f4, f6_3, f90, f40100}
use Rattle.scalar.specs.Scalar.{max_of}
use Rattle.waves.specs.SinCos.{sin_of, cos_of}
use Rattle.waves.specs.Answers.{sin_answer, cos_answer}
use Rattle.constants.specs.Constants.{D2R}
use Rattle.hops.specs.Geometry.{hops_of, psi_of, del_of}
use Rattle.muf.specs.Sporadic.{es_psi}
use Rattle.reflectrix.specs.Angles.{ANG}

-- neither below -4 nor above 4; NaN is neither
abbrev pub Small : Float → Type 0
Small x = ((x <f negf f4) ≡ false) × ((x >f f4) ≡ false)

-- and then sine and cosine answer
abbrev pub SinAnswers : Type 0
SinAnswers = (x : Float) → Small x → sin_answer x ≡ Ok (sin_of x)

abbrev pub CosAnswers : Type 0
CosAnswers = (x : Float) → Small x → cos_answer x ≡ Ok (cos_of x)

-- For a path of gcd radians and gcdkm kilometres and a least angle of amind: every argument of sin and cos in `hop_ratio_of`, `hop_geometry_of`, `round_of` and the Es section's ray. h is any height, x the hop count that it gives.
pub record AllSmall (gcd gcdkm amind : Float) : Type 0 where
  pub least : Small (max_of amind f0 *f D2R)
  pub hop : (h x : Float) (split : Bool) → hops_of gcdkm amind h ≡ Ok x → Small (psi_of gcdkm x split)
  pub takeoff : (h x cpsi spsi hp : Float) (split : Bool) → hops_of gcdkm amind h ≡ Ok x → Small (del_of (psi_of gcdkm x split) cpsi spsi hp)
  pub es : (h x : Float) → hops_of gcdkm amind h ≡ Ok x → Small (es_psi gcd x)

-- The domain of refusal 9, whatever the state, the Es rows and the lists.
abbrev pub NeverRefused13 : Type 0
NeverRefused13 =
    (gcd gcdkm amind : Float) → T (fits binary32 gcd) → T (fits binary32 gcdkm) → T (fits binary32 amind)
    → (f0 ≤f gcd && gcd ≤f f6_3) ≡ true → (f0 ≤f gcdkm && gcdkm ≤f f40100) ≡ true → (amind >f f90) ≡ false → AllSmall gcd gcdkm amind

-- cos in `fobby`, at every angle of the scan
abbrev pub FobbySmall : Type 0
FobbySmall = (ia : ℕ) → Small (at ANG ia *f D2R)

abbrev pub FobbyAnswers : Type 0
FobbyAnswers = (ia : ℕ) → cos_answer (at ANG ia *f D2R) ≡ Ok (cos_of (at ANG ia *f D2R))
