-- The only sine and cosine of `nommuf` are those of psi, half the angle of an Es hop at the Earth's centre, in `ray_of`. Where a
-- call is answered psi is within -4 to 4 or NaN, whatever the row's height: so both answer, and 13 is none of its refusals.
use Rattle.std.specs.Prelude.{true, ◌≡◌, T, Float, Ok}
use Rattle.std.specs.Float.{binary32}
use Rattle.std.specs.Float.Ieee.{fits}
use Rattle.waves.specs.SinCos.{sin_of, cos_of}
use Rattle.waves.specs.Answers.{sin_answer, cos_answer}
use Rattle.muf.specs.Sporadic.{es_psi}
use Rattle.nominal.specs.Nommuf.{hop_of, path_taken}

abbrev pub nominal_psi : Float → Float → Float → Float
nominal_psi gcd gcdkm hs = es_psi gcd (hop_of gcdkm hs)

abbrev pub NominalNeverRefused13 : Type 0
NominalNeverRefused13 =
    (gcd gcdkm hs : Float) → T (fits binary32 gcd) → T (fits binary32 gcdkm) → T (fits binary32 hs) → path_taken gcd gcdkm ≡ true
    → (cos_answer (nominal_psi gcd gcdkm hs) ≡ Ok (cos_of (nominal_psi gcd gcdkm hs))) × (sin_answer (nominal_psi gcd gcdkm hs) ≡ Ok (sin_of (nominal_psi gcd gcdkm hs)))
