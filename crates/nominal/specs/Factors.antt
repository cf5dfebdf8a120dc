-- The parts of `nommuf` that are numbers alone.
use Rattle.std.specs.Prelude.{Bool, cond, ◌&&◌, List, ℕ, zero, suc, eqb, Float}
use Rattle.scalar.specs.F32.{◌+f◌, ◌-f◌, ◌*f◌, ◌<f◌, ◌≤f◌, ◌>f◌, ◌≥f◌, at}
use Rattle.scalar.specs.Literals.{f1, f1_1, f16, f24}
use Rattle.layers.specs.Rules.{count_taken}
use Rattle.nominal.specs.FactorLiterals.{AE, AF, f0_2085, f1_02}

-- v = v * arc + c for each c of a[..n], the last first
unfoldable pub horner_of : List Float → Float → ℕ → Float → Float
horner_of a arc zero v = v
horner_of a arc (suc n) v = horner_of a arc n (v *f arc +f at a n)

-- the E layer's distance factor, at arc hundreds of miles; of a NaN 1.02
unfoldable pub elfc_of : Float → Float
elfc_of arc = cond (arc <f f16) (horner_of AE arc 6 (at AE 6) *f arc +f f0_2085) f1_02

-- the F2 layer's; of a NaN NaN
unfoldable pub flfc_of : Float → Float
flfc_of arc = cond (f24 ≤f arc) f1 (horner_of AF arc 6 (at AF 6) *f arc)

-- a point's turn in the lowest critical frequency of E
abbrev pub ec_step : Float → Float → Float
ec_step ec f = cond (ec >f f) f ec

-- the MUF of F2 at a point, of its critical frequency fi2 and its F2M3
unfoldable pub fmuf_of : Float → Float → Float → Float
fmuf_of fi2 m3 flfc =
    let four = m3 *f fi2 *f f1_1 in
    fi2 +f flfc *f (four -f fi2)

-- and its turn in the lowest
abbrev pub f2_step : Float → Float → Float
f2_step f2muf fmuf = cond (fmuf <f f2muf) fmuf f2muf

-- f2muf where either is NaN
unfoldable pub allmuf_of : Float → Float → Float
allmuf_of emuf f2muf = cond (emuf ≥f f2muf) emuf f2muf

-- 5: 1 to 5 points, and an F2M3 for each; the list by its length
unfoldable pub counts_agree : ℕ → ℕ → Bool
counts_agree km f2m3s = count_taken km && eqb f2m3s km
