-- The special values by computation; outside -4 to 4 the comparison is the pattern's test (`outside-is-pattern`), which answers NaN.
use mathlib.Core.Path.{◌≡◌, refl, sym, ap, ◌∙◌, subst}
use mathlib.Core.Bool.{Bool, true, false, ◌||◌, true≢false}
use Prim.Native.Nat.{◌%◌, ◌^◌}
use lib.Count.{count_trailing_zeros}
use lib.Dec.{T, ltb→lt, lit<}
use lib.IntN.{pos}
use lib.Ieee.{Float, nan, inf, fin, binary32, odd, of_fields, of_bits, to_bits, fits, is_nan, lt, neg}
use Rattle.scalar.specs.F32.{◌<f◌, ◌>f◌, negf}
use Rattle.scalar.specs.Literals.{f4}
use Rattle.scalar.proofs.Nan.{nan_pattern}
use Rattle.series.specs.Series.{Wave, sine, cosine}
use Rattle.waves.specs.SinCos.{wave_bits, sin_of, cos_of}
use Rattle.waves.specs.Special.{WaveValues}
use Rattle.waves.proofs.Patterns.{outside-bits}
use Rattle.waves.proofs.Outside.{outside-is-pattern}

sin-zero : (s : Bool) → sin_of (fin s 0 (pos 0)) ≡ fin s 0 (pos 0)
unfolding sin_of of_bits to_bits
sin-zero true = refl
sin-zero false = refl

cos-zero : (s : Bool) → cos_of (fin s 0 (pos 0)) ≡ fin false 1 (pos 0)
unfolding cos_of of_bits of_fields odd count_trailing_zeros to_bits
cos-zero true = refl
cos-zero false = refl

sin-infinity : (s : Bool) → sin_of (inf s) ≡ nan
unfolding sin_of of_bits to_bits
sin-infinity true = refl
sin-infinity false = refl

cos-infinity : (s : Bool) → cos_of (inf s) ≡ nan
unfolding cos_of of_bits to_bits
cos-infinity true = refl
cos-infinity false = refl

-- ---- outside
is_number : (x : Float) → ((x <f negf f4) || (x >f f4)) ≡ true → is_nan x ≡ false
unfolding lt is_nan of_bits neg
is_number nan h = absurd (true≢false (sym h))
is_number (inf s) h = refl
is_number (fin s m e) h = refl

wave-outside : (w : Wave) (x : Float) → T (fits binary32 x) → ((x <f negf f4) || (x >f f4)) ≡ true → of_bits binary32 (wave_bits w (to_bits binary32 x)) ≡ nan
wave-outside w x F h =
    ap (of_bits binary32) (outside-bits w (to_bits binary32 x) (ltb→lt 0x4080_0000 (to_bits binary32 x % 2 ^ 31) (subst T (sym h ∙ outside-is-pattern x F (is_number x h)) tt)))
    ∙ nan_pattern 0x7fc0_0000 (lit< tt)

sin-outside : (x : Float) → T (fits binary32 x) → ((x <f negf f4) || (x >f f4)) ≡ true → sin_of x ≡ nan
unfolding sin_of
sin-outside x F h = wave-outside sine x F h

cos-outside : (x : Float) → T (fits binary32 x) → ((x <f negf f4) || (x >f f4)) ≡ true → cos_of x ≡ nan
unfolding cos_of
cos-outside x F h = wave-outside cosine x F h

pub wave-values : WaveValues
unfolding sin_of cos_of of_bits to_bits
wave-values =
    record {
      sin-zero = sin-zero;
      sin-infinity = sin-infinity;
      sin-nan = refl;
      sin-outside = sin-outside;
      cos-zero = cos-zero;
      cos-infinity = cos-infinity;
      cos-nan = refl;
      cos-outside = cos-outside;
    }
