-- The paper's special values, by computation.
use mathlib.Core.Path.{◌≡◌, refl}
use mathlib.Core.Bool.{Bool, true, false}
use lib.IntN.{pos}
use lib.Ieee.{nan, inf, fin, of_bits, to_bits}
use Rattle.arcs.specs.Asin.{asin_of}
use Rattle.arcs.specs.Atan.{atan_of}
use Rattle.arcs.specs.Special.{signed_half_pi, ArcValues}

asin-zero : (s : Bool) → asin_of (fin s 0 (pos 0)) ≡ fin s 0 (pos 0)
unfolding asin_of of_bits to_bits
asin-zero true = refl
asin-zero false = refl

asin-one : (s : Bool) → asin_of (fin s 1 (pos 0)) ≡ signed_half_pi s
unfolding asin_of of_bits to_bits
asin-one true = refl
asin-one false = refl

asin-infinity : (s : Bool) → asin_of (inf s) ≡ nan
unfolding asin_of of_bits to_bits
asin-infinity true = refl
asin-infinity false = refl

atan-zero : (s : Bool) → atan_of (fin s 0 (pos 0)) ≡ fin s 0 (pos 0)
unfolding atan_of of_bits to_bits
atan-zero true = refl
atan-zero false = refl

atan-infinity : (s : Bool) → atan_of (inf s) ≡ signed_half_pi s
unfolding atan_of of_bits to_bits
atan-infinity true = refl
atan-infinity false = refl

pub arc-values : ArcValues
unfolding asin_of atan_of of_bits to_bits
arc-values =
    record {
      asin-zero = asin-zero;
      asin-one = asin-one;
      asin-infinity = asin-infinity;
      asin-nan = refl;
      atan-zero = atan-zero;
      atan-infinity = atan-infinity;
      atan-nan = refl;
    }
