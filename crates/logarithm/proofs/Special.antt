-- The paper's special values, by computation.
use mathlib.Core.Path.{◌≡◌, refl}
use mathlib.Core.Bool.{Bool, true, false}
use lib.Count.{count_trailing_zeros}
use lib.IntN.{pos}
use lib.Ieee.{inf, fin, odd, of_fields, of_bits, to_bits}
use Rattle.exponential.specs.Exp.{exp_of}
use Rattle.logarithm.specs.Ln.{ln_of}
use Rattle.logarithm.specs.Special.{ExponentialValues}

exp-zero : (s : Bool) → exp_of (fin s 0 (pos 0)) ≡ fin false 1 (pos 0)
unfolding exp_of of_bits of_fields odd count_trailing_zeros to_bits
exp-zero true = refl
exp-zero false = refl

ln-zero : (s : Bool) → ln_of (fin s 0 (pos 0)) ≡ inf true
unfolding ln_of of_bits to_bits
ln-zero true = refl
ln-zero false = refl

pub exponential-values : ExponentialValues
unfolding exp_of ln_of of_bits of_fields odd count_trailing_zeros to_bits
exponential-values =
    record {
      exp-infinity = refl;
      exp-minus-infinity = refl;
      exp-zero = exp-zero;
      exp-nan = refl;
      ln-infinity = refl;
      ln-minus-infinity = refl;
      ln-zero = ln-zero;
      ln-one = refl;
      ln-nan = refl;
    }
