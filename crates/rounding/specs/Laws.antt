-- What is claimed of rounding, in either format: the logic's `round` is IEEE 754's roundTiesToEven and nothing else is, and each operation on finite values is its exact result so rounded.
-- A finite value is `fin s m e`, with the sign s (true is minus) and the size m * 2 ^ e, which is the fraction m * up e / down e.
use Rattle.std.specs.Prelude.{ℕ, suc, ◌-◌, ◌*◌, ◌^◌, ◌<◌, ◌≡◌, Bool, not, ℤ, nat_abs, Float}
use Rattle.std.specs.Float.{fin, Format, binary32}
use Rattle.std.specs.Float.Ieee.{unlike, up, down, round, add, sub, mul, div, of_int}
use Rattle.rounding.specs.TiesToEven.{TiesToEven, limit, sum_size, sum_sign, is_minus}

-- for every sign, numerator and denominator above 0
abbrev pub RoundTiesToEven : Type 0
RoundTiesToEven = (f : Format) (s : Bool) (a c : ℕ) → 0 < c → TiesToEven f s a c (round f s a c)

-- what meets `TiesToEven` is `round`
abbrev pub OnlyRound : Type 0
OnlyRound = (f : Format) (s : Bool) (a c : ℕ) (r : Float) → 0 < c → TiesToEven f s a c r → r ≡ round f s a c

-- the number that the standard names
abbrev pub LimitBinary32 : Type 0
LimitBinary32 = limit binary32 ≡ 2 ^ 128 - 2 ^ 103

abbrev pub AddRounds : Type 0
AddRounds =
    (f : Format) (s : Bool) (m : ℕ) (e : ℤ) (t : Bool) (n : ℕ) (d : ℤ)
    → TiesToEven f (sum_sign s (m * up e * down d) t (n * up d * down e)) (sum_size s (m * up e * down d) t (n * up d * down e)) (down e * down d) (add f (fin s m e) (fin t n d))

-- x - y is x + -y
abbrev pub SubRounds : Type 0
SubRounds =
    (f : Format) (s : Bool) (m : ℕ) (e : ℤ) (t : Bool) (n : ℕ) (d : ℤ)
    → TiesToEven f (sum_sign s (m * up e * down d) (not t) (n * up d * down e)) (sum_size s (m * up e * down d) (not t) (n * up d * down e)) (down e * down d) (sub f (fin s m e) (fin t n d))

abbrev pub MulRounds : Type 0
MulRounds = (f : Format) (s : Bool) (m : ℕ) (e : ℤ) (t : Bool) (n : ℕ) (d : ℤ) → TiesToEven f (unlike s t) (m * up e * (n * up d)) (down e * down d) (mul f (fin s m e) (fin t n d))

-- the divisor is not a zero
abbrev pub DivRounds : Type 0
DivRounds = (f : Format) (s : Bool) (m : ℕ) (e : ℤ) (t : Bool) (n : ℕ) (d : ℤ) → TiesToEven f (unlike s t) (m * up e * down d) (suc n * up d * down e) (div f (fin s m e) (fin t (suc n) d))

-- the float of an integer of either sign
abbrev pub OfIntRounds : Type 0
OfIntRounds = (f : Format) (z : ℤ) → TiesToEven f (is_minus z) (nat_abs z) 1 (of_int f z)
