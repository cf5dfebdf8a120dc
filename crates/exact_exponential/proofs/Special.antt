-- The patterns of the infinities and of -0.
use mathlib.Core.Path.{◌≡◌, refl}
use mathlib.Core.Bool.{true, false}
use Prim.Native.Nat.{◌^◌}
use lib.IntN.{pos}
use lib.Ieee.{inf, fin, binary32, odd, of_fields, of_bits}

pub an-inf : of_bits binary32 0x7f80_0000 ≡ inf false
unfolding of_bits of_fields
an-inf = refl

pub minus-inf : of_bits binary32 0xff80_0000 ≡ inf true
unfolding of_bits of_fields
minus-inf = refl

pub minus-zero : of_bits binary32 (2 ^ 31) ≡ fin true 0 (pos 0)
unfolding of_bits of_fields odd
minus-zero = refl
