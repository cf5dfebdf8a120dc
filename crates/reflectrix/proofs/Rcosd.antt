-- The forty values of `rcosd_of`, computed.
use mathlib.Core.Path.{◌≡◌, refl}
use mathlib.Core.List.{List, [], ◌∷◌, map}
use lib.Count.{count_leading_zeros, count_trailing_zeros}
use lib.Ieee.{Float, binary32, of_bits, of_fields, to_bits, mul, round, size, odd, units}
use Rattle.scalar.specs.F32.{◌*f◌}
use Rattle.constants.specs.Constants.{D2R, RZ}
use Rattle.waves.specs.SinCos.{cos_of, wave_bits, sine_at, ratio_of}
use Rattle.reflectrix.specs.Angles.{ANG}

unfoldable pub rcosds : List Float
rcosds = of_bits binary32 0x45c71000 ∷ of_bits binary32 0x45c70e0f ∷ of_bits binary32 0x45c7083d ∷ of_bits binary32 0x45c6f0f5 ∷ of_bits binary32 0x45c6ca29 ∷ of_bits binary32 0x45c693de ∷ of_bits binary32 0x45c64e15 ∷ of_bits binary32 0x45c5f8d6 ∷ of_bits binary32 0x45c5200f ∷ of_bits binary32 0x45c409cd ∷ of_bits binary32 0x45c2b667 ∷ of_bits binary32 0x45c12645 ∷ of_bits binary32 0x45bf59e5 ∷ of_bits binary32 0x45bd51d7 ∷ of_bits binary32 0x45bb0ebc ∷ of_bits binary32 0x45b8914a ∷ of_bits binary32 0x45b5da46 ∷ of_bits binary32 0x45b2ea8c ∷ of_bits binary32 0x45afc302 ∷ of_bits binary32 0x45ac64a7 ∷ of_bits binary32 0x45a8d088 ∷ of_bits binary32 0x45a507c2 ∷ of_bits binary32 0x45a10b82 ∷ of_bits binary32 0x459cdd07 ∷ of_bits binary32 0x45987da0 ∷ of_bits binary32 0x4593eea9 ∷ of_bits binary32 0x458f318e ∷ of_bits binary32 0x458a47cb ∷ of_bits binary32 0x458532e5 ∷ of_bits binary32 0x457fe8ea ∷ of_bits binary32 0x45751c38 ∷ of_bits binary32 0x456a0314 ∷ of_bits binary32 0x455ea0f1 ∷ of_bits binary32 0x45470fff ∷ of_bits binary32 0x45284140 ∷ of_bits binary32 0x45082ab2 ∷ of_bits binary32 0x44ce15ae ∷ of_bits binary32 0x448a4474 ∷ of_bits binary32 0x440acbae ∷ of_bits binary32 0x3f8e5c32 ∷ []

pub all : map (λ (a : Float). RZ *f cos_of (a *f D2R)) ANG ≡ rcosds
unfolding ANG cos_of wave_bits sine_at ratio_of of_bits of_fields to_bits mul round size odd units count_leading_zeros count_trailing_zeros rcosds
all = refl
