-- An i32 and its word: below 2^31 the same number, else 2^32 less.
use mathlib.Core.Bool.{Bool, true, false}
use mathlib.Core.Path.{◌≡◌, refl, ap}
use Prim.Native.Nat.{ℕ, ◌<◌}
use native.Mathlib.Omega.{arith}
use lib.Dec.{ltb}
use lib.IntN.{ℤ, pos, negsuc}
use lib.Signed.{mag}
use mir.Val.{to_z, of_z}
use mir.Syntax.{w32}
use mir.Facts.{to_z-of_z}
use Rattle.port_state.specs.Words.{signed_by, signed_of, word_of}

signed-by : (b : Bool) (n : ℕ) → ltb n 0x8000_0000 ≡ b → to_z w32 n ≡ signed_by b n
signed-by true n e = rw e
signed-by false n e = rw e (ap negsuc (omega arith))

pub signed_is : (n : ℕ) → to_z w32 n ≡ signed_of n
unfolding signed_of
signed_is n = signed-by (ltb n 0x8000_0000) n refl

pub word_is : (z : ℤ) → of_z w32 z ≡ word_of z
unfolding word_of
word_is (pos n) = refl
word_is (negsuc n) = omega arith

pub read_back : (z : ℤ) → mag z < 0x8000_0000 → to_z w32 (of_z w32 z) ≡ z
read_back z h = to_z-of_z {w = w32} {z = z} (record { sfits = h })
