-- A zero of the format without its sign is +0. Assumes nothing.
use mathlib.Core.Path.{◌≡◌, refl, sym, ap}
use mathlib.Core.Bool.{true, false, false≢true}
use Prim.Native.Nat.{ℕ, zero, suc, ◌*◌, ◌^◌, ◌<◌}
use native.Mathlib.Nat.{mul-pos, pow-succ'}
use native.Mathlib.Omega.{arith}
use lib.IntN.{ℤ, pos, negsuc}
use lib.Dec.{T, eqb→eq}
use lib.Pow.{pow_pos}
use lib.Ieee.{Float, nan, inf, fin, binary32, up, down, eq, fits, of_bits}
use lib.Ieee.Fits.{up_pos}
use borrow.Author.Tests.{eqb-true}
use Rattle.std.specs.Cmp.{first_so}
use Rattle.scalar.specs.Scalar.{abs_of}

pub plus-zero : of_bits binary32 0 ≡ fin false 0 (pos 0)
unfolding of_bits
plus-zero = refl

-- the only zeros of a format are fin s 0 (pos 0)
two_up : (k : ℕ) → 2 ^ suc k ≡ 1 → ⊥
two_up k e = let p : 0 < 2 ^ k = pow_pos k in let q : 2 ^ suc k ≡ 2 * 2 ^ k = pow-succ' 2 k in omega arith

zero_exponent : (e : ℤ) → up e * down e ≡ 1 → e ≡ pos 0
zero_exponent (pos zero) h = refl
zero_exponent (pos (suc k)) h = absurd (two_up k (omega arith))
zero_exponent (negsuc k) h = absurd (two_up k (omega arith))

pub at_zero : (x : Float) → T (fits binary32 x) → eq x (fin false 0 (pos 0)) ≡ true → fin false 0 (pos 0) ≡ abs_of x
unfolding eq abs_of fits
at_zero nan h e = absurd (false≢true e)
at_zero (inf s) h e = absurd (false≢true e)
at_zero (fin s zero d) h e = ap (λ (y : ℤ). fin false 0 y) (sym (zero_exponent d (eqb→eq (up d * down d) 1 h)))
at_zero (fin s (suc m) d) h e = absurd (some (suc m * up d * 1) (0 * 1 * down d) (mul-pos (mul-pos (omega arith) (up_pos d)) (omega arith)) (omega arith) (eqb-true (suc m * up d * 1) (0 * 1 * down d) (first_so _ _ e)))
  where
    some : (a b : ℕ) → 0 < a → b ≡ 0 → a ≡ b → ⊥
    some a b p z e = omega arith
