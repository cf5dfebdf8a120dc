-- The sign's bit of b and the pattern of a number from 2 ^ 30 to 2 ^ 64 fit in 32 bits together: the pattern is below that of infinity.
use mathlib.Core.Path.{◌≡◌}
use Prim.Native.Nat.{ℕ, ◌+◌, ◌*◌, ◌/◌, ◌^◌, ◌<◌, ◌≤◌}
use native.Mathlib.Omega.{arith}
use mir.Syntax.{w32}
use mir.Val.{Fits}
use Rattle.fixed.specs.Fixed.{pattern}
use Rattle.fixed.proofs.Round.{pattern_lt}

abbrev pub sign : ℕ → ℕ
sign b = b / 2 ^ 31 * 2 ^ 31

pub sign_fits : (b s r : ℕ) → b < 2 ^ 32 → r ≡ pattern s → 2 ^ 30 ≤ s → s < 2 ^ 64 → Fits w32 (sign b + r)
sign_fits b s r f e h k = go (pattern s) e (pattern_lt s h k)
  where
    go : (p : ℕ) → r ≡ p → p < 255 * 2 ^ 23 → Fits w32 (sign b + r)
    go p u v = omega arith
