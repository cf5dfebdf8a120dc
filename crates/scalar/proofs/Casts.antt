-- A whole number, such as a float cut, that two tests hold within 1 to `high` is a natural number of that range, so it may be cast to a usize and is then its own size.
use mathlib.Core.Path.{◌≡◌}
use mathlib.Core.Bool.{false}
use Prim.Native.Nat.{ℕ, ◌<◌, ◌≤◌}
use native.Mathlib.Omega.{arith}
use lib.Dec.{T}
use lib.IntN.{ℤ, pos, negsuc, nat_abs}
use lib.Signed.{lt_z, non_neg}
use mir.Val.{Fits}
use mir.Syntax.{w64}
use mir.Facts.{Fits-le, Fits-lit}
use borrow.Author.Tests.{ltb-false}

pub between : (z : ℤ) (high : ℕ) → lt_z z (pos 1) ≡ false → lt_z (pos high) z ≡ false → (0 < nat_abs z) × (nat_abs z ≤ high)
between (pos n) high p q = (ltb-false n 1 p, ltb-false high n q)
between (negsuc n) high p q = let e : ◌≡◌ {A = ℕ} 0 1 = cc in (omega arith, omega arith)

non-negative : (z : ℤ) → lt_z z (pos 1) ≡ false → T (non_neg z)
non-negative (pos n) p = tt
non-negative (negsuc n) p = let e : ◌≡◌ {A = ℕ} 0 1 = cc in omega arith

pub castable : (z : ℤ) (high : ℕ) → high < 256 → lt_z z (pos 1) ≡ false → lt_z (pos high) z ≡ false → T (non_neg z) × Fits w64 (nat_abs z)
castable z high h p q = (non-negative z p, let b = (between z high p q).1 in Fits-le {n = 255} (omega arith) (Fits-lit tt))
