-- A whole number clamped to 1 to 8 is the definition's, by cases on its tests.
use Rattle.std.specs.Prelude.{Bool, true, false, cond, ◌≡◌, ℕ, ℤ, pos, negsuc, nat_abs, ltb}
use Rattle.std.specs.Int.{int_max, int_min}
use Rattle.std.specs.Int.Signed.{lt_z}
use Rattle.std.proofs.Common.{arith, refl}
use borrow.Author.Tests.{ltb-true}
use Rattle.deciles.specs.F2dis.{clamp_by}

-- is it below 1, is it above 8
by_tests : (below above : Bool) (n : ℕ) → ltb n 1 ≡ below → ltb 8 n ≡ above → nat_abs (int_max (pos 1) (cond above (pos 8) (pos n))) ≡ clamp_by below above (pos n)
by_tests true true n p q = let a = ltb-true n 1 p in let b = ltb-true 8 n q in absurd (omega arith)
by_tests true false n p q = rw p
by_tests false true n p q = refl
by_tests false false n p q = rw p

pub clamped-by : (z : ℤ) → nat_abs (int_max (pos 1) (int_min z (pos 8))) ≡ clamp_by (lt_z z (pos 1)) (lt_z (pos 8) z) z
clamped-by (pos n) = by_tests _ _ n refl refl
clamped-by (negsuc n) = refl
