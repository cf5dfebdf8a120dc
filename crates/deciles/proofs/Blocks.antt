-- The time block that is looked up: none exactly where its number is 0.
use Rattle.std.specs.Prelude.{◌≡◌, ℕ, zero, suc, Some, Ok, Err, ◌<◌}
use Rattle.std.specs.Option.{ok_or}
use Rattle.std.proofs.Common.{arith, refl}
use Rattle.refusal.specs.declared.Refusal.{Refusal}
use Rattle.deciles.specs.F2dis.{block_of}

pub some_block : (n : ℕ) → 0 < n → Some n ≡ block_of n
some_block zero h = absurd (omega arith)
some_block (suc n) h = refl

-- a block that is found is the number, which is not 0
pub found_block : (k n : ℕ) (r : Refusal) → Ok k ≡ ok_or (block_of n) r → (k ≡ n) × (0 < n)
found_block k zero r e = absurd (cc)
found_block k (suc n) r e = (cc, omega arith)

pub no_block : (n : ℕ) (r s : Refusal) → Err s ≡ ok_or (block_of n) r → (n ≡ 0) × (s ≡ r)
no_block zero r s e = (refl, cc)
no_block (suc n) r s e = absurd (cc)
