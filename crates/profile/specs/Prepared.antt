-- What `lecden` of slot k works out is a function of that slot alone: the slot as it leaves it, the heights and the densities; the owner is the slot. The other slots are as they were.
use Rattle.std.specs.Prelude.{◌≡◌, ◌≢◌, ℕ, length}
use Rattle.layers.specs.declared.IonoState.{IonoState}
use Rattle.layers.specs.declared.Owner.{Owner}
use Rattle.profile.specs.Rising.{rises_of}
use Rattle.profile.specs.Draw.{prepared_of, htr_of, fnsq_of}
use Rattle.profile.specs.Lecden.{slot_at}

-- the tables' lengths, as every state of the code has them
pub record Shaped (s : IonoState) : Type 0 where
  pub yi-long : length s.yi ≡ 15
  pub hi-long : length s.hi ≡ 15
  pub fsecv-long : length s.fsecv ≡ 3

pub record Prepared (s r : IonoState) (k : ℕ) : Type 0 where
  pub own : slot_at r k ≡ prepared_of (slot_at s k)
  pub others : (j : ℕ) → j ≢ k → slot_at r j ≡ slot_at s j
  pub heights : r.htr ≡ htr_of (slot_at s k)
  pub densities : r.fnsq ≡ fnsq_of (slot_at s k)
  pub mark : r.htr_rises ≡ rises_of (htr_of (slot_at s k))
  pub owner : r.owner ≡ Owner.Slot k
