-- What `ionset` leaves as it was: all but the three tables, whose lengths stay, kfx, and the owner unless the profile is supplied.
use Rattle.std.specs.Prelude.{true, ◌≡◌, length}
use Rattle.layers.specs.declared.IonoState.{IonoState}

pub record IonsetKept (s r : IonoState) : Type 0 where
  pub fi-long : length r.fi ≡ length s.fi
  pub yi-long : length r.yi ≡ length s.yi
  pub hi-long : length r.hi ≡ length s.hi
  pub km-kept : r.km ≡ s.km
  pub htr-kept : r.htr ≡ s.htr
  pub fnsq-kept : r.fnsq ≡ s.fnsq
  pub mark-kept : r.htr_rises ≡ s.htr_rises
  pub fsecv-kept : r.fsecv ≡ s.fsecv
  pub iedp-kept : r.iedp ≡ s.iedp
  pub ielect-kept : r.ielect ≡ s.ielect
  pub owner-kept : s.ielect ≡ true → r.owner ≡ s.owner
  pub exact-kept : r.exact_virtual_height ≡ s.exact_virtual_height
