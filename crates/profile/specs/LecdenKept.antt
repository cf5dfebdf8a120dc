-- What `lecden` of slot k leaves as it was: all of the state but the slot's F1 height and semi-thickness, `fsecv[k]`, the profile, the rising mark and the owner.
use Rattle.std.specs.Prelude.{List, ◌≡◌, ◌≢◌, ℕ, ◌+◌, ◌*◌, length, Float}
use Rattle.scalar.specs.F32.{at}
use Rattle.layers.specs.declared.IonoState.{IonoState}

-- the same numbers at every place but p
pub record SameBut (l m : List Float) (p : ℕ) : Type 0 where
  pub long : length m ≡ length l
  pub same : (i : ℕ) → i ≢ p → at m i ≡ at l i

pub record LecdenKept (s r : IonoState) (k : ℕ) : Type 0 where
  pub fi-kept : r.fi ≡ s.fi
  pub yi-kept : SameBut s.yi r.yi (3 * k + 1)
  pub hi-kept : SameBut s.hi r.hi (3 * k + 1)
  pub fsecv-kept : SameBut s.fsecv r.fsecv k
  pub km-kept : r.km ≡ s.km
  pub kfx-kept : r.kfx ≡ s.kfx
  pub iedp-kept : r.iedp ≡ s.iedp
  pub ielect-kept : r.ielect ≡ s.ielect
  pub exact-kept : r.exact_virtual_height ≡ s.exact_virtual_height
