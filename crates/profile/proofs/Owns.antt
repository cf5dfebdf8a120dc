-- `lecden` stores slot k for the owner, or finds `ielect` set, and k is k.
use mathlib.Core.Bool.{Bool, true, false}
use mathlib.Core.Path.{◌≡◌, refl, ap, ◌∙◌}
use Prim.Native.Nat.{ℕ}
use borrow.Author.Tests.{eq-eqb}
use Rattle.layers.specs.Owners.{owner_by, owner_of, answers_for, owned_by}
use Rattle.layers.specs.declared.IonoState.{IonoState}
use Rattle.layers.specs.declared.Owner.{Owner}
use Rattle.profile.specs.Lecden.{slot_written, supplied_of, lecden_by, lecden_of}
use Rattle.profile.specs.LecdenOwns.{LecdenOwner, LecdenOwned}

owner-by : (b : Bool) (s : IonoState) (k : ℕ) → s.ielect ≡ b → owner_of (lecden_by b s k) ≡ owner_by b (Owner.Slot k)
unfolding owner_of slot_written
owner-by true s k e = rw e
owner-by false s k e = rw e

pub lecden-owner : LecdenOwner
unfolding lecden_of supplied_of
lecden-owner s k = owner-by s.ielect s k refl

owned-by : (b : Bool) (k : ℕ) → answers_for (owner_by b (Owner.Slot k)) k ≡ true
owned-by true k = refl
owned-by false k = eq-eqb k k refl

pub lecden-owned : LecdenOwned
unfolding owned_by
lecden-owned s k = ap (λ (o : Owner). answers_for o k) (lecden-owner s k) ∙ owned-by s.ielect k
