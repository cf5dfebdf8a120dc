-- `lecden` builds its state by four setters, none of which touches what `LecdenKept` lists.
use mathlib.Core.Bool.{Bool, true, false}
use mathlib.Core.List.{List}
use mathlib.Core.Path.{◌≡◌, refl}
use Prim.Native.Nat.{ℕ}
use lib.ListN.{set, length-set}
use lib.Seq.{get_or-set_other}
use lib.Ieee.{Float, nan}
use Rattle.layers.specs.declared.IonoState.{IonoState}
use Rattle.profile.specs.Lecden.{slot_written, supplied_of, lecden_by, lecden_of}
use Rattle.profile.specs.LecdenKept.{SameBut, LecdenKept}

unchanged : (l : List Float) (p : ℕ) → SameBut l l p
unchanged l p = record { long = refl; same = λ i h. refl }

one_set : (l : List Float) (p : ℕ) (x : Float) → SameBut l (set l p x) p
one_set l p x = record { long = length-set l p x; same = λ i h. get_or-set_other l p i x nan h }

by-supply : (b : Bool) (s : IonoState) (k : ℕ) → LecdenKept s (lecden_by b s k) k
unfolding slot_written
by-supply true s k =
    record { fi-kept = refl; yi-kept = unchanged _ _; hi-kept = unchanged _ _; fsecv-kept = unchanged _ _; km-kept = refl; kfx-kept = refl; iedp-kept = refl; ielect-kept = refl; exact-kept = refl }
by-supply false s k =
    record { fi-kept = refl; yi-kept = one_set _ _ _; hi-kept = one_set _ _ _; fsecv-kept = one_set _ _ _; km-kept = refl; kfx-kept = refl; iedp-kept = refl; ielect-kept = refl; exact-kept = refl }

pub lecden-keeps : (s : IonoState) (k : ℕ) → LecdenKept s (lecden_of s k) k
unfolding lecden_of
lecden-keeps s k = by-supply (supplied_of s) s k

pub lecden-supplied : (s : IonoState) (k : ℕ) → s.ielect ≡ true → lecden_of s k ≡ s
unfolding lecden_of supplied_of
lecden-supplied s k e = rw e
