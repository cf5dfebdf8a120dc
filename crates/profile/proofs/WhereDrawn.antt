-- The shapes of a slot are answered where the profile is not supplied, and there alone.
use mathlib.Core.Bool.{Bool, true, false}
use mathlib.Core.Path.{◌≡◌, refl, sym}
use Prim.Native.Nat.{ℕ}
use Rattle.std.specs.Prelude.{None, Some}
use Rattle.std.proofs.lemmas.Option.{none-some, same_Some}
use Rattle.layers.specs.declared.IonoState.{IonoState}
use Rattle.profile.specs.Draw.{drawn_of}
use Rattle.profile.specs.declared.slot_curves.Slot.{Slot}
use Rattle.profile.specs.declared.slot_curves.Drawn.{Drawn}
use Rattle.profile.specs.Lecden.{slot_at, supplied_of, drawn_by, slot_drawn}

none-by : (b : Bool) (p : Slot) → None ≡ drawn_by b p → b ≡ true
none-by true p e = refl
none-by false p e = absurd (none-some (drawn_of p) e)

some-by : (b : Bool) (p : Slot) (d : Drawn) → Some d ≡ drawn_by b p → (b ≡ false) × (d ≡ drawn_of p)
some-by true p d e = absurd (none-some d (sym e))
some-by false p d e = (refl, same_Some d (drawn_of p) e)

pub none_drawn : (s : IonoState) (k : ℕ) → None ≡ slot_drawn s k → supplied_of s ≡ true
unfolding slot_drawn
none_drawn s k e = none-by (supplied_of s) (slot_at s k) e

pub some_drawn : (s : IonoState) (k : ℕ) (d : Drawn) → Some d ≡ slot_drawn s k → (supplied_of s ≡ false) × (d ≡ drawn_of (slot_at s k))
unfolding slot_drawn
some_drawn s k d e = some-by (supplied_of s) (slot_at s k) d e
