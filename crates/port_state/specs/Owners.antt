-- An owner as a word: 0 nobody, 1 to 3 the slots 0 to 2, 4 supplied. A word that is no owner counts as none.
use Rattle.std.specs.Prelude.{cond, ◌&&◌, ◌≡◌, ℕ, ◌+◌, ◌-◌, ◌<◌, eqb, leb, ltb}
use Rattle.layers.specs.Owners.{owner_slot}
use Rattle.layers.specs.declared.Owner.{Owner}

unfoldable pub owner_of_word : ℕ → Owner
owner_of_word w = cond (eqb w 4) Owner.Supplied (cond (leb 1 w && leb w 3) (Owner.Slot (w - 1)) Owner.None)

-- a slot above 2 has no word: no call makes one the owner
abbrev pub slot_owner_word : ℕ → ℕ
slot_owner_word k = cond (ltb k 3) (k + 1) 0

abbrev pub word_of_owner : Owner → ℕ
word_of_owner Owner.None = 0
word_of_owner (Owner.Slot k) = slot_owner_word k
word_of_owner Owner.Supplied = 4

-- what `owner-read-back` says: an owner that is a slot below 3, or none, or supplied, is read back
abbrev pub OwnerReadBack : Type 0
OwnerReadBack = (o : Owner) → owner_slot o < 3 → owner_of_word (word_of_owner o) ≡ o
