-- Answered, a sheet leaves what `lecden` of its slot leaves; refused, its refusal is 6 or 8.
use mathlib.Core.Bool.{Bool, true, false}
use mathlib.Core.List.{List}
use mathlib.Core.Path.{◌≡◌, refl}
use Prim.Native.Nat.{ℕ}
use lib.Dec.{leb}
use Rattle.std.proofs.Common.{Result, Ok, Err}
use Rattle.refusal.specs.declared.Refusal.{Refusal}
use Rattle.layers.specs.Owners.{owner_by, owner_of}
use Rattle.layers.specs.declared.IonoState.{IonoState}
use Rattle.layers.specs.declared.LayerMuf.{LayerMuf}
use Rattle.layers.specs.declared.Owner.{Owner}
use Rattle.profile.proofs.Owns.{lecden-owner}
use Rattle.heights.specs.Gethp.{gethp_of}
use Rattle.reflectrix.specs.Fobby.{room_for}
use Rattle.losses.specs.Alosfv.{alosfv_of}
use Rattle.reflectrix.specs.declared.Ionogram.{Ionogram}
use Rattle.sounding.specs.Genion.{genion_answer}
use Rattle.sounding.proofs.Prepared.{genion-prepared}
use Rattle.slot_sheet.specs.Sheet.{sheet_by, slot_sheet_with}
use Rattle.slot_sheet.specs.declared.SlotSheet.{SlotSheet}
use Rattle.slot_sheet.specs.Owned.{SheetNeverRefused19, SheetOwned, SheetByGenion}

-- of two answers that are one, so are the values
answered_is : {a b : SlotSheet} → ◌≡◌ {A = Result SlotSheet Refusal} (Ok a) (Ok b) → a ≡ b
answered_is e = cc

never-by : (a b : Bool) (s : IonoState) (k : ℕ) (layers : List LayerMuf) → sheet_by a b gethp_of s k layers ≡ Err Refusal.Owner → ⊥
never-by true true s k layers e = cc
never-by true false s k layers e = cc
never-by false b s k layers e = cc

pub sheet-never-refused-19 : SheetNeverRefused19
unfolding slot_sheet_with
sheet-never-refused-19 s k nang layers cells e = never-by (leb k 2) (room_for nang cells) s k layers e

owned-by : (a b : Bool) (s : IonoState) (k : ℕ) (layers : List LayerMuf) (sheet : SlotSheet) → sheet_by a b gethp_of s k layers ≡ Ok sheet → owner_of sheet.state ≡ owner_by s.ielect (Owner.Slot k)
owned-by true true s k layers sheet e = rw (← answered_is e) (lecden-owner s k)
owned-by true false s k layers sheet e = cc
owned-by false b s k layers sheet e = cc

pub sheet-owned : SheetOwned
unfolding slot_sheet_with
sheet-owned s k nang layers cells sheet e = owned-by (leb k 2) (room_for nang cells) s k layers sheet e

genion-by : (a b : Bool) (s : IonoState) (k : ℕ) (layers : List LayerMuf) (sheet : SlotSheet) → leb k 2 ≡ a → sheet_by a b gethp_of s k layers ≡ Ok sheet
    → (ion : Ionogram) × (genion_answer sheet.state k ≡ Ok ion) × (sheet.ion ≡ alosfv_of sheet.state k ion layers)
genion-by true true s k layers sheet small e = rw (← answered_is e) (_, genion-prepared s k small, refl)
genion-by true false s k layers sheet small e = absurd cc
genion-by false b s k layers sheet small e = absurd cc

pub sheet-by-genion : SheetByGenion
unfolding slot_sheet_with
sheet-by-genion s k nang layers cells sheet e = genion-by (leb k 2) (room_for nang cells) s k layers sheet refl e
