-- A slot sheet makes its own profile: it is never refused 19, the profile that it leaves is its slot's or supplied, and its rows are those that `genion` itself answers there.
use Rattle.std.specs.Prelude.{List, ◌≡◌, Ok, Err, ℕ, ℤ}
use Rattle.refusal.specs.declared.Refusal.{Refusal}
use Rattle.layers.specs.Owners.{owner_by, owner_of}
use Rattle.layers.specs.declared.IonoState.{IonoState}
use Rattle.layers.specs.declared.LayerMuf.{LayerMuf}
use Rattle.layers.specs.declared.Owner.{Owner}
use Rattle.losses.specs.Alosfv.{alosfv_of}
use Rattle.reflectrix.specs.declared.Ionogram.{Ionogram}
use Rattle.sounding.specs.Genion.{genion_answer}
use Rattle.slot_sheet.specs.Sheet.{slot_sheet_of}
use Rattle.slot_sheet.specs.declared.SlotSheet.{SlotSheet}

-- what `sheet-never-refused-19` says
abbrev pub SheetNeverRefused19 : Type 0
SheetNeverRefused19 = (s : IonoState) (k nang : ℕ) (layers : List LayerMuf) (cells : List ℤ) → slot_sheet_of s k nang layers cells ≡ Err Refusal.Owner → ⊥

-- what `sheet-owned` says
abbrev pub SheetOwned : Type 0
SheetOwned =
    (s : IonoState) (k nang : ℕ) (layers : List LayerMuf) (cells : List ℤ) (sheet : SlotSheet) → slot_sheet_of s k nang layers cells ≡ Ok sheet
    → owner_of sheet.state ≡ owner_by s.ielect (Owner.Slot k)

-- what `sheet-by-genion` says
abbrev pub SheetByGenion : Type 0
SheetByGenion =
    (s : IonoState) (k nang : ℕ) (layers : List LayerMuf) (cells : List ℤ) (sheet : SlotSheet) → slot_sheet_of s k nang layers cells ≡ Ok sheet
    → (ion : Ionogram) × (genion_answer sheet.state k ≡ Ok ion) × (sheet.ion ≡ alosfv_of sheet.state k ion layers)
