-- The slot sheet: `lecden`, `genion`, `fobby` and `alosfv` of slot k in turn, with a layer table given, and the marks of the slot as `lecden` finds it; `find` is the way of finding heights off the profile. The paper's refusals: 6 for a slot above 2, then 8 for over 40 angles or fewer than 30 cells an angle.
use Rattle.std.specs.Prelude.{Bool, true, false, Result, Ok, Err, List, ℕ, leb, ℤ}
use Rattle.refusal.specs.declared.Refusal.{Refusal}
use Rattle.layers.specs.declared.IonoState.{IonoState}
use Rattle.layers.specs.declared.LayerMuf.{LayerMuf}
use Rattle.profile.specs.Lecden.{lecden_of}
use Rattle.profile.specs.Marks.{marks_of}
use Rattle.heights.specs.Gethp.{Finder, gethp_of}
use Rattle.reflectrix.specs.Fobby.{angles_into, room_for}
use Rattle.losses.specs.Alosfv.{alosfv_of}
use Rattle.sounding.specs.Genion.{genion_with}
use Rattle.slot_sheet.specs.declared.SlotSheet.{SlotSheet}

-- is the slot number at most 2, is there room
abbrev pub sheet_by : Bool → Bool → Finder → IonoState → ℕ → List LayerMuf → Result SlotSheet Refusal
sheet_by true true find s k layers =
    let t = lecden_of s k in
    Ok (record { state = t; ion = alosfv_of t k (genion_with find t k) layers; marks = marks_of s k })
sheet_by true false find s k layers = Err Refusal.Reflectrix
sheet_by false room find s k layers = Err Refusal.SlotNumber

-- the reflectrix is of the rows before their loss factors; a refused call leaves every cell, an answered one those past the last angle
abbrev pub sheet_cells_by : Bool → Bool → Finder → IonoState → ℕ → ℕ → List ℤ → List ℤ
sheet_cells_by true true find s k nang cells = angles_into (genion_with find (lecden_of s k) k) cells nang
sheet_cells_by true false find s k nang cells = cells
sheet_cells_by false room find s k nang cells = cells

unfoldable pub slot_sheet_with : Finder → IonoState → ℕ → ℕ → List LayerMuf → List ℤ → Result SlotSheet Refusal
slot_sheet_with find s k nang layers cells = sheet_by (leb k 2) (room_for nang cells) find s k layers

abbrev pub slot_sheet_of : IonoState → ℕ → ℕ → List LayerMuf → List ℤ → Result SlotSheet Refusal
slot_sheet_of = slot_sheet_with gethp_of

-- what the lent cells hold afterwards
unfoldable pub sheet_cells_with : Finder → IonoState → ℕ → ℕ → List ℤ → List ℤ
sheet_cells_with find s k nang cells = sheet_cells_by (leb k 2) (room_for nang cells) find s k nang cells

abbrev pub sheet_cells_of : IonoState → ℕ → ℕ → List ℤ → List ℤ
sheet_cells_of = sheet_cells_with gethp_of
