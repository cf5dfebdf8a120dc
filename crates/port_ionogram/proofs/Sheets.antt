-- A slot sheet that is refused leaves every cell.
use mathlib.Core.Bool.{Bool, true, false}
use mathlib.Core.List.{List}
use mathlib.Core.Path.{◌≡◌, refl}
use Prim.Native.Nat.{ℕ}
use lib.Dec.{leb}
use lib.IntN.{ℤ}
use Rattle.std.proofs.Common.{Err}
use Rattle.refusal.specs.declared.Refusal.{Refusal}
use Rattle.layers.specs.declared.IonoState.{IonoState}
use Rattle.layers.specs.declared.LayerMuf.{LayerMuf}
use Rattle.heights.specs.Gethp.{gethp_of}
use Rattle.reflectrix.specs.Fobby.{room_for}
use Rattle.slot_sheet.specs.Sheet.{sheet_by, sheet_cells_by, slot_sheet_with, slot_sheet_of, sheet_cells_with, sheet_cells_of}

refused-by : (a b : Bool) (s : IonoState) (k nang : ℕ) (layers : List LayerMuf) (cells : List ℤ) (r : Refusal) → sheet_by a b gethp_of s k layers ≡ Err r → sheet_cells_by a b gethp_of s k nang cells ≡ cells
refused-by true true s k nang layers cells r e = cc
refused-by true false s k nang layers cells r e = refl
refused-by false b s k nang layers cells r e = refl

pub refused_leaves : (s : IonoState) (k nang : ℕ) (layers : List LayerMuf) (cells : List ℤ) (r : Refusal) → slot_sheet_of s k nang layers cells ≡ Err r → sheet_cells_of s k nang cells ≡ cells
unfolding slot_sheet_with sheet_cells_with
refused_leaves s k nang layers cells r e = refused-by (leb k 2) (room_for nang cells) s k nang layers cells r e
