-- Which refusals the two programs answer, and no other; and what stands in an answered sheet's first line beside the MUFs: mode and controlling slot.
use Rattle.std.specs.Prelude.{true, List, [], ◌∷◌, ◌⊎◌, ◌≡◌, ℕ, ◌<◌, ◌≤◌, pos, Ok, Err}
use Rattle.refusal.specs.Number.{number_of}
use Rattle.refusal.specs.declared.Refusal.{Refusal}
use Rattle.records.specs.declared.Form.{Form}
use Rattle.records.specs.Chain.{member, chain_of}
use Rattle.circuit_sheet.specs.CircuitSheet.{sheet_of}
use Rattle.circuit_sheet.specs.declared.Sheet.{Sheet}

-- the refusal's number is one of these
abbrev pub Among : List ℕ → Refusal → Type 0
Among numbers r = member (number_of r) numbers ≡ true

-- `chain`: the file and its chain
abbrev pub chain_numbers : List ℕ
chain_numbers = 1 ∷ 2 ∷ 3 ∷ 4 ∷ []

-- `sheet`: these, `sang`'s, and of the MUF's its input, its hops and its time block; never 5, 6, 8 or 10, since every call that it makes has points, slots, cells and lists as they should be
abbrev pub sheet_numbers : List ℕ
sheet_numbers = 1 ∷ 2 ∷ 3 ∷ 4 ∷ 7 ∷ 9 ∷ 11 ∷ 12 ∷ []

abbrev pub ChainRefusals : Type 0
ChainRefusals = (o : Form) (f : List ℕ) (r : Refusal) → chain_of o f ≡ Err r → Among chain_numbers r

abbrev pub SheetRefusals : Type 0
SheetRefusals = (f : List ℕ) (r : Refusal) → sheet_of f ≡ Err r → Among sheet_numbers r

-- the mode is 1, 2 or 3, the controlling slot 0, 1 or 2, and there are at most three slots
pub record SheetFits (s : Sheet) : Type 0 where
  pub mode : (s.hour.modmuf ≡ pos 1) ⊎ ((s.hour.modmuf ≡ pos 2) ⊎ (s.hour.modmuf ≡ pos 3))
  pub controlling : s.hour.ks < 3
  pub slots : s.slots ≤ 3

abbrev pub SheetPrinted : Type 0
SheetPrinted = (f : List ℕ) (s : Sheet) → sheet_of f ≡ Ok s → SheetFits s
