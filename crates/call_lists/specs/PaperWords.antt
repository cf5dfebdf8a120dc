-- The paper's own words for the lists that are allowed, by counting: at most one circuit MUF, answered or refused; of each slot at most one answered sheet; no answered sheet of the slot that the MUF picks. Refused sheets and nominal MUFs may stand anywhere, in any number.
-- Beside them: that a sheet's refusal depends on its arguments alone, so that "answered" means the same on the first state and in the list; and that what a call answers and leaves is what the contracts of the functions promise.
use Rattle.std.specs.Prelude.{Bool, true, false, ◌&&◌, List, [], ◌∷◌, ◌≡◌, ℕ, ◌+◌, ◌≤◌, T, eqb, ℤ, Float, Some, Result, IsOkAnd}
use Rattle.refusal.specs.declared.Refusal.{Refusal}
use Rattle.layers.specs.Ionset.{ionset_of}
use Rattle.layers.specs.Rules.{count_taken}
use Rattle.layers.specs.declared.IonoState.{IonoState}
use Rattle.layers.specs.declared.LayerMuf.{LayerMuf}
use Rattle.layers.specs.declared.LayerParams.{LayerParams}
use Rattle.layers.specs.declared.EsParams.{EsParams}
use Rattle.readings.specs.Cursor.{one_if}
use Rattle.layer_mufs.specs.declared.PathNumbers.{PathNumbers}
use Rattle.muf.specs.Curmuf.{curmuf_of, es_after_of}
use Rattle.muf.specs.LentRecords.{records_muf_of, records_after_of}
use Rattle.slot_sheet.specs.Sheet.{slot_sheet_of, sheet_cells_of}
use Rattle.nominal.specs.Nommuf.{nommuf_of}
use Rattle.call_lists.specs.Calls.{flat, records, Call, a_muf, a_sheet, a_nominal, of_muf, of_sheet, of_nominal, shown_of, part_of, answer_of, state_left, after_of, answered, picked_slot}
use Rattle.call_lists.specs.Lists.{Every, ListOfCalls}

-- ---- how many

abbrev pub is_muf : Call → Bool
is_muf (a_muf es f2d clat clck c) = true
is_muf (a_sheet k nang layers cells) = false
is_muf (a_nominal points f2m3 es km gcd gcdkm) = false

abbrev pub is_sheet_of : IonoState → ℕ → Call → Bool
is_sheet_of s k (a_muf es f2d clat clck c) = false
is_sheet_of s k (a_sheet j nang layers cells) = eqb j k && answered s (a_sheet j nang layers cells)
is_sheet_of s k (a_nominal points f2m3 es km gcd gcdkm) = false

-- circuit MUFs
unfoldable pub mufs_in : List Call → ℕ
mufs_in [] = 0
mufs_in (c ∷ cs) = one_if (is_muf c) + mufs_in cs

-- answered sheets of slot k
unfoldable pub sheets_in : IonoState → ℕ → List Call → ℕ
sheets_in s k [] = 0
sheets_in s k (c ∷ cs) = one_if (is_sheet_of s k c) + sheets_in s k cs

-- ---- the paper's words

pub record InWords (s : IonoState) (calls : List Call) : Type 0 where
  pub one-muf : mufs_in calls ≤ 1
  pub one-sheet : (k : ℕ) → sheets_in s k calls ≤ 1
  pub none-of-its-pick : Every (λ c. is_muf c ≡ true → (k : ℕ) → picked_slot s c ≡ Some k → sheets_in s k calls ≡ 0) calls

-- what `paper-words` says
abbrev pub PaperWords : Type 0
PaperWords = (first : IonoState) → T (count_taken first.km) → IsOkAnd (ionset_of first) (λ s. (calls : List Call) → InWords s calls → ListOfCalls s calls)

-- whether it is answered, or the refusal, and nothing of what is answered
abbrev pub outcome_of : {A : Type 0} → Result A Refusal → Result (Unit {0}) Refusal
outcome_of a = part_of (λ _. tt) a

-- what `refusal-by-arguments` says: not on the state, nor on the layer table
abbrev pub RefusalByArguments : Type 0
RefusalByArguments = (s t : IonoState) (k nang : ℕ) (layers others : List LayerMuf) (cells : List ℤ) → outcome_of (slot_sheet_of t k nang others cells) ≡ outcome_of (slot_sheet_of s k nang layers cells)

-- what `with-contracts` says: each call's answer and the state left, by the definitions that stand in the contracts of `curmuf`, `curmuf_records`, `slot_sheet` and `nommuf`
pub record WithContracts : Type 0 where
  pub flat-muf : (s : IonoState) (es f2d clat clck : List Float) (c : PathNumbers) → let r = curmuf_of s es f2d clat clck c in
      (answer_of s (a_muf (flat es) f2d clat clck c) ≡ of_muf (part_of (λ a. a.hour) r) (flat (es_after_of s es f2d clat clck c))) × (after_of s (a_muf (flat es) f2d clat clck c) ≡ state_left (λ a. a.state) s r)
  pub records-muf : (s : IonoState) (es : List EsParams) (f2d clat clck : List Float) (c : PathNumbers) → let r = records_muf_of s es f2d clat clck c in
      (answer_of s (a_muf (records es) f2d clat clck c) ≡ of_muf (part_of (λ a. a.hour) r) (records (records_after_of s es f2d clat clck c))) × (after_of s (a_muf (records es) f2d clat clck c) ≡ state_left (λ a. a.state) s r)
  pub sheet : (s : IonoState) (k nang : ℕ) (layers : List LayerMuf) (cells : List ℤ) → let r = slot_sheet_of s k nang layers cells in
      (answer_of s (a_sheet k nang layers cells) ≡ of_sheet (part_of shown_of r) (sheet_cells_of s k nang cells)) × (after_of s (a_sheet k nang layers cells) ≡ state_left (λ a. a.state) s r)
  pub nominal : (s : IonoState) (points : List LayerParams) (f2m3 : List Float) (es : List EsParams) (km : ℕ) (gcd gcdkm : Float)
      → (answer_of s (a_nominal points f2m3 es km gcd gcdkm) ≡ of_nominal (nommuf_of points f2m3 es km gcd gcdkm)) × (after_of s (a_nominal points f2m3 es km gcd gcdkm) ≡ s)
