-- Calls on one state: circuit MUFs, slot sheets and nominal MUFs, each with its own arguments and lent cells. With `gethp_of` for the way of finding heights, `find`, what a call answers and what it leaves are the very definitions that the contracts of the three functions are equated with.
use Rattle.std.specs.Prelude.{Bool, false, ◌&&◌, List, ℕ, eqb, ℤ, length, Float, Option, None, Result, Ok, Err, is_ok}
use Rattle.std.specs.Bool.{then_some}
use Rattle.refusal.specs.declared.Refusal.{Refusal}
use Rattle.layers.specs.declared.IonoState.{IonoState}
use Rattle.layers.specs.declared.LayerMuf.{LayerMuf}
use Rattle.layers.specs.declared.LayerParams.{LayerParams}
use Rattle.layers.specs.declared.EsParams.{EsParams}
use Rattle.heights.specs.Gethp.{Finder, gethp_of}
use Rattle.reflectrix.specs.declared.Ionogram.{Ionogram}
use Rattle.layer_mufs.specs.Controlling.{controlling_of}
use Rattle.layer_mufs.specs.declared.PathNumbers.{PathNumbers}
use Rattle.muf.specs.declared.sporadic.Rewrite.{Rewrite}
use Rattle.muf.specs.Curmuf.{in_domain, flat_muf_with, answer_by, rewrite_by, rewritten_by}
use Rattle.muf.specs.declared.MufHour.{MufHour}
use Rattle.muf.specs.declared.AnswerAndRow.{AnswerAndRow}
use Rattle.muf.specs.LentRecords.{records_answer_with, records_by}
use Rattle.profile.specs.declared.shapes.Mark.{Mark}
use Rattle.slot_sheet.specs.Sheet.{slot_sheet_with, sheet_cells_with}
use Rattle.slot_sheet.specs.declared.SlotSheet.{SlotSheet}
use Rattle.nominal.specs.Nommuf.{nommuf_of}

-- ---- the Es rows lent to a circuit MUF: flat, four numbers a row, or records

pub data EsRows : Type 0 where
  flat : List Float → EsRows
  records : List EsParams → EsRows

unfoldable pub muf_with : Finder → IonoState → EsRows → List Float → List Float → List Float → PathNumbers → Result AnswerAndRow Refusal
muf_with find s (flat es) f2d clat clck c = flat_muf_with find s es f2d clat clck c
muf_with find s (records es) f2d clat clck c = records_answer_with find s es f2d clat clck c

-- only the controlling row's lower decile is rewritten
unfoldable pub es_after : EsRows → Option Rewrite → EsRows
es_after (flat es) rewrite = flat (rewritten_by rewrite es)
es_after (records es) rewrite = records (records_by rewrite es)

-- ---- calls and answers

pub data Call : Type 0 where
  a_muf : EsRows → List Float → List Float → List Float → PathNumbers → Call
  -- any slot number, any angle count, any layer table, any cells
  a_sheet : ℕ → ℕ → List LayerMuf → List ℤ → Call
  -- any points, F2M3s and Es rows, any count, any path: none of it is the state's
  a_nominal : List LayerParams → List Float → List EsParams → ℕ → Float → Float → Call

-- what a slot sheet shows: rows and marks
pub record SlotRows : Type 0 where
  pub ion : Ionogram
  pub marks : List Mark

abbrev pub shown_of : SlotSheet → SlotRows
shown_of a = record { ion = a.ion; marks = a.marks }

-- all that a call gives back but the state: its hour, or its refusal, and its Es rows; its rows and marks, or its refusal, and its cells; or its hour, or its refusal
pub data Answer : Type 0 where
  of_muf : Result MufHour Refusal → EsRows → Answer
  of_sheet : Result SlotRows Refusal → List ℤ → Answer
  of_nominal : Result MufHour Refusal → Answer

-- a part of what is answered; a refusal stays
abbrev pub part_of : {A B : Type 0} → (A → B) → Result A Refusal → Result B Refusal
part_of f (Ok a) = Ok (f a)
part_of f (Err r) = Err r

unfoldable pub answer_with : Finder → IonoState → Call → Answer
answer_with find s (a_muf es f2d clat clck c) = let d = muf_with find s es f2d clat clck c in of_muf (part_of (λ a. a.hour) (answer_by d)) (es_after es (rewrite_by d))
answer_with find s (a_sheet k nang layers cells) = of_sheet (part_of shown_of (slot_sheet_with find s k nang layers cells)) (sheet_cells_with find s k nang cells)
answer_with find s (a_nominal points f2m3 es km gcd gcdkm) = of_nominal (nommuf_of points f2m3 es km gcd gcdkm)

abbrev pub answer_of : IonoState → Call → Answer
answer_of = answer_with gethp_of

-- the state of what is answered; beside a refusal it is as it came
abbrev pub state_left : {A : Type 0} → (A → IonoState) → IonoState → Result A Refusal → IonoState
state_left f s (Ok a) = f a
state_left f s (Err r) = s

-- the state after a call
unfoldable pub after_with : Finder → IonoState → Call → IonoState
after_with find s (a_muf es f2d clat clck c) = state_left (λ a. a.state) s (answer_by (muf_with find s es f2d clat clck c))
after_with find s (a_sheet k nang layers cells) = state_left (λ a. a.state) s (slot_sheet_with find s k nang layers cells)
after_with find s (a_nominal points f2m3 es km gcd gcdkm) = s

abbrev pub after_of : IonoState → Call → IonoState
after_of = after_with gethp_of

-- ---- answered or refused, and the slot that a call picks

abbrev pub is_answered : Answer → Bool
is_answered (of_muf hour es) = is_ok hour
is_answered (of_sheet rows cells) = is_ok rows
is_answered (of_nominal hour) = is_ok hour

unfoldable pub answered : IonoState → Call → Bool
answered s c = is_answered (answer_of s c)

-- an answered MUF or sheet prepares its slot and makes the profile; a nominal MUF never does
unfoldable pub prepares : IonoState → Call → Bool
prepares s (a_muf es f2d clat clck c) = answered s (a_muf es f2d clat clck c)
prepares s (a_sheet k nang layers cells) = answered s (a_sheet k nang layers cells)
prepares s (a_nominal points f2m3 es km gcd gcdkm) = false

-- An answered sheet has its slot, a refused one none. A MUF has the controlling slot, whether it is answered or not; none where it is refused 9, or 10 for its deciles. A nominal MUF has none.
unfoldable pub picked_slot : IonoState → Call → Option ℕ
picked_slot s (a_muf es f2d clat clck c) = then_some (in_domain c && eqb (length f2d) 576) (controlling_of s)
picked_slot s (a_sheet k nang layers cells) = then_some (answered s (a_sheet k nang layers cells)) k
picked_slot s (a_nominal points f2m3 es km gcd gcdkm) = None
