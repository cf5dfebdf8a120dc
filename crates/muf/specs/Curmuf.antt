-- `curmuf` whole: what is refused and in which order, the hour, the state and the Es rows after. The Es rows enter by their number and what each holds, so that one definition serves flat rows and rows of records; `find` is the way of finding heights off the profile.
-- Where the parts of the Rust's `curmuf` stand: the controlling slot in layer_mufs/specs (Controlling); `lecden` in profile/specs; the tangent frequencies in layer_mufs/specs (Tangents), and there the E layer MUF (LayerLine) and the F2 and F1 ones (Lines), with `gethp` in heights/specs, `bendy` and `pen` in parabolas/specs, `hop_geometry` and the rounds of the loop in hops/specs (Geometry, Rounds), and `f2dis` in deciles/specs; the sporadic E MUF in Sporadic and the circuit MUF in Hour, beside this file. What is refused by the arguments alone, and how many Es rows are read, is in Domain; here the order of all these, and what is refused on the way.
use Rattle.muf.specs.declared.sporadic.Rewrite.{Rewrite}
use Rattle.muf.specs.declared.sporadic.EsSearch.{EsSearch}
use Rattle.std.specs.Prelude.{Bool, true, false, List, ℕ, ◌*◌, length, set, Float, Option, Some, None, Result, Ok, Err, ◌<◌, ⊤}
use Rattle.scalar.specs.F32.{at}
use Rattle.refusal.specs.declared.Refusal.{Refusal}
use Rattle.layers.specs.declared.IonoState.{IonoState}
use Rattle.layers.specs.declared.LayerMuf.{LayerMuf}
use Rattle.profile.specs.Lecden.{slot_at, lecden_of}
use Rattle.profile.specs.declared.slot_curves.Slot.{Slot}
use Rattle.heights.specs.Gethp.{Finder, gethp_of}
use Rattle.layer_mufs.specs.Controlling.{controlling_of}
use Rattle.layer_mufs.specs.Tangents.{tangents_of}
use Rattle.layer_mufs.specs.LayerLine.{zero_line, e_line_with}
use Rattle.layer_mufs.specs.Lines.{f2_line_with, f1_line_with}
use Rattle.layer_mufs.specs.declared.PathNumbers.{PathNumbers}
use Rattle.muf.specs.Sporadic.{start_of, row_at, es_from, es_line_of}
use Rattle.muf.specs.Hour.{hour_of}
use Rattle.layers.specs.declared.EsParams.{EsParams}
use Rattle.muf.specs.declared.RegularLines.{RegularLines}
use Rattle.muf.specs.declared.MufAnswer.{MufAnswer}
use Rattle.muf.specs.declared.AnswerAndRow.{AnswerAndRow}
unfoldable pub use Rattle.muf.specs.Domain.{in_domain, lists_reach, row_count_of}
pub use Rattle.muf.specs.Domain.{within_of, taken_rows}

-- E, then F2, then F1

-- goes on from a line that was found; a refusal ends it
abbrev pub found_then : Result LayerMuf Refusal → (LayerMuf → Result RegularLines Refusal) → Result RegularLines Refusal
found_then (Ok m) next = next m
found_then (Err r) next = Err r

unfoldable pub regular_with : Finder → IonoState → Slot → List Float → Float → Float → PathNumbers → Result RegularLines Refusal
regular_with find t l f2d clat clck c =
    let x = tangents_of l c.gcdkm in
    found_then (e_line_with find t x.fxe c.gcdkm c.amind)
    (λ e. found_then (f2_line_with find t l x.f2 f2d clat clck c)
    (λ f2. found_then (f1_line_with find t l x.fx1 e c.gcdkm c.amind)
    (λ f1. Ok (record { e = e; f1 = f1; f2 = f2 }))))

-- the lines, of +0 beside a refusal
abbrev pub no_lines : RegularLines
no_lines = record { e = zero_line; f1 = zero_line; f2 = zero_line }

abbrev pub regular_value : Result RegularLines Refusal → RegularLines
regular_value (Ok m) = m
regular_value (Err r) = no_lines

-- then Es

unfoldable pub found_muf_of : EsSearch → IonoState → Float → RegularLines → ℕ → AnswerAndRow
found_muf_of a t fe m ks = let x = es_line_of a fe in record { answer = record { hour = hour_of m x.line ks; state = t }; rewrite = x.rewrite }

abbrev pub es_by : Result EsSearch Refusal → IonoState → Float → RegularLines → ℕ → Result AnswerAndRow Refusal
es_by (Ok a) t fe m ks = Ok (found_muf_of a t fe m ks)
es_by (Err r) t fe m ks = Err r

abbrev pub regular_by : Result RegularLines Refusal → IonoState → Slot → ℕ → Result EsSearch Refusal → Result AnswerAndRow Refusal
regular_by (Ok m) t l ks found = es_by found t l.fi0 m ks
regular_by (Err r) t l ks found = Err r

unfoldable pub muf_at_slot_with : Finder → IonoState → ℕ → Result EsSearch Refusal → List Float → Float → Float → PathNumbers → Result AnswerAndRow Refusal
muf_at_slot_with find s ks found f2d clat clck c =
    let t = lecden_of s ks in
    let l = slot_at t ks in
    regular_by (regular_with find t l f2d clat clck c) t l ks found

abbrev pub muf_at_slot_of : IonoState → ℕ → Result EsSearch Refusal → List Float → Float → Float → PathNumbers → Result AnswerAndRow Refusal
muf_at_slot_of = muf_at_slot_with gethp_of

-- is the input in its domain, do the lists reach
abbrev pub muf_from_search_by : Bool → Bool → Finder → IonoState → Result EsSearch Refusal → List Float → List Float → List Float → PathNumbers → Result AnswerAndRow Refusal
muf_from_search_by true true find s found f2d clat clck c = let ks = controlling_of s in muf_at_slot_with find s ks found f2d (at clat ks) (at clck ks) c
muf_from_search_by true false find s found f2d clat clck c = Err Refusal.MufLists
muf_from_search_by false reach find s found f2d clat clck c = Err Refusal.MufInput

-- the whole call, the search of the Es rows given by what it found
unfoldable pub muf_from_search_with : Finder → IonoState → Result EsSearch Refusal → List Float → List Float → List Float → PathNumbers → Result AnswerAndRow Refusal
muf_from_search_with find s found f2d clat clck c = muf_from_search_by (in_domain c) (lists_reach (controlling_of s) (length f2d) (length clat) (length clck)) find s found f2d clat clck c

abbrev pub muf_from_search_of : IonoState → Result EsSearch Refusal → List Float → List Float → List Float → PathNumbers → Result AnswerAndRow Refusal
muf_from_search_of = muf_from_search_with gethp_of

-- n rows of Es, each as `row` gives it
unfoldable pub muf_of_rows_with : Finder → IonoState → ℕ → (ℕ → EsParams) → List Float → List Float → List Float → PathNumbers → Result AnswerAndRow Refusal
muf_of_rows_with find s n row f2d clat clck c = muf_from_search_with find s (es_from row c n 0 start_of) f2d clat clck c

unfoldable pub flat_muf_with : Finder → IonoState → List Float → List Float → List Float → List Float → PathNumbers → Result AnswerAndRow Refusal
flat_muf_with find s es f2d clat clck c = muf_of_rows_with find s (row_count_of (length es) s.km) (row_at es) f2d clat clck c

abbrev pub flat_muf_of : IonoState → List Float → List Float → List Float → List Float → PathNumbers → Result AnswerAndRow Refusal
flat_muf_of = flat_muf_with gethp_of

abbrev pub answer_by : Result AnswerAndRow Refusal → Result MufAnswer Refusal
answer_by (Ok d) = Ok d.answer
answer_by (Err r) = Err r

abbrev pub curmuf_of : IonoState → List Float → List Float → List Float → List Float → PathNumbers → Result MufAnswer Refusal
curmuf_of s es f2d clat clck c = answer_by (flat_muf_of s es f2d clat clck c)

-- only the controlling row's lower decile is rewritten, and a refused call rewrites none
abbrev pub rewrite_by : Result AnswerAndRow Refusal → Option Rewrite
rewrite_by (Ok d) = d.rewrite
rewrite_by (Err r) = None

-- a row that is rewritten is below m
abbrev pub RowBelow : ℕ → Option Rewrite → Type 0
RowBelow m (Some w) = w.ksx < m
RowBelow m None = ⊤

abbrev pub rewritten_by : Option Rewrite → List Float → List Float
rewritten_by (Some w) es = set es (4 * w.ksx) w.lower
rewritten_by None es = es

abbrev pub es_after_of : IonoState → List Float → List Float → List Float → List Float → PathNumbers → List Float
es_after_of s es f2d clat clck c = rewritten_by (rewrite_by (flat_muf_of s es f2d clat clck c)) es
