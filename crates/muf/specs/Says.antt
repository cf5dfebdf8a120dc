-- What the lines of the regular layers, the hour of a slot and the whole call say by number and value: the paper's order of refusals, the input, the lists, and on the way E hops, F2 hops, deciles, F1 hops, Es hops by point.
use Rattle.muf.specs.declared.RegularLines.{RegularLines}
use Rattle.muf.specs.declared.sporadic.EsSearch.{EsSearch}
use Rattle.refusal.specs.Number.{answer_number}
use Rattle.refusal.specs.declared.Refusal.{Refusal}
use Rattle.std.specs.Prelude.{cond, List, ◌≡◌, ℕ, eqb, length, Float, Result}
use Rattle.scalar.specs.F32.{at}
use Rattle.layers.specs.declared.IonoState.{IonoState}
use Rattle.profile.specs.Lecden.{slot_at, lecden_of}
use Rattle.profile.specs.declared.slot_curves.Slot.{Slot}
use Rattle.heights.specs.Gethp.{gethp_of}
use Rattle.layer_mufs.specs.Tangents.{tangents_of}
use Rattle.layer_mufs.specs.LayerLine.{line_value, e_line_of}
use Rattle.layer_mufs.specs.Lines.{f2_line_of, f1_line_of}
use Rattle.layer_mufs.specs.Says.{first_refusal_number}
use Rattle.layer_mufs.specs.declared.PathNumbers.{PathNumbers}
use Rattle.layer_mufs.specs.Controlling.{controlling_of}
use Rattle.muf.specs.Domain.{in_domain, lists_reach}
use Rattle.muf.specs.Sporadic.{search_value, es_line_of}
use Rattle.muf.specs.Hour.{hour_of, zero_hour, hour_value, state_value}
use Rattle.muf.specs.Curmuf.{regular_with, regular_value, no_lines}
use Rattle.muf.specs.declared.MufAnswer.{MufAnswer}
use Rattle.muf.specs.declared.AnswerAndRow.{AnswerAndRow}

-- the first line that refuses, or the three; the F1 line may be the E line again
unfoldable pub RegularSays : Result RegularLines Refusal → IonoState → Slot → List Float → Float → Float → PathNumbers → Type 0
RegularSays r t l f2d clat clck c =
    let x = tangents_of l c.gcdkm in
    let e = e_line_of t x.fxe c.gcdkm c.amind in
    let f2 = f2_line_of t l x.f2 f2d clat clck c in
    let f1 = f1_line_of t l x.fx1 (line_value e) c.gcdkm c.amind in
    let number = first_refusal_number (answer_number e) (first_refusal_number (answer_number f2) (answer_number f1)) in
    (answer_number r ≡ number) × (regular_value r ≡ cond (eqb number 0) (record { e = line_value e; f1 = line_value f1; f2 = line_value f2 }) no_lines)

-- the hour of slot ks: the regular lines' number, then that of the search of the Es rows
unfoldable pub SlotSays : Result AnswerAndRow Refusal → IonoState → ℕ → Result EsSearch Refusal → List Float → Float → Float → PathNumbers → Type 0
SlotSays r s ks found f2d clat clck c =
    let t = lecden_of s ks in
    answer_number r ≡ first_refusal_number (answer_number (regular_with gethp_of t (slot_at t ks) f2d clat clck c)) (answer_number found)

-- the whole call, of what the search of the Es rows found: 9 where the input is outside its domain, 10 where the lists do not reach, else the number of the controlling slot's lines and of the search; the hour of the four lines, of +0 beside a refusal; the state with that slot prepared, as it came beside a refusal
unfoldable pub MufSays : Result MufAnswer Refusal → IonoState → Result EsSearch Refusal → List Float → List Float → List Float → PathNumbers → Type 0
MufSays r s found f2d clat clck c =
    let ks = controlling_of s in
    let t = lecden_of s ks in
    let l = slot_at t ks in
    let m = regular_with gethp_of t l f2d (at clat ks) (at clck ks) c in
    let es = es_line_of (search_value found) l.fi0 in
    let reach = lists_reach ks (length f2d) (length clat) (length clck) in
    let number = cond (in_domain c) (cond reach (first_refusal_number (answer_number m) (answer_number found)) 10) 9 in
    (answer_number r ≡ number)
    × (hour_value r ≡ cond (eqb number 0) (hour_of (regular_value m) es.line ks) zero_hour)
    × (state_value s r ≡ cond (eqb number 0) t s)
