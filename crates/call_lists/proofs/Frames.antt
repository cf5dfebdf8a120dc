-- One call on a later state t, where what it picks stands as it first did: its answer is the one on the first state s, and it leaves t, or t with its slot prepared. Of `gethp` it takes the two heights only: so on t they may be found in any way that agrees with `gethp_of`, the way on s.
use mathlib.Core.Bool.{Bool, true, false, ◌&&◌}
use mathlib.Core.List.{List}
use mathlib.Core.Path.{◌≡◌, refl, sym, ap, ◌∙◌, subst}
use Rattle.std.specs.Prelude.{Some, Result, Ok, Err, is_ok}
use Rattle.std.specs.Bool.{then_some}
use Rattle.std.proofs.lemmas.Bool.{false≢true, and_parts, and_from}
use Rattle.std.proofs.lemmas.Option.{same_Some}
use Prim.Native.Nat.{ℕ, ◌<◌, ◌≤◌}
use native.Mathlib.Omega.{arith}
use borrow.Author.Tests.{leb-true}
use lib.Dec.{leb, ltb, eqb}
use lib.IntN.{ℤ}
use lib.ListN.{length}
use lib.Ieee.{Float}
use Rattle.scalar.specs.F32.{at}
use Rattle.refusal.specs.declared.Refusal.{Refusal}
use Rattle.layers.specs.declared.IonoState.{IonoState}
use Rattle.layers.specs.declared.LayerMuf.{LayerMuf}
use Rattle.profile.specs.Lecden.{slot_at, supplied_of, lecden_of}
use Rattle.profile.specs.Marks.{marks_of}
use Rattle.profile.specs.declared.slot_curves.Slot.{Slot}
use Rattle.heights.specs.Gethp.{Finder, gethp_of}
use Rattle.heights.specs.declared.Heights.{Heights}
use Rattle.heights.proofs.Finders.{FindAlike, Agree}
use Rattle.reflectrix.specs.Fobby.{angles_into, room_for}
use Rattle.reflectrix.specs.declared.Ionogram.{Ionogram}
use Rattle.losses.specs.Alosfv.{alosfv_of}
use Rattle.sounding.specs.Genion.{genion_with}
use Rattle.layer_mufs.specs.Controlling.{compare_e, controlling_of}
use Rattle.layer_mufs.specs.declared.PathNumbers.{PathNumbers}
use Rattle.layer_mufs.proofs.controlling_slot.Small.{controlling-small}
use Rattle.muf.specs.Sporadic.{start_of, row_at, es_from}
use Rattle.muf.specs.Curmuf.{in_domain, lists_reach, regular_with, found_muf_of, es_by, regular_by, muf_at_slot_with, muf_from_search_by, muf_from_search_with, muf_of_rows_with, taken_rows, row_count_of, flat_muf_with, answer_by, rewrite_by}
use Rattle.layers.specs.declared.EsParams.{EsParams}
use Rattle.muf.specs.declared.sporadic.EsSearch.{EsSearch}
use Rattle.muf.specs.declared.RegularLines.{RegularLines}
use Rattle.muf.specs.declared.MufAnswer.{MufAnswer}
use Rattle.muf.specs.declared.MufHour.{MufHour}
use Rattle.muf.specs.declared.AnswerAndRow.{AnswerAndRow}
use Rattle.profile.specs.declared.shapes.Mark.{Mark}
use Rattle.slot_sheet.specs.declared.SlotSheet.{SlotSheet}
use Rattle.slot_sheet.specs.Sheet.{sheet_by, sheet_cells_by, slot_sheet_with, sheet_cells_with}
use Rattle.muf.specs.LentRecords.{es_row_at, records_answer_with}
use Rattle.call_lists.specs.Calls.{EsRows, flat, records, muf_with, Call, a_muf, a_sheet, a_nominal, SlotRows, shown_of, part_of, answer_with, answer_of, state_left, after_with, after_of, answered, prepares, picked_slot}
use Rattle.call_lists.specs.Lists.{SameProfile}
use Rattle.call_lists.proofs.Alike.{Alike, gethp-same, genion-same, alosfv-same, three-same}
use Rattle.call_lists.proofs.Prepared.{Common, common-self, lecden-alike, lecden-others, lecden-common}

-- the slot that c picks, if it picks one, stands in t as in s
abbrev pub FreshFor : IonoState → IonoState → Call → Type 0
FreshFor s t c = (k : ℕ) → picked_slot s c ≡ Some k → slot_at t k ≡ slot_at s k

-- t, or t with slot k prepared
abbrev pub prepared_if : Bool → IonoState → ℕ → IonoState
prepared_if true t k = lecden_of t k
prepared_if false t k = t

-- `find` agrees with `gethp_of` on the profile that `lecden` makes of t for slot k
abbrev pub AgreesAt : Finder → IonoState → ℕ → Type 0
AgreesAt find t k = Agree find gethp_of (lecden_of t k)

-- for the slot that c picks, if it picks one
abbrev pub AgreesFor : Finder → IonoState → IonoState → Call → Type 0
AgreesFor find s t c = (k : ℕ) → picked_slot s c ≡ Some k → AgreesAt find t k

itself : (s t : IonoState) (c : Call) → AgreesFor gethp_of s t c
itself s t c k e f = (refl, refl, refl)

found_alike : (find : Finder) (s t : IonoState) (k : ℕ) → AgreesAt find t k → Alike (lecden_of t k) (lecden_of s k) k → FindAlike find (lecden_of t k) gethp_of (lecden_of s k)
found_alike find s t k agree a f =
    let e = gethp-same (lecden_of t k) (lecden_of s k) a.htr-same a.fnsq-same a.exact_same f in
    ((agree f).0 ∙ ap (λ (h : Heights). h.hp) e, (agree f).1 ∙ ap (λ (h : Heights). h.ht) e, (agree f).2 ∙ ap (λ (h : Heights). h.segment) e)

-- ---- the circuit MUF

abbrev hour_in : Result AnswerAndRow Refusal → Result MufHour Refusal
hour_in d = part_of (λ a. a.hour) (answer_by d)

-- d and e have the same hour or refusal and the same row to rewrite, and d leaves t, or t with slot k prepared where e is answered
abbrev Follows : Result AnswerAndRow Refusal → Result AnswerAndRow Refusal → IonoState → ℕ → Type 0
Follows d e t k = (hour_in d ≡ hour_in e) × (rewrite_by d ≡ rewrite_by e) × (state_left (λ (a : MufAnswer). a.state) t (answer_by d) ≡ prepared_if (is_ok (hour_in e)) t k)

es-follows : (x : Result EsSearch Refusal) (s t : IonoState) (fe : Float) (m : RegularLines) (k : ℕ) → Follows (es_by x (lecden_of t k) fe m k) (es_by x (lecden_of s k) fe m k) t k
unfolding found_muf_of
es-follows (Ok a) s t fe m k = (refl, refl, refl)
es-follows (Err r) s t fe m k = (refl, refl, refl)

three-follows : (x : Result RegularLines Refusal) (s t : IonoState) (l : Slot) (k : ℕ) (step : Result EsSearch Refusal) → Follows (regular_by x (lecden_of t k) l k step) (regular_by x (lecden_of s k) l k step) t k
three-follows (Ok m) s t l k step = es-follows step s t l.fi0 m k
three-follows (Err r) s t l k step = (refl, refl, refl)

slot-follows : (find : Finder) (s t : IonoState) (k : ℕ) (step : Result EsSearch Refusal) (f2d : List Float) (clat clck : Float) (c : PathNumbers) → AgreesAt find t k → Alike (lecden_of t k) (lecden_of s k) k → Follows (muf_at_slot_with find t k step f2d clat clck c) (muf_at_slot_with gethp_of s k step f2d clat clck c) t k
unfolding muf_at_slot_with
slot-follows find s t k step f2d clat clck c agree a =
    let l = slot_at (lecden_of s k) k in
    let three = regular_with gethp_of (lecden_of s k) l f2d clat clck c in
    let whole : Result RegularLines Refusal → Slot → Result AnswerAndRow Refusal = λ x m. regular_by x (lecden_of t k) m k step in
    let e : whole (regular_with find (lecden_of t k) (slot_at (lecden_of t k) k) f2d clat clck c) (slot_at (lecden_of t k) k) ≡ whole three l =
    ap (λ (m : Slot). whole (regular_with find (lecden_of t k) m f2d clat clck c) m) a.slot_same
    ∙ ap (λ (x : Result RegularLines Refusal). whole x l) (three-same find gethp_of (lecden_of t k) (lecden_of s k) k a (found_alike find s t k agree a) l f2d clat clck c) in
    subst (λ (d : Result AnswerAndRow Refusal). Follows d (regular_by three (lecden_of s k) l k step) t k) (sym e) (three-follows three s t l k step)

-- the controlling slot is chosen by the critical frequencies and kfx
controlling-same : (s t : IonoState) → Common s t → controlling_of t ≡ controlling_of s
unfolding controlling_of compare_e
controlling-same s t c = rw (c.fi-common, c.kfx-common)

deciles-right : (n k lats clocks : ℕ) → (eqb n 576 && ltb k lats && ltb k clocks) ≡ true → eqb n 576 ≡ true
deciles-right n k lats clocks e = (and_parts (eqb n 576) (ltb k lats) (and_parts (eqb n 576 && ltb k lats) (ltb k clocks) e).0).0

-- by domain, deciles and reach: where lecden is reached at all, the MUF has picked the slot
done-by : (d r : Bool) (find : Finder) (s t : IonoState) (step : Result EsSearch Refusal) (f2d clat clck : List Float) (c : PathNumbers) → (d ≡ true → r ≡ true → AgreesAt find t (controlling_of s)) → Common s t → (d ≡ true → r ≡ true → slot_at t (controlling_of s) ≡ slot_at s (controlling_of s)) → Follows (muf_from_search_by d r find t step f2d clat clck c) (muf_from_search_by d r gethp_of s step f2d clat clck c) t (controlling_of s)
done-by true true find s t step f2d clat clck c agree g fresh =
    let k = controlling_of s in
    subst (λ (j : ℕ). Follows (muf_at_slot_with find t j step f2d (at clat j) (at clck j) c) (muf_at_slot_with gethp_of s k step f2d (at clat k) (at clck k) c) t k) (sym (controlling-same s t g))
    (slot-follows find s t k step f2d (at clat k) (at clck k) c (agree refl refl) (lecden-alike s t k g (fresh refl refl)))
done-by true false find s t step f2d clat clck c agree g fresh = (refl, refl, refl)
done-by false r find s t step f2d clat clck c agree g fresh = (refl, refl, refl)

picked : (d e : Bool) (k : ℕ) → d ≡ true → e ≡ true → then_some (d && e) k ≡ Some k
picked d e k hd he = rw (hd, he)

done-follows : (find : Finder) (s t : IonoState) (n : ℕ) (row : ℕ → EsParams) (f2d clat clck : List Float) (c : PathNumbers) → ((k : ℕ) → then_some (in_domain c && eqb (length f2d) 576) (controlling_of s) ≡ Some k → AgreesAt find t k) → Common s t → ((k : ℕ) → then_some (in_domain c && eqb (length f2d) 576) (controlling_of s) ≡ Some k → slot_at t k ≡ slot_at s k) → Follows (muf_of_rows_with find t n row f2d clat clck c) (muf_of_rows_with gethp_of s n row f2d clat clck c) t (controlling_of s)
unfolding muf_of_rows_with muf_from_search_with lists_reach
done-follows find s t n row f2d clat clck c agree g fresh =
    let step = es_from row c n 0 start_of in
    let reach : ℕ → Bool = λ k. eqb (length f2d) 576 && ltb k (length clat) && ltb k (length clck) in
    let has-picked : in_domain c ≡ true → reach (controlling_of s) ≡ true → then_some (in_domain c && eqb (length f2d) 576) (controlling_of s) ≡ Some (controlling_of s) =
    λ hd hr. picked (in_domain c) (eqb (length f2d) 576) (controlling_of s) hd (deciles-right (length f2d) (controlling_of s) (length clat) (length clck) hr) in
    subst (λ (k : ℕ). Follows (muf_from_search_by (in_domain c) (reach k) find t step f2d clat clck c) (muf_from_search_by (in_domain c) (reach (controlling_of s)) gethp_of s step f2d clat clck c) t (controlling_of s)) (sym (controlling-same s t g))
    (done-by (in_domain c) (reach (controlling_of s)) find s t step f2d clat clck c (λ hd hr. agree (controlling_of s) (has-picked hd hr)) g (λ hd hr. fresh (controlling_of s) (has-picked hd hr)))

muf-follows : (es : EsRows) (find : Finder) (s t : IonoState) (f2d clat clck : List Float) (c : PathNumbers) → AgreesFor find s t (a_muf es f2d clat clck c) → Common s t → FreshFor s t (a_muf es f2d clat clck c) → Follows (muf_with find t es f2d clat clck c) (muf_with gethp_of s es f2d clat clck c) t (controlling_of s)
unfolding muf_with flat_muf_with records_answer_with picked_slot
muf-follows (flat es) find s t f2d clat clck c agree g fresh =
    subst (λ (m : ℕ). Follows (muf_of_rows_with find t (row_count_of (length es) m) (row_at es) f2d clat clck c) (muf_of_rows_with gethp_of s (row_count_of (length es) s.km) (row_at es) f2d clat clck c) t (controlling_of s)) (sym g.km-common)
    (done-follows find s t (row_count_of (length es) s.km) (row_at es) f2d clat clck c agree g fresh)
muf-follows (records es) find s t f2d clat clck c agree g fresh =
    let count : ℕ → ℕ = λ m. taken_rows (length es) m in
    subst (λ (m : ℕ). Follows (muf_of_rows_with find t (count m) (es_row_at es) f2d clat clck c) (muf_of_rows_with gethp_of s (count s.km) (es_row_at es) f2d clat clck c) t (controlling_of s)) (sym g.km-common)
    (done-follows find s t (count s.km) (es_row_at es) f2d clat clck c agree g fresh)

-- where it is refused 9, or 10 for its deciles, it is not answered: so an answered MUF has picked its slot
answered-by : (d r : Bool) (s : IonoState) (step : Result EsSearch Refusal) (f2d clat clck : List Float) (c : PathNumbers) → is_ok (hour_in (muf_from_search_by d r gethp_of s step f2d clat clck c)) ≡ true → (d ≡ true) × (r ≡ true)
answered-by true true s step f2d clat clck c e = (refl, refl)
answered-by true false s step f2d clat clck c e = absurd (false≢true e)
answered-by false r s step f2d clat clck c e = absurd (false≢true e)

done-picked : (s : IonoState) (n : ℕ) (row : ℕ → EsParams) (f2d clat clck : List Float) (c : PathNumbers) → is_ok (hour_in (muf_of_rows_with gethp_of s n row f2d clat clck c)) ≡ true → then_some (in_domain c && eqb (length f2d) 576) (controlling_of s) ≡ Some (controlling_of s)
unfolding muf_of_rows_with muf_from_search_with lists_reach
done-picked s n row f2d clat clck c e =
    let k = controlling_of s in
    let h = answered-by (in_domain c) (eqb (length f2d) 576 && ltb k (length clat) && ltb k (length clck)) s (es_from row c n 0 start_of) f2d clat clck c e in
    picked (in_domain c) (eqb (length f2d) 576) k h.0 (deciles-right (length f2d) k (length clat) (length clck) h.1)

muf-picked : (es : EsRows) (s : IonoState) (f2d clat clck : List Float) (c : PathNumbers) → answered s (a_muf es f2d clat clck c) ≡ true → picked_slot s (a_muf es f2d clat clck c) ≡ Some (controlling_of s)
unfolding answered answer_with picked_slot muf_with flat_muf_with records_answer_with
muf-picked (flat es) s f2d clat clck c e = done-picked s (row_count_of (length es) s.km) (row_at es) f2d clat clck c e
muf-picked (records es) s f2d clat clck c e = done-picked s (taken_rows (length es) s.km) (es_row_at es) f2d clat clck c e

-- ---- the slot sheet

-- the marks read of a state whether its profile is supplied, and the slot as it stands
marks-same : (s t : IonoState) (k : ℕ) → Common s t → slot_at t k ≡ slot_at s k → marks_of t k ≡ marks_of s k
unfolding marks_of supplied_of slot_at
marks-same s t k g e = rw (g.ielect-common, e)

abbrev shown : Ionogram → List Mark → Result SlotRows Refusal
shown ion marks = Ok (record { ion = ion; marks = marks })

sheet-seen : (a b : Bool) (find : Finder) (s t : IonoState) (k nang : ℕ) (layers : List LayerMuf) (cells : List ℤ) → (a ≡ true → b ≡ true → AgreesAt find t k) → Common s t → (a ≡ true → b ≡ true → slot_at t k ≡ slot_at s k)
    → (part_of shown_of (sheet_by a b find t k layers) ≡ part_of shown_of (sheet_by a b gethp_of s k layers)) × (sheet_cells_by a b find t k nang cells ≡ sheet_cells_by a b gethp_of s k nang cells)
sheet-seen true true find s t k nang layers cells agree c same =
    let u = lecden_of t k in
    let v = lecden_of s k in
    let e = same refl refl in
    let a = lecden-alike s t k c e in
    let g = genion-same find gethp_of u v k a (found_alike find s t k (agree refl refl) a) in
    let rows = alosfv-same u v k a (genion_with find u k) layers ∙ ap (λ (ion : Ionogram). alosfv_of v k ion layers) g in
    (ap (λ (ion : Ionogram). shown ion (marks_of t k)) rows ∙ ap (λ (marks : List Mark). shown (alosfv_of v k (genion_with gethp_of v k) layers) marks) (marks-same s t k c e), ap (λ (ion : Ionogram). angles_into ion cells nang) g)
sheet-seen true false find s t k nang layers cells agree c same = (refl, refl)
sheet-seen false b find s t k nang layers cells agree c same = (refl, refl)

sheet-left : (a b : Bool) (find : Finder) (s t : IonoState) (k : ℕ) (layers : List LayerMuf) → state_left (λ (x : SlotSheet). x.state) t (sheet_by a b find t k layers) ≡ prepared_if (is_ok (part_of shown_of (sheet_by a b gethp_of s k layers))) t k
sheet-left true true find s t k layers = refl
sheet-left true false find s t k layers = refl
sheet-left false b find s t k layers = refl

-- it is answered where the slot number is at most 2 and there is room: its arguments alone decide
sheet-answered : (a b : Bool) (s : IonoState) (k : ℕ) (layers : List LayerMuf) → is_ok (part_of shown_of (sheet_by a b gethp_of s k layers)) ≡ (a && b)
sheet-answered true true s k layers = refl
sheet-answered true false s k layers = refl
sheet-answered false b s k layers = refl

-- ---- any call

-- the slot that a call prepares, where it does
abbrev pub slot_of : IonoState → Call → ℕ
slot_of s (a_muf es f2d clat clck c) = controlling_of s
slot_of s (a_sheet k nang layers cells) = k
slot_of s (a_nominal points f2m3 es km gcd gcdkm) = 0

same_answer : (c : Call) (find : Finder) (s t : IonoState) → AgreesFor find s t c → Common s t → FreshFor s t c → answer_with find t c ≡ answer_of s c
unfolding answer_with slot_sheet_with sheet_cells_with picked_slot answered
same_answer (a_muf es f2d clat clck c) find s t agree g fresh =
    let h = muf-follows es find s t f2d clat clck c agree g fresh in rw (h.0, h.1)
same_answer (a_sheet k nang layers cells) find s t agree g fresh =
    let a = leb k 2 in
    let b = room_for nang cells in
    let has-picked : a ≡ true → b ≡ true → picked_slot s (a_sheet k nang layers cells) ≡ Some k = λ ha hb. ap (λ (x : Bool). then_some x k) (sheet-answered a b s k layers ∙ and_from a b ha hb) in
    let h = sheet-seen a b find s t k nang layers cells (λ ha hb. agree k (has-picked ha hb)) g (λ ha hb. fresh k (has-picked ha hb)) in
    rw (h.0, h.1)
same_answer (a_nominal points f2m3 es km gcd gcdkm) find s t agree g fresh = refl

same_left : (c : Call) (find : Finder) (s t : IonoState) → AgreesFor find s t c → Common s t → FreshFor s t c → after_with find t c ≡ prepared_if (prepares s c) t (slot_of s c)
unfolding after_with prepares answered answer_with slot_sheet_with picked_slot
same_left (a_muf es f2d clat clck c) find s t agree g fresh = (muf-follows es find s t f2d clat clck c agree g fresh).2
same_left (a_sheet k nang layers cells) find s t agree g fresh = sheet-left (leb k 2) (room_for nang cells) find s t k layers
same_left (a_nominal points f2m3 es km gcd gcdkm) find s t agree g fresh = refl

-- every call leaves the state that it got, or that with a slot prepared
pub call-leaves : (c : Call) (t : IonoState) → after_of t c ≡ prepared_if (prepares t c) t (slot_of t c)
call-leaves c t = same_left c gethp_of t t (itself t t c) (common-self t) (λ k e. refl)

-- by another way of finding heights: the same answer, and the same state left
pub answer-with : (c : Call) (find : Finder) (t : IonoState) → AgreesFor find t t c → answer_with find t c ≡ answer_of t c
answer-with c find t agree = same_answer c find t t agree (common-self t) (λ k e. refl)

pub after-with : (c : Call) (find : Finder) (t : IonoState) → AgreesFor find t t c → after_with find t c ≡ after_of t c
after-with c find t agree = same_left c find t t agree (common-self t) (λ k e. refl) ∙ sym (call-leaves c t)

pub picks-own : (c : Call) (s : IonoState) → prepares s c ≡ true → picked_slot s c ≡ Some (slot_of s c)
unfolding picked_slot prepares
picks-own (a_muf es f2d clat clck c) s e = muf-picked es s f2d clat clck c e
picks-own (a_sheet k nang layers cells) s e = ap (λ (x : Bool). then_some x k) e
picks-own (a_nominal points f2m3 es km gcd gcdkm) s e = absurd (false≢true e)

below-three : (k : ℕ) → k ≤ 2 → k < 3
below-three k h = omega arith

slot_small : (c : Call) (s : IonoState) → prepares s c ≡ true → slot_of s c < 3
unfolding prepares answered answer_with slot_sheet_with
slot_small (a_muf es f2d clat clck c) s e = controlling-small s
slot_small (a_sheet k nang layers cells) s e =
    below-three k (leb-true k 2 (and_parts (leb k 2) (room_for nang cells) (sym (sheet-answered (leb k 2) (room_for nang cells) s k layers) ∙ e)).0)
slot_small (a_nominal points f2m3 es km gcd gcdkm) s e = absurd (false≢true e)

-- what a list's proof needs of a call on t
pub record Stepped (s t : IonoState) (c : Call) : Type 0 where
  pub answer-same : answer_of t c ≡ answer_of s c
  pub still-common : Common s (after_of t c)
  pub own-slot : (k : ℕ) → picked_slot s c ≡ Some k → slot_at (after_of t c) k ≡ slot_at (after_of s c) k
  pub other-slot : (k : ℕ) → (picked_slot s c ≡ Some k → ⊥) → slot_at (after_of t c) k ≡ slot_at t k
  pub profile-answered : prepares s c ≡ true → SameProfile (after_of t c) (after_of s c)
  pub state-refused : prepares s c ≡ false → after_of t c ≡ t

stepped_by : (b : Bool) (s t : IonoState) (c : Call) (j : ℕ) → prepares s c ≡ b → after_of t c ≡ prepared_if b t j → after_of s c ≡ prepared_if b s j → (b ≡ true → picked_slot s c ≡ Some j) → (b ≡ true → j < 3) → answer_of t c ≡ answer_of s c → Common s t → FreshFor s t c → Stepped s t c
stepped_by true s t c j eb et es picks small same g fresh =
    let p = picks refl in
    let a = lecden-alike s t j g (fresh j p) in
    record {
      answer-same = same;
      still-common = subst (λ (w : IonoState). Common s w) (sym et) (lecden-common s t j (small refl) g);
      own-slot =
          λ k e. ap (λ (w : IonoState). slot_at w k) et ∙ subst (λ (i : ℕ). slot_at (lecden_of t j) i ≡ slot_at (lecden_of s j) i) (same_Some j k (sym p ∙ e)) a.slot_same ∙ sym (ap (λ (w : IonoState). slot_at w k) es);
      other-slot = λ k h. ap (λ (w : IonoState). slot_at w k) et ∙ lecden-others t j k (λ e. h (p ∙ ap Some (sym e)));
      profile-answered = λ e. subst (λ (w : IonoState). SameProfile w (after_of s c)) (sym et) (subst (λ (w : IonoState). SameProfile (lecden_of t j) w) (sym es) (a.htr-same, a.fnsq-same, a.mark-same, a.owner-same));
      state-refused = λ e. absurd (false≢true (sym e ∙ eb));
    }
stepped_by false s t c j eb et es picks small same g fresh =
    record {
      answer-same = same;
      still-common = subst (λ (w : IonoState). Common s w) (sym et) g;
      own-slot = λ k e. ap (λ (w : IonoState). slot_at w k) et ∙ fresh k e ∙ sym (ap (λ (w : IonoState). slot_at w k) es);
      other-slot = λ k h. ap (λ (w : IonoState). slot_at w k) et;
      profile-answered = λ e. absurd (false≢true (sym eb ∙ e));
      state-refused = λ e. et;
    }

pub one-step : (s t : IonoState) (c : Call) → Common s t → FreshFor s t c → Stepped s t c
one-step s t c g fresh =
    stepped_by (prepares s c) s t c (slot_of s c) refl (same_left c gethp_of s t (itself s t c) g fresh) (call-leaves c s) (picks-own c s) (slot_small c s) (same_answer c gethp_of s t (itself s t c) g fresh) g fresh
