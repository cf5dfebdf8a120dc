-- Number and value of the regular lines, the number of a slot's hour, and number and values of the whole call, case by case of the definitions. A refusal's number is not 0.
use Rattle.muf.specs.declared.sporadic.EsSearch.{EsSearch}
use Rattle.refusal.specs.Number.{answer_number}
use Rattle.refusal.specs.declared.Refusal.{Refusal}
use Rattle.std.specs.Prelude.{Result, Ok, Err}
use mathlib.Core.Bool.{Bool, true, false, cond}
use mathlib.Core.List.{List}
use mathlib.Core.Path.{◌≡◌, refl}
use Prim.Native.Nat.{ℕ}
use lib.Dec.{eqb}
use lib.ListN.{length}
use lib.Ieee.{Float}
use Rattle.refusal.proofs.Numbers.{no_answer}
use Rattle.scalar.specs.F32.{at}
use Rattle.layers.specs.declared.EsParams.{EsParams}
use Rattle.layers.specs.declared.IonoState.{IonoState}
use Rattle.layers.specs.declared.LayerMuf.{LayerMuf}
use Rattle.profile.specs.Lecden.{slot_at, lecden_of}
use Rattle.profile.specs.declared.slot_curves.Slot.{Slot}
use Rattle.heights.specs.Gethp.{gethp_of}
use Rattle.layer_mufs.specs.Tangents.{tangents_of}
use Rattle.layer_mufs.specs.LayerLine.{line_value, e_line_of}
use Rattle.layer_mufs.specs.Lines.{f2_line_of, f1_line_of}
use Rattle.layer_mufs.specs.Says.{first_refusal_number}
use Rattle.layer_mufs.specs.declared.PathNumbers.{PathNumbers}
use Rattle.layer_mufs.specs.Controlling.{controlling_of}
use Rattle.muf.specs.Domain.{in_domain, lists_reach, taken_rows, row_count_of}
use Rattle.muf.specs.Sporadic.{start_of, search_value, row_at, es_from, es_line_of}
use Rattle.muf.specs.Hour.{hour_of, zero_hour, hour_value, state_value}
use Rattle.muf.specs.Curmuf.{found_then, regular_with, regular_value, no_lines, found_muf_of, es_by, regular_by, muf_at_slot_with, muf_at_slot_of, muf_from_search_by, muf_from_search_with, muf_from_search_of, muf_of_rows_with, flat_muf_with, answer_by, curmuf_of}
use Rattle.muf.specs.LentRecords.{es_row_at, records_answer_with, records_muf_of}
use Rattle.muf.specs.Says.{RegularSays, SlotSays, MufSays}
use Rattle.muf.specs.declared.RegularLines.{RegularLines}
use Rattle.muf.specs.declared.AnswerAndRow.{AnswerAndRow}
use Rattle.muf.specs.declared.MufAnswer.{MufAnswer}
use Rattle.muf.specs.declared.MufHour.{MufHour}

-- the three of an answer where its number is 0
abbrev Is : Result RegularLines Refusal → ℕ → RegularLines → Type 0
Is r number m = (answer_number r ≡ number) × (regular_value r ≡ cond (eqb number 0) m no_lines)

last-by : (f1 : Result LayerMuf Refusal) (e f2 : LayerMuf) → Is (found_then f1 (λ m. Ok (record { e = e; f1 = m; f2 = f2 }))) (answer_number f1) (record { e = e; f1 = line_value f1; f2 = f2 })
last-by (Ok m) e f2 = (refl, refl)
last-by (Err r) e f2 = (refl, rw (no_answer r))

then_by : (a : Result LayerMuf Refusal) (next : LayerMuf → Result RegularLines Refusal) (number : LayerMuf → ℕ) (value : LayerMuf → RegularLines) → ((m : LayerMuf) → Is (next m) (number m) (value m)) → Is (found_then a next) (first_refusal_number (answer_number a) (number (line_value a))) (value (line_value a))
then_by (Ok m) next number value h = h m
then_by (Err r) next number value h = (rw (no_answer r), rw (no_answer r, no_answer r))

pub regular-says : (r : Result RegularLines Refusal) (t : IonoState) (l : Slot) (f2d : List Float) (clat clck : Float) (c : PathNumbers) → r ≡ regular_with gethp_of t l f2d clat clck c → RegularSays r t l f2d clat clck c
unfolding regular_with RegularSays
regular-says r t l f2d clat clck c e =
    let x = tangents_of l c.gcdkm in
    let f2 = f2_line_of t l x.f2 f2d clat clck c in
    let f1 : LayerMuf → Result LayerMuf Refusal = λ m. f1_line_of t l x.fx1 m c.gcdkm c.amind in
    let last : LayerMuf → LayerMuf → Result RegularLines Refusal = λ m n. found_then (f1 m) (λ k. Ok (record { e = m; f1 = k; f2 = n })) in
    let lines : LayerMuf → LayerMuf → RegularLines = λ m n. record { e = m; f1 = line_value (f1 m); f2 = n } in
    rw e
    (then_by (e_line_of t x.fxe c.gcdkm c.amind) (λ m. found_then f2 (last m)) (λ m. first_refusal_number (answer_number f2) (answer_number (f1 m))) (λ m. lines m (line_value f2))
    (λ m. then_by f2 (last m) (λ n. answer_number (f1 m)) (lines m) (λ n. last-by (f1 m) m n)))

es-by : (found : Result EsSearch Refusal) (t : IonoState) (fe : Float) (m : RegularLines) (ks : ℕ) → answer_number (es_by found t fe m ks) ≡ answer_number found
es-by (Ok a) t fe m ks = refl
es-by (Err r) t fe m ks = refl

slot-by : (a : Result RegularLines Refusal) (t : IonoState) (l : Slot) (ks : ℕ) (found : Result EsSearch Refusal) → answer_number (regular_by a t l ks found) ≡ first_refusal_number (answer_number a) (answer_number found)
slot-by (Ok m) t l ks found = es-by found t l.fi0 m ks
slot-by (Err r) t l ks found = rw (no_answer r)

pub slot-says : (r : Result AnswerAndRow Refusal) (s : IonoState) (ks : ℕ) (found : Result EsSearch Refusal) (f2d : List Float) (clat clck : Float) (c : PathNumbers) → r ≡ muf_at_slot_of s ks found f2d clat clck c → SlotSays r s ks found f2d clat clck c
unfolding muf_at_slot_with SlotSays
slot-says r s ks found f2d clat clck c e =
    let t = lecden_of s ks in
    let l = slot_at t ks in
    rw e (slot-by (regular_with gethp_of t l f2d clat clck c) t l ks found)

-- the values of a call where its number is 0
abbrev AnswerIs : Result MufAnswer Refusal → ℕ → IonoState → IonoState → MufHour → Type 0
AnswerIs r number s t hour = (answer_number r ≡ number) × (hour_value r ≡ cond (eqb number 0) hour zero_hour) × (state_value s r ≡ cond (eqb number 0) t s)

lines-by : (m : Result RegularLines Refusal) (found : Result EsSearch Refusal) (s t : IonoState) (l : Slot) (ks : ℕ) → AnswerIs (answer_by (regular_by m t l ks found)) (first_refusal_number (answer_number m) (answer_number found)) s t (hour_of (regular_value m) (es_line_of (search_value found) l.fi0).line ks)
unfolding found_muf_of
lines-by (Ok m) (Ok a) s t l ks = (refl, refl, refl)
lines-by (Ok m) (Err r) s t l ks = (refl, rw (no_answer r), rw (no_answer r))
lines-by (Err r) found s t l ks = (rw (no_answer r), rw (no_answer r, no_answer r), rw (no_answer r, no_answer r))

call-by : (d reach : Bool) (s : IonoState) (found : Result EsSearch Refusal) (f2d clat clck : List Float) (c : PathNumbers) → let ks = controlling_of s in let t = lecden_of s ks in let l = slot_at t ks in let m = regular_with gethp_of t l f2d (at clat ks) (at clck ks) c in AnswerIs (answer_by (muf_from_search_by d reach gethp_of s found f2d clat clck c)) (cond d (cond reach (first_refusal_number (answer_number m) (answer_number found)) 10) 9) s t (hour_of (regular_value m) (es_line_of (search_value found) l.fi0).line ks)
unfolding muf_at_slot_with
call-by true true s found f2d clat clck c =
    let ks = controlling_of s in
    let t = lecden_of s ks in
    let l = slot_at t ks in
    lines-by (regular_with gethp_of t l f2d (at clat ks) (at clck ks) c) found s t l ks
call-by true false s found f2d clat clck c = (refl, refl, refl)
call-by false reach s found f2d clat clck c = (refl, refl, refl)

muf-says : (r : Result MufAnswer Refusal) (s : IonoState) (found : Result EsSearch Refusal) (f2d clat clck : List Float) (c : PathNumbers) → r ≡ answer_by (muf_from_search_of s found f2d clat clck c) → MufSays r s found f2d clat clck c
unfolding muf_from_search_with MufSays
muf-says r s found f2d clat clck c e = rw e (call-by (in_domain c) (lists_reach (controlling_of s) (length f2d) (length clat) (length clck)) s found f2d clat clck c)

pub flat-says : (r : Result MufAnswer Refusal) (s : IonoState) (es f2d clat clck : List Float) (c : PathNumbers) → r ≡ curmuf_of s es f2d clat clck c → MufSays r s (es_from (row_at es) c (row_count_of (length es) s.km) 0 start_of) f2d clat clck c
unfolding flat_muf_with muf_of_rows_with
flat-says r s es f2d clat clck c e = muf-says r s (es_from (row_at es) c (row_count_of (length es) s.km) 0 start_of) f2d clat clck c e

pub records-say : (r : Result MufAnswer Refusal) (s : IonoState) (es : List EsParams) (f2d clat clck : List Float) (c : PathNumbers) → r ≡ records_muf_of s es f2d clat clck c → MufSays r s (es_from (es_row_at es) c (taken_rows (length es) s.km) 0 start_of) f2d clat clck c
unfolding records_answer_with muf_of_rows_with
records-say r s es f2d clat clck c e = muf-says r s (es_from (es_row_at es) c (taken_rows (length es) s.km) 0 start_of) f2d clat clck c e
