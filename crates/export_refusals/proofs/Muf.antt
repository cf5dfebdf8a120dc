-- The MUF: the words lent, then the refusals of `f2dis`, of `curmuf` and of the nominal MUF.
use mathlib.Core.Bool.{Bool, true, false}
use mathlib.Core.List.{List}
use mathlib.Core.Path.{◌≡◌, refl, sym, subst}
use Rattle.std.specs.Prelude.{Result, IfErr}
use Rattle.refusal.specs.declared.Refusal.{Refusal}
use Rattle.refusal.specs.Number.{answer_number}
use Prim.Native.Nat.{ℕ, ◌/◌}
use lib.Dec.{ltb, eqb}
use lib.ListN.{length, get_or}
use lib.Ieee.{Float, nan}
use Rattle.scalar.specs.F32.{◌≤f◌}
use Rattle.scalar.specs.Literals.{f0}
use Rattle.records.specs.Chain.{member}
use Rattle.layers.specs.declared.IonoState.{IonoState}
use Rattle.layers.specs.declared.LayerParams.{LayerParams}
use Rattle.layers.specs.declared.EsParams.{EsParams}
use Rattle.heights.specs.Gethp.{gethp_of}
use Rattle.deciles.specs.F2dis.{icc_of, f2dis_of}
use Rattle.layer_mufs.specs.Controlling.{controlling_of}
use Rattle.layer_mufs.specs.declared.PathNumbers.{PathNumbers}
use Rattle.muf.specs.Sporadic.{start_of, row_at, es_from}
use Rattle.muf.specs.declared.sporadic.EsSearch.{EsSearch}
use Rattle.muf.specs.declared.MufHour.{MufHour}
use Rattle.muf.specs.Curmuf.{in_domain, lists_reach, muf_from_search_by, muf_from_search_with, muf_of_rows_with, row_count_of, flat_muf_with, flat_muf_of}
use Rattle.nominal.specs.Nommuf.{path_taken, nommuf_of}
use Rattle.nominal.specs.Factors.{counts_agree}
use Rattle.port_state.specs.State.{state_words, state_of}
use Rattle.port_state.specs.Ports.{Ported, points_of}
use Rattle.port_state.specs.Words.{number}
use Rattle.port_muf.specs.Floats.{floats}
use Rattle.port_muf.specs.F2disWords.{f2dis_by, f2dis_left}
use Rattle.port_muf.specs.Exports.{leaves, path_numbers_of, done_left, curmuf_by, HourLeft, curmuf_left}
use Rattle.port_muf.specs.NominalExports.{nominal_into, nominal_words, word_rows, words_reach, five_at_most, nominal_left}
use Rattle.sheet_refusals.specs.Refusals.{Among}
use Rattle.sheet_refusals.proofs.Muf.{flat-refused}
use Rattle.sheet_refusals.proofs.Sheet.{deciles-right}
use Rattle.export_refusals.specs.Exports.{OneOf, f2dis_numbers, curmuf_numbers, nommuf_numbers}
use Rattle.export_refusals.proofs.Cases.{either, by-answer}

-- ---- `f2dis`

deviation-in : (f2d : List Float) (fmuf ssn clat freq abb : Float) → OneOf f2dis_numbers (answer_number (f2dis_of f2d fmuf ssn clat freq abb))
unfolding f2dis_of member
deviation-in f2d fmuf ssn clat freq abb =
    let P : Result Float Refusal → Type 0 = λ d. OneOf f2dis_numbers (answer_number d) in
    either P (eqb (length f2d) 576) _ _ (either P (get_or f2d 0 nan ≤f f0) _ _ refl (either P (eqb (icc_of abb) 0) _ _ refl refl)) refl

f2dis-by : (a b : Bool) (out : List ℕ) (d : Result Float Refusal) → OneOf f2dis_numbers (answer_number d) → OneOf f2dis_numbers (f2dis_by a b out d).number
unfolding member
f2dis-by true b out d p = refl
f2dis-by false true out d p = refl
f2dis-by false false out d p = p

pub f2dis-numbers : (deciles : List Float) (numbers out : List ℕ) → OneOf f2dis_numbers (f2dis_left deciles numbers out).number
unfolding f2dis_left
f2dis-numbers deciles numbers out =
    f2dis-by (ltb (length numbers) 5) (ltb (length out) 1) out _
    (deviation-in deciles (number numbers 0) (number numbers 1) (number numbers 2) (number numbers 3) (number numbers 4))

-- ---- `curmuf`: where its lists reach, the input, the hops and the time block; else the input, then the lists

unreached : (d : Bool) (s : IonoState) (step : Result EsSearch Refusal) (f2d clat clck : List Float) (c : PathNumbers) → IfErr (muf_from_search_by d false gethp_of s step f2d clat clck c) (Among curmuf_numbers)
unfolding member
unreached true s step f2d clat clck c = refl
unreached false s step f2d clat clck c = refl

reached-or-not : (b : Bool) (s : IonoState) (es f2d clat clck : List Float) (c : PathNumbers) → lists_reach (controlling_of s) (length f2d) (length clat) (length clck) ≡ b → IfErr (flat_muf_of s es f2d clat clck c) (Among curmuf_numbers)
unfolding flat_muf_with muf_of_rows_with muf_from_search_with member
reached-or-not true s es f2d clat clck c e =
    flat-refused (Among curmuf_numbers) refl refl refl s es f2d clat clck c (deciles-right (controlling_of s) (length f2d) (length clat) (length clck) e) e
reached-or-not false s es f2d clat clck c e =
    let step = es_from (row_at es) c (row_count_of (length es) s.km) 0 start_of in
    subst (λ (b : Bool). IfErr (muf_from_search_by (in_domain c) b gethp_of s step f2d clat clck c) (Among curmuf_numbers)) (sym e) (unreached (in_domain c) s step f2d clat clck c)

curmuf-by : (a b c : Bool) (state es out : List ℕ) (h : HourLeft) → OneOf curmuf_numbers h.number → OneOf curmuf_numbers (curmuf_by a b c (leaves 1 state es out) h).number
unfolding member
curmuf-by true b c state es out h p = refl
curmuf-by false true c state es out h p = refl
curmuf-by false false true state es out h p = refl
curmuf-by false false false state es out h p = p

pub curmuf-numbers : (state es : List ℕ) (deciles : List Float) (clat clck numbers out : List ℕ) → OneOf curmuf_numbers (curmuf_left state es deciles clat clck numbers out).number
unfolding curmuf_left done_left member
curmuf-numbers state es deciles clat clck numbers out =
    let s = state_of state in
    let d = flat_muf_of s (floats es) deciles (floats clat) (floats clck) (path_numbers_of numbers) in
    curmuf-by (ltb (length state) state_words) (ltb (length numbers) 4) (ltb (length out) 54) state es out _
    (by-answer curmuf_numbers (λ a. (done_left a state es out).number) (λ a. refl) (λ r. refl) d
    (reached-or-not (lists_reach (controlling_of s) (length deciles) (length (floats clat)) (length (floats clck))) s (floats es) deciles (floats clat) (floats clck) (path_numbers_of numbers) refl))

-- ---- the nominal MUF

nominal-in : (points : List LayerParams) (f2m3 : List Float) (es : List EsParams) (km : ℕ) (gcd gcdkm : Float) → IfErr (nommuf_of points f2m3 es km gcd gcdkm) (Among nommuf_numbers)
unfolding nommuf_of member
nominal-in points f2m3 es km gcd gcdkm =
    let P : Result MufHour Refusal → Type 0 = λ a. IfErr a (Among nommuf_numbers) in
    either P (counts_agree km (length f2m3)) _ _ (either P (path_taken gcd gcdkm) _ _ tt refl) refl

pub nommuf-numbers : (points f2m3 es numbers out : List ℕ) → OneOf nommuf_numbers (nominal_left points f2m3 es numbers out).number
unfolding nominal_left nominal_into nominal_words member
nommuf-numbers points f2m3 es numbers out =
    let P : Ported → Type 0 = λ a. OneOf nommuf_numbers a.number in
    let n = length points / 9 in
    either P (words_reach (length points) (length es) (length numbers) (length out)) _ _
    (either P (five_at_most (length points) (length f2m3)) _ _
    (by-answer nommuf_numbers (λ a. (nominal_into a out).number) (λ h. refl) (λ r. refl) (nominal_words points f2m3 es numbers n) (nominal-in (points_of points n) (floats f2m3) (word_rows es n) n (number numbers 0) (number numbers 1)))
    refl) refl
