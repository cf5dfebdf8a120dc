-- There and back.
use Prim.Native.Nat.{ℕ}
use mathlib.Core.Path.{◌≡◌, refl, ap, sym, subst, ◌∙◌}
use mathlib.Core.List.{List, []}
use mathlib.Core.Bool.{true, true≢false}
use Rattle.std.specs.Prelude.{Result, Ok, Err, IsOk, is_ok}
use Rattle.refusal.specs.declared.Refusal.{Refusal}
use native.Mathlib.Omega.{arith}
use lib.ListN.{length, replicate}
use Rattle.circuit.specs.declared.Circuit.{Circuit}
use Rattle.records.specs.Record.{form64, all_zero}
use Rattle.circuit.specs.Read.{read_of, circuit_in, beside_of}
use Rattle.records.proofs.Lists.{zeros}
use Rattle.circuit.proofs.Lists.{length-read}
use Rattle.records.proofs.Lists.{fit64}
use Rattle.records.proofs.record_chain.Followed.{followed}
use Rattle.circuit.specs.Written.{file_of}
use Rattle.circuit.specs.Forms.{Beside, InForm}
use Rattle.circuit.specs.Laws.{ReadBack}
use Rattle.circuit.proofs.circuit_laws.Paper.{paper-laws}
use Rattle.circuit.proofs.circuit_laws.WrittenRead.{chain-answered}
use Rattle.circuit.specs.declared.wide_circuit.WideCircuit.{WideCircuit}
use Rattle.circuit.specs.Wide.{form128, wide_of, wide_in}
use Rattle.circuit.proofs.wide_circuit.Fit128.{fit128, beside-answered, wide-in}
use Rattle.circuit.proofs.wide_circuit.Laws.{wide_back, wide_laws}
use Rattle.circuit_turn.specs.Turn.{back_of, written_by, widened, narrowed}
use Rattle.circuit_turn.specs.Laws.{Widens, Narrows}
use Rattle.circuit_turn.proofs.Outcomes.{narrow-read, back-answered, back_is, wide_read}
use Rattle.circuit_turn.proofs.Kept.{kept, kept-in-form, zero-beside, zero_held}

none : Beside form64 []
none = record { words = tt; five = refl }

written-ok : (a : Result Circuit Refusal) (file : Circuit → List ℕ) → IsOk a → written_by a file ≡ file (circuit_in a)
written-ok (Ok c) file e = refl
written-ok (Err r) file e = absurd (true≢false (sym e))

widened_is : (f : List ℕ) → IsOk (read_of form64 f)
    → widened f ≡ file_of form128 (circuit_in (read_of form64 f)) (replicate 5 0)
unfolding widened
widened_is f a = written-ok (read_of form64 f) (λ c. file_of form128 c (replicate 5 0)) a

narrowed-is : (f : List ℕ) → IsOk (back_of (wide_of f)) → narrowed f ≡ file_of form64 (wide_in (wide_of f)).circuit []
unfolding narrowed
narrowed-is f a = rw (back-answered (wide_of f) a).2 refl

pub widen_keeps : (f : List ℕ) → Widens f
    → wide_of (widened f) ≡ Ok (record { circuit = circuit_in (read_of form64 f); f2m3 = replicate 5 0 })
widen_keeps f w =
    let c = circuit_in (read_of form64 f) in
    let file = file_of form128 c (replicate 5 0) in
    rw (widened_is f w.answered)
    (wide_back c (replicate 5 0) file
    (subst (λ (x : List ℕ). ReadBack form128 c x file) (zero_held c)
    (kept form64 fit64 form128 fit128 f (replicate 5 0) w.bytes w.answered zero-beside)))

pub narrow_keeps : (f : List ℕ) → Narrows f → read_of form64 (narrowed f) ≡ Ok (wide_in (wide_of f)).circuit
narrow_keeps f w =
    rw (narrowed-is f w.answered, wide-in f)
    (kept form128 fit128 form64 fit64 f [] w.bytes (narrow-read f w.answered) none).answer

pub widened-in-form : (f : List ℕ) → Widens f → InForm form128 (widened f)
widened-in-form f w =
    rw (widened_is f w.answered)
    (kept-in-form form64 fit64 form128 fit128 f (replicate 5 0) w.bytes w.answered zero-beside)

pub narrowed-in-form : (f : List ℕ) → Narrows f → InForm form64 (narrowed f)
narrowed-in-form f w =
    rw (narrowed-is f w.answered, wide-in f)
    (kept-in-form form128 fit128 form64 fit64 f [] w.bytes (narrow-read f w.answered) none)

back-zero : (c : Circuit) → back_of (Ok (record { circuit = c; f2m3 = replicate 5 0 })) ≡ Ok c
unfolding back_of all_zero
back-zero c = refl

pub narrow-widened-any : (f : List ℕ) → Widens f → narrowed (widened f) ≡ file_of form64 (circuit_in (read_of form64 f)) []
narrow-widened-any f w =
    let k = widen_keeps f w in
    narrowed-is (widened f)
    (ap (λ (a : Result Circuit Refusal). is_ok a) (ap back_of k ∙ back-zero (circuit_in (read_of form64 f))))
    ∙ ap (λ (a : Result WideCircuit Refusal). file_of form64 (wide_in a).circuit []) k

pub narrow-widened : (f : List ℕ) → InForm form64 f → narrowed (widened f) ≡ f
narrow-widened f w =
    narrow-widened-any f (record { bytes = w.bytes; answered = w.read }) ∙ paper-laws.file-again f w

-- F2M3 that are all +0 are five zeros
five-zeros : (f : List ℕ) → IsOk (read_of form128 f) → all_zero (wide_in (wide_of f)).f2m3 ≡ true
    → (wide_in (wide_of f)).f2m3 ≡ replicate 5 0
five-zeros f a z =
    let g = chain-answered form128 f a in
    let t = followed form128 fit128 f g.0 g.1 in
    let l : length (beside_of form128 f) ≡ 5
    = ap length (beside-answered f g.0 g.1)
    ∙ length-read form128 f g.0.order 1 15 1 5 _ (omega (arith, t.head.most)) in
    let y : all_zero (beside_of form128 f) ≡ true = rw (wide-in f) at z in
    rw (wide-in f) (zeros (beside_of form128 f) y ∙ ap (λ (n : ℕ). replicate n 0) l)

pub widen-narrowed : (f : List ℕ) → InForm form128 f → all_zero (wide_in (wide_of f)).f2m3 ≡ true → widened (narrowed f) ≡ f
widen-narrowed f w z =
    let b = back_is (wide_of f) (wide_read f w.read) z in
    let k = narrow_keeps f (record { bytes = w.bytes; answered = b }) in
    widened_is (narrowed f) (ap (λ (a : Result Circuit Refusal). is_ok a) k)
    ∙ ap (λ (a : Result Circuit Refusal). file_of form128 (circuit_in a) (replicate 5 0)) k
    ∙ ap (file_of form128 (wide_in (wide_of f)).circuit) (sym (five-zeros f w.read z))
    ∙ wide_laws.file-again f w
