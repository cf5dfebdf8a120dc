-- The circuit on the way back, by cases.
use Prim.Native.Nat.{ℕ}
use mathlib.Core.Path.{◌≡◌, refl, sym, ap, ◌∙◌}
use mathlib.Core.List.{List}
use mathlib.Core.Bool.{Bool, true, false, true≢false}
use Rattle.std.specs.Prelude.{Result, Ok, Err, IsOk}
use Rattle.refusal.specs.declared.Refusal.{Refusal}
use Rattle.records.specs.Record.{all_zero}
use Rattle.circuit.specs.declared.Circuit.{Circuit}
use Rattle.circuit.specs.Read.{read_of, circuit_in}
use Rattle.circuit.specs.Written.{good_of}
use Rattle.circuit.specs.declared.wide_circuit.WideCircuit.{WideCircuit}
use Rattle.circuit.specs.Wide.{form128, wide_by, wide_of, wide_in}
use Rattle.circuit.proofs.wide_circuit.Fit128.{fit128, wide-in}
use Rattle.circuit_turn.specs.Turn.{back_by, back_of}
use Rattle.circuit_turn.proofs.Files.{read-good}

-- an answer that is no refusal
pub ok-is : {T : Type 0} (a : Result T Refusal) → IsOk a → (x : T) × (a ≡ Ok x)
ok-is (Ok x) e = (x, refl)
ok-is (Err r) e = absurd (true≢false (sym e))

read-by : (a : Result Circuit Refusal) (x : List ℕ) → IsOk (wide_by a x) → IsOk a
read-by (Ok c) x e = refl
read-by (Err r) x e = absurd (true≢false (sym e))

pub read-wide : (f : List ℕ) → IsOk (wide_of f) → IsOk (read_of form128 f)
unfolding wide_of
read-wide f e = read-by (read_of form128 f) _ e

wide-by : (a : Result Circuit Refusal) (x : List ℕ) → IsOk a → IsOk (wide_by a x)
wide-by (Ok c) x e = refl
wide-by (Err r) x e = absurd (true≢false (sym e))

pub wide_read : (f : List ℕ) → IsOk (read_of form128 f) → IsOk (wide_of f)
unfolding wide_of
wide_read f e = wide-by (read_of form128 f) _ e

answered-by : (z : Bool) (c : Circuit) → IsOk (back_by z c) → (z ≡ true) × (back_by z c ≡ Ok c)
answered-by true c e = (refl, refl)
answered-by false c e = absurd (true≢false (sym e))

pub back-answered : (a : Result WideCircuit Refusal) → IsOk (back_of a)
    → IsOk a × (all_zero (wide_in a).f2m3 ≡ true) × (back_of a ≡ Ok (wide_in a).circuit)
unfolding back_of
back-answered (Ok w) e = let t = answered-by (all_zero w.f2m3) w.circuit e in (refl, t.0, t.1)
back-answered (Err r) e = absurd (true≢false (sym e))

pub back_is : (a : Result WideCircuit Refusal) → IsOk a → all_zero (wide_in a).f2m3 ≡ true → IsOk (back_of a)
unfolding back_of
back_is (Ok w) e z = rw z refl
back_is (Err r) e z = absurd (true≢false (sym e))

pub narrow-read : (f : List ℕ) → IsOk (back_of (wide_of f)) → IsOk (read_of form128 f)
narrow-read f e = read-wide f (back-answered (wide_of f) e).0

pub narrow_good : (f : List ℕ) (c : Circuit) → back_of (wide_of f) ≡ Ok c → good_of c ≡ true
narrow_good f c e =
    let a : IsOk (back_of (wide_of f)) = rw e refl in
    let b : back_of (wide_of f) ≡ Ok (circuit_in (read_of form128 f)) = rw (wide-in f) at (back-answered (wide_of f) a).2 in
    let q : circuit_in (read_of form128 f) ≡ c = ap circuit_in (sym b ∙ e) in
    rw q at (read-good form128 fit128 f (narrow-read f a))
