-- The chain's answer decides. Where it was followed, the records of the points are in the file, and their count is the circuit's.
use mathlib.Core.Path.{◌≡◌, refl, sym, ap, ◌∙◌}
use native.Mathlib.Omega.{arith}
use Rattle.std.specs.Prelude.{Ok, Err}
use Rattle.std.proofs.lemmas.Result.{err_from_is_err_and}
use Rattle.records.specs.Record.{record_at}
use Rattle.records.specs.Chain.{chain_of, km_of}
use Rattle.circuit.specs.Read.{circuit_of}
use Rattle.circuit.proofs.Along.{km-most, room-points, points-are, points-found}
use Rattle.circuit.specs.Wide.{form128}
use Rattle.circuit.proofs.wide_circuit.Fit128.{fit128, beside-answered, wide-answered, wide-refused}
use Rattle.circuit.proofs.wide_circuit.read.Goals.{In_ok-c, After-read_along-circuit}
use Rattle.circuit.proofs.wide_circuit.read.Goals as goal

pub returns-in_err-c : goal.returns-in_err-c
returns-in_err-c c =
    let t = err_from_is_err_and c.from_residual.result c.from_residual.ensures.1 in
    t.1 ∙ ap Err t.2 ∙ sym (wide-refused _ _ (sym c.follow.ensures ∙ c.in_err-c.was))

chain : (c : In_ok-c) → chain_of form128 c.args.file.now ≡ Ok c.in_ok-c.c
chain c = sym c.follow.ensures ∙ c.in_ok-c.was

pub read_along-circuit-requires : goal.read_along-circuit-requires
read_along-circuit-requires c = (form128, fit128, chain c, λ file n h. (h, λ r e. e))

km-is : (c : After-read_along-circuit) → c.read_along-circuit.result.km ≡ km_of (record_at form128 c.args.file.now 0)
unfolding circuit_of
km-is c = ap (λ k. k.km) (c.read_along-circuit.ensures form128 fit128 (sym c.follow.ensures ∙ c.in_ok-c.was) (λ file n h. (h, λ r e. e)))

pub overflow_add-circuit : goal.overflow_add-circuit
overflow_add-circuit c =
    let m = km-most form128 fit128 _ _ (sym c.follow.ensures ∙ c.in_ok-c.was) _ (km-is (goal.at.overflow_add-circuit c).After-read_along-circuit) in
    omega (arith, m)

pub slice_bounds-numbers_of-end : goal.slice_bounds-numbers_of-end
slice_bounds-numbers_of-end c =
    room-points form128 fit128 _ _ (sym c.follow.ensures ∙ c.in_ok-c.was) _ (km-is (goal.at.slice_bounds-numbers_of-end c).After-read_along-circuit)

pub numbers_of-f2m3-requires : goal.numbers_of-f2m3-requires
numbers_of-f2m3-requires c =
    let k = km-is (goal.at.numbers_of-f2m3-requires c).After-read_along-circuit in
    let p = points-found form128 fit128 _ _ (sym c.follow.ensures ∙ c.in_ok-c.was) _ k _ _ (λ file n h. (h, λ r e. e)) in
    (omega arith, (omega (arith, (p 0 (omega arith)).0), (form128, (p _ (omega arith)).1)))

pub returns : goal.returns
returns c =
    let e = sym c.follow.ensures ∙ c.in_ok-c.was in
    let k = km-is (goal.at.returns c).After-read_along-circuit in
    let p = points-found form128 fit128 _ _ e _ k _ _ (λ file n h. (h, λ r e. e)) 16 (omega arith) in
    rw (
      wide-answered _ _ e,
      c.read_along-circuit.ensures form128 fit128 e (λ file n h. (h, λ r e. e)),
      c.numbers_of-f2m3.ensures form128 p.1,
      points-are form128 fit128 _ _ e _ k 15 1,
      k,
      beside-answered _ _ e,
    )
    refl
