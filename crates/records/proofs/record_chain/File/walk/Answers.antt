use Prim.Native.Nat.{ℕ, ◌-◌}
use mathlib.Core.Path.{refl, sym, ap, ◌∙◌}
use mathlib.Core.List.{List}
use mathlib.Core.Logic.{inl, inr}
use native.Mathlib.Omega.{arith}
use lib.ListN.{length-set}
use lib.Seq.{length-take-le}
use Rattle.std.proofs.lemmas.Result.{err_from_is_err_and}
use Rattle.std.specs.Prelude.{Ok, Err}
use Rattle.records.specs.Chain as chain
use Rattle.records.proofs.record_chain.Steps.{in-file, step-to, walk-whole, walk-cut, walk-astray, walk-long, walk-bad, walk-on, as-answered, stored}
use Rattle.records.proofs.record_chain.File.walk.Goals.{else-left-ne48-via-then-left-ne48+else-left-ne0, else-left-ne48-via-else-left-ne48}
use Rattle.records.proofs.record_chain.File.walk.Goals as goal
use Rattle.std.proofs.lemmas.List.{take_more_set}

pub loop-next-init : goal.loop-next-init
loop-next-init c = (omega arith, omega arith, omega arith, refl, refl, refl)

pub slice_bounds-step_out-end : goal.slice_bounds-step_out-end
slice_bounds-step_out-end c = sym (length-take-le c.loop-next.count c.loop-next.order (omega arith))

pub returns-in_err-next : goal.returns-in_err-next
returns-in_err-next c =
    let l = c.loop-next in
    let t = err_from_is_err_and c.from_residual.result c.from_residual.ensures.1 in
    t.1
    ∙ ap Err t.2
    ∙ sym (walk-astray _ _ _ _ l.left _ (sym c.step_out.ensures.value ∙ c.in_err-next.was))
    ∙ l.invariant.5

pub returns-then-left-eq0 : goal.returns-then-left-eq0
returns-then-left-eq0 c =
    let l = c.loop-next in
    sym (walk-long _ _ _ _ _ l.left (sym c.step_out.ensures.value ∙ c.in_ok-next.was ∙ ap Ok c.in-Some.is) c.if-left-eq0.true)
    ∙ l.invariant.5

pub may_stand-requires : goal.may_stand-requires
may_stand-requires c = in-file c.args.self.now.form c.args.self.now.bytes.now c.in-Some.next (step-to c.args.self.now.form c.args.self.now.bytes.now _ _ c.in-Some.next (sym c.step_out.ensures.value ∙ c.in_ok-next.was ∙ ap Ok c.in-Some.is))

pub returns-then-not-may_stand : goal.returns-then-not-may_stand
returns-then-not-may_stand c =
    let l = c.loop-next in
    sym
    (walk-bad _ _ _ _ _ l.left (sym c.step_out.ensures.value ∙ c.in_ok-next.was ∙ ap Ok c.in-Some.is)
    c.if-left-eq0.false
    (sym c.may_stand.ensures ∙ c.if-not-may_stand.true))
    ∙ l.invariant.5

pub loop-next-preserved : goal.loop-next-preserved
loop-next-preserved c =
    let l = c.loop-next in
    let n = c.in-Some.next in
    let a = c.args in (
      omega arith,
      omega arith,
      in-file c.args.self.now.form c.args.self.now.bytes.now c.in-Some.next (step-to c.args.self.now.form c.args.self.now.bytes.now _ _ c.in-Some.next (sym c.step_out.ensures.value ∙ c.in_ok-next.was ∙ ap Ok c.in-Some.is)),
      simp length-set l.invariant.3,
      stored l.order l.count n (omega arith) l.invariant.3 l.invariant.4,
      ap (λ (order : List ℕ). chain.walk a.self.now.form a.self.now.bytes.now (l.left - 1) order n) (take_more_set l.order l.count n (omega arith))
          ∙ sym
          (walk-on _ _ _ _ _ l.left (sym c.step_out.ensures.value ∙ c.in_ok-next.was ∙ ap Ok c.in-Some.is)
          c.if-left-eq0.false
          (sym c.may_stand.ensures ∙ c.if-not-may_stand.false))
          ∙ l.invariant.5,
    )

pub returns-then-left-ne0 : goal.returns-then-left-ne0
returns-then-left-ne0 c =
    let l = c.loop-next in
    sym (walk-cut _ _ _ _ l.left (sym c.step_out.ensures.value ∙ c.in_ok-next.was ∙ ap Ok c.in_default.is) c.if-left-ne48.true c.if-left-ne0.true)
    ∙ l.invariant.5

pub returns : goal.returns
returns c =
    let l = c.loop-next in
    let t = length-take-le l.count l.order (omega arith) in
    let e = sym c.step_out.ensures.value ∙ c.in_ok-next.was ∙ ap Ok c.in_default.is in
    as-answered l.order l.count l.invariant.4 t
    ∙ sym
    (walk-whole _ _ _ _ l.left e
    (elim c.else-left-ne48.branch [
      | else-left-ne48-via-then-left-ne48+else-left-ne0 w ↦ inr w.if-left-ne0.false
      | else-left-ne48-via-else-left-ne48 w ↦ inl w.if-left-ne48.false
    ]))
    ∙ l.invariant.5
