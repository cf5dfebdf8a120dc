-- The tests in the definition's order; the record is lent as its part of the file.
use Prim.Native.Nat.{ℕ}
use mathlib.Core.Path.{◌≡◌, ap, ◌∙◌}
use mathlib.Core.List.{List}
use borrow.Author.Tests.{eq-eqb, ne_eqb, lt-ltb, le-ltb}
use Rattle.std.specs.Prelude.{Option, Some, None, Result, Ok, Err}
use Rattle.refusal.specs.declared.Refusal.{Refusal}
use Rattle.records.specs.Record.{half_at}
use Rattle.records.specs.Chain.{step_of}
use Rattle.records.proofs.record_chain.Steps.{step-told}
use Rattle.records.proofs.record_chain.File.step_out.Goals.{then-next-self-via-then-next-self, then-next-self-via-else-next-self+then-is_among}
use Rattle.records.proofs.record_chain.File.step_out.Goals as goal

pub returns-then-next-eq0 : goal.returns-then-next-eq0
unfolding step_of
returns-then-next-eq0 c =
    let a = c.args in
    let f = a.self.now in
    let read = c.half-next.ensures ∙ ap (λ (r : List ℕ). half_at r 2) c.record.ensures in
    let t = step-told f.form f.bytes.now a.order.now a.at (Ok None) (rw (← read, eq-eqb _ _ c.if-next-eq0.true)) in
    record { value = t.0; result_value = t.1 }

pub returns-then-next-self : goal.returns-then-next-self
unfolding step_of
returns-then-next-self c =
    let a = c.args in
    let f = a.self.now in
    let read = c.half-next.ensures ∙ ap (λ (r : List ℕ). half_at r 2) c.record.ensures in
    let e : ◌≡◌ {A = Result (Option ℕ) Refusal} (Err Refusal.ChainStep) (step_of f.form f.bytes.now a.order.now a.at) =
    elim c.then-next-self.branch [
      | then-next-self-via-then-next-self w ↦ rw (← read, ne_eqb _ _ c.if-next-eq0.false, le-ltb _ _ w.if-next-self.true)
      | then-next-self-via-else-next-self+then-is_among w ↦
          rw (
            ← read,
            ne_eqb _ _ c.if-next-eq0.false,
            lt-ltb _ _ w.if-next-self.false,
            ← w.is_among.ensures,
            w.if-is_among.true,
          )
    ] in
    let t = step-told f.form f.bytes.now a.order.now a.at (Err Refusal.ChainStep) e in
    record { value = t.0; result_value = t.1 }

pub returns : goal.returns
unfolding step_of
returns c =
    let a = c.args in
    let f = a.self.now in
    let read = c.half-next.ensures ∙ ap (λ (r : List ℕ). half_at r 2) c.record.ensures in
    let t = step-told f.form f.bytes.now a.order.now a.at (Ok (Some c.half-next.result))
    (rw (
      ← read,
      ne_eqb _ _ c.if-next-eq0.false,
      lt-ltb _ _ c.if-next-self.false,
      ← c.is_among.ensures,
      c.if-is_among.false,
    )) in
    record { value = t.0; result_value = t.1 }
