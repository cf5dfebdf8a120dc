use Rattle.std.proofs.Common.{sym, ap, length, ◌∙◌, arith, inl, inr}
use Rattle.first_difference.proofs.Bytes.{compared-bytes, feed-most, on, off, even, uneven}
use Rattle.first_difference.proofs.verdict.Goals as goal

pub returns-then-a-b : goal.returns-then-a-b
returns-then-a-b c =
    let s = c.in-Some.ensures.steps in
    sym (off _ _ _ _ _ _ c.loop-a.line s.0 s.1 c.if-a-b.true) ∙ c.loop-a.invariant.2 ∙ sym (compared-bytes _ _)

pub overflow_add-line : goal.overflow_add-line
overflow_add-line c = omega (arith, c.feed-line.ensures, feed-most c.in-Some.a.now)

pub loop-a-preserved : goal.loop-a-preserved
loop-a-preserved c =
    let s = c.in-Some.ensures.steps in
    let ours = ap length s.0 in
    let theirs = ap length s.1 in (
      omega (arith, c.feed-line.ensures, feed-most c.in-Some.a.now),
      omega arith,
      rw c.feed-line.ensures (sym (on _ _ _ _ _ _ c.loop-a.line s.0 s.1 c.if-a-b.false) ∙ c.loop-a.invariant.2),
    )

pub returns-then-ours-theirs : goal.returns-then-ours-theirs
returns-then-ours-theirs c =
    sym (even _ _ c.loop-a.line (elim c.in-None.ensures.steps [ inl w ↦ inl w.1.0 | inr w ↦ inr w.1.0 ]) (omega arith))
    ∙ c.loop-a.invariant.2
    ∙ sym (compared-bytes _ _)

pub returns : goal.returns
returns c =
    sym (uneven _ _ c.loop-a.line (elim c.in-None.ensures.steps [ inl w ↦ inl w.1.0 | inr w ↦ inr w.1.0 ]) (λ e. c.if-ours-theirs.false (omega arith)))
    ∙ c.loop-a.invariant.2
    ∙ sym (compared-bytes _ _)
