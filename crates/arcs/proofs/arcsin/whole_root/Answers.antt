use mathlib.Core.Path.{subst}
use Prim.Native.Nat.{ℕ, ◌*◌, ◌<◌}
use native.Mathlib.Nat.{lt_of_le_of_lt, mul-le-mul}
use native.Mathlib.Numerals.{add-one}
use native.Mathlib.Omega.{arith}
use lib.Dec.{lit<}
use Rattle.scalar.proofs.WholeRoot.{root-only}
use Rattle.scalar.proofs.MeanStep.{step-not-below, step_down, guess-pos}
use Rattle.arcs.proofs.arcsin.whole_root.Goals as goal

pub loop-r-init : goal.loop-r-init
loop-r-init c = let h = c.requires.1 in (c.requires.0, omega arith)

pub overflow_mul-r : goal.overflow_mul-r
overflow_mul-r c = record { fits = lt_of_le_of_lt (mul-le-mul c.loop-r.invariant.1 c.loop-r.invariant.1) (lit< tt) }

pub nonzero_div-r : goal.nonzero_div-r
nonzero_div-r c = guess-pos c.args.n c.loop-r.r c.loop-r-test.true

pub overflow_add-r : goal.overflow_add-r
overflow_add-r c = let d = step_down c.args.n c.loop-r.r c.loop-r-test.true in let h = c.loop-r.invariant.1 in omega arith

pub loop-r-smaller : goal.loop-r-smaller
loop-r-smaller c = step_down c.args.n c.loop-r.r c.loop-r-test.true

pub loop-r-preserved : goal.loop-r-preserved
loop-r-preserved c =
    let n = c.args.n in
    let r = c.loop-r.r in
    let d = step_down n r c.loop-r-test.true in
    let h = c.loop-r.invariant.1 in
    (step-not-below n r (guess-pos n r c.loop-r-test.true), omega arith)

pub returns : goal.returns
returns c =
    let n = c.args.n in
    let r = c.loop-r.r in
    root-only n r (c.loop-r-test.false, subst (λ (x : ℕ). n < x * x) (add-one r) c.loop-r.invariant.0)
