-- The step is at most 8, so that the table has an entry for it and the entry is a count of the scan.
use Prim.Native.Nat.{◌-◌}
use native.Mathlib.Omega.{arith}
use borrow.Author.Tests.{eqb-false}
use Rattle.refusal.specs.declared.Refusal.{Refusal}
use Rattle.std.proofs.lemmas.Result.{err_from_is_err_and}
use Rattle.reflectrix.specs.Angles.{distance_step_of, sang_of}
use Rattle.reflectrix.proofs.scan_angles.Counts.{step_range, step-found, step-missing, nangx-range}
use Rattle.reflectrix.proofs.scan_angles.sang.Goals as goal

pub returns-in_err-id : goal.returns-in_err-id
unfolding sang_of
returns-in_err-id c =
    let p = err_from_is_err_and c.from_residual.result c.from_residual.ensures.1 in
    let m = step-missing (distance_step_of c.args.gcdkm) Refusal.Distance _ (rw c.step.ensures at c.in_err-id.ensures.value) in
    rw (p.1, p.2, m.1, m.0)

pub nangx-requires : goal.nangx-requires
nangx-requires c =
    let f = step-found _ _ _ (rw c.step.ensures at c.in_ok-id.ensures.value) in
    let e = f.0 in
    let n = eqb-false _ _ f.1 in
    let h = step_range c.args.gcdkm in
    omega arith

pub count-requires : goal.count-requires
count-requires c =
    let f = step-found _ _ _ (rw c.step.ensures at c.in_ok-id.ensures.value) in
    let e = f.0 in
    let n = eqb-false _ _ f.1 in
    let h = step_range c.args.gcdkm in
    rw c.nangx.ensures (nangx-range (c.in_ok-id.id - 1) (omega arith))

pub returns : goal.returns
unfolding sang_of
returns c =
    let f = step-found _ _ _ (rw c.step.ensures at c.in_ok-id.ensures.value) in
    rw (f.1, f.0, ← c.nangx.ensures, ← c.count.ensures)
