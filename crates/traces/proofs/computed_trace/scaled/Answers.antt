-- Each number is taken and stored, or ends the column.
use Rattle.std.proofs.Common.{rules, arith}
use Rattle.std.proofs.lemmas.Result.{err_from_is_err_and}
use Prim.Native.Nat.{ℕ}
use mathlib.Core.Path.{◌≡◌, refl, sym, ◌∙◌}
use mathlib.Core.Bool.{true, false}
use lib.ListN.{length, replicate, length-replicate}
use Rattle.traces.specs.Computed.{all_fit}
use Rattle.traces.proofs.computed_trace.Computed.{unfit-at, fit-at, stored, fit-end, all-stored}
use Rattle.traces.proofs.computed_trace.scaled.Goals as goal

zeros : length (replicate {A = ℕ} 30 0) ≡ 30
zeros = length-replicate {A = ℕ} 30 0

pub loop-i-init : goal.loop-i-init
loop-i-init c = record { within = omega arith; left = refl; cells = refl }

pub returns-in_err-n : goal.returns-in_err-n
returns-in_err-n c =
    let p = err_from_is_err_and c.from_residual.result c.from_residual.ensures.1 in
    let thirty : length c.args.x.now ≡ 30 = search rules in
    let q = unfit-at c.args.k c.args.x.now c.loop-i.i _ (omega (arith, thirty)) c.in_err-n.ensures in
    let z : all_fit c.args.k c.args.x.now ≡ false = sym c.loop-i.invariant.left ∙ q.0 in
    rw (p.1, p.2, q.1, z)

pub loop-i-preserved : goal.loop-i-preserved
loop-i-preserved c =
    let thirty : length c.args.x.now ≡ 30 = search rules in
    let q = fit-at c.args.k c.args.x.now c.loop-i.i _ (omega (arith, thirty)) c.in_ok-n.ensures in
    record {
      within = omega arith;
      left = sym q.0 ∙ c.loop-i.invariant.left;
      cells = stored c.args.k c.args.x.now (replicate 30 0) c.loop-i.out c.loop-i.i _ (omega (arith, thirty)) (omega (arith, zeros, thirty)) c.loop-i.invariant.cells q.1;
    }

pub returns : goal.returns
returns c =
    let thirty : length c.args.x.now ≡ 30 = search rules in
    let e : c.loop-i.i ≡ 30 = omega (arith, c.loop-i.invariant.within) in
    let z : all_fit c.args.k c.args.x.now ≡ true = sym c.loop-i.invariant.left ∙ fit-end c.args.k c.args.x.now c.loop-i.i (omega (arith, thirty, e)) in
    rw (z, all-stored c.args.k c.args.x.now (replicate 30 0) c.loop-i.out c.loop-i.i (omega (arith, thirty, e)) (omega (arith, zeros, thirty)) c.loop-i.invariant.cells)
