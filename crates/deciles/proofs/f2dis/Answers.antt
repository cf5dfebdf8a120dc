-- Each answer follows its path of tests. The index is in range by the ranges of `icc`, `j`, `icl` and `i`.
use Prim.Native.Nat.{◌<◌, ◌≤◌}
use native.Mathlib.Omega.{arith}
use borrow.Author.Tests.{ne_eqb}
use mir.Facts.{Fits-le, Fits-lit}
use Rattle.std.proofs.lemmas.Result.{err_from_is_err_and}
use Rattle.deciles.specs.F2dis.{icc_of, f2dis_of}
use Rattle.deciles.proofs.Ranges.{j-range, i-range, icl-range, icc-range}
use Rattle.deciles.proofs.Blocks.{found_block, no_block}
use Rattle.deciles.proofs.Says.{deviation-says}
use Rattle.deciles.proofs.f2dis.Goals as goal

pub returns-then-f2d-ne576 : goal.returns-then-f2d-ne576
unfolding f2dis_of
returns-then-f2d-ne576 c = record { value = (rw (ne_eqb _ _ c.if-f2d-ne576.true)); deviation_says = deviation-says _ _ _ _ _ _ _ (rw (ne_eqb _ _ c.if-f2d-ne576.true)) }

pub returns-then-f2d : goal.returns-then-f2d
unfolding f2dis_of
returns-then-f2d c = record { value = (rw (c.if-f2d-ne576.false, c.if-f2d.true, ← c.classical.ensures)); deviation_says = deviation-says _ _ _ _ _ _ _ (rw (c.if-f2d-ne576.false, c.if-f2d.true, ← c.classical.ensures)) }

pub overflow_add-iz : goal.overflow_add-iz
overflow_add-iz c =
    let b : c.band.result ≤ 8 = rw c.band.ensures (icl-range _).1 in
    let h : c.half.result ≤ 8 = rw c.half.ensures (i-range _ _) in
    Fits-le {n = 16} (omega arith) (Fits-lit tt)

pub returns-in_err-icc-clause-value : goal.returns-in_err-icc-clause-value
unfolding f2dis_of
returns-in_err-icc-clause-value c =
    let p = err_from_is_err_and c.from_residual.result c.from_residual.ensures.1 in
    let m = no_block (icc_of c.args.abb) _ _ (rw c.time_block.ensures at c.in_err-icc.ensures.value) in
    rw (p.1, p.2, m.1, c.if-f2d-ne576.false, c.if-f2d.false, m.0)

pub returns-in_err-icc-clause-deviation_says : goal.returns-in_err-icc-clause-deviation_says
returns-in_err-icc-clause-deviation_says c = deviation-says _ _ _ _ _ _ _ (returns-in_err-icc-clause-value c)

pub place-at-requires : goal.place-at-requires
place-at-requires c =
    let b = c.band in
    let h = c.half in
    let found = found_block c.in_ok-icc.icc (icc_of c.args.abb) _ (rw c.time_block.ensures at c.in_ok-icc.ensures.value) in
    let top = icc-range c.args.abb in
    let j₀ : 0 < c.row-j.result = rw c.row-j.ensures (j-range _ _).0 in
    let j₁ : c.row-j.result ≤ 6 = rw c.row-j.ensures (j-range _ _).1 in
    let icl₀ : 0 < b.result = rw b.ensures (icl-range _).0 in
    let icl₁ : b.result ≤ 8 = rw b.ensures (icl-range _).1 in
    let i : h.result ≤ 8 = rw h.ensures (i-range _ _) in
    (omega (arith, found.0, found.1), omega (arith, found.0, top), j₀, j₁, omega arith, omega arith)

pub returns-clause-value : goal.returns-clause-value
unfolding f2dis_of
returns-clause-value c =
    let found = found_block c.in_ok-icc.icc (icc_of c.args.abb) _ (rw c.time_block.ensures at c.in_ok-icc.ensures.value) in
    let some = ne_eqb (icc_of c.args.abb) 0 (λ e. omega (arith, found.1, e)) in
    rw (c.if-f2d-ne576.false, c.if-f2d.false, some, ← found.0, ← c.band.ensures, ← c.half.ensures, ← c.row-j.ensures, ← c.place-at.ensures.value, ← c.spread.ensures)

pub returns-clause-deviation_says : goal.returns-clause-deviation_says
returns-clause-deviation_says c = deviation-says _ _ _ _ _ _ _ (returns-clause-value c)
