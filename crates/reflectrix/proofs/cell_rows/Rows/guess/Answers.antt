-- Place by place, what is told follows from what each step made there.
use mathlib.Core.Path.{◌≡◌}
use Prim.Native.Nat.{ℕ}
use native.Mathlib.Nat.{add-zero}
use borrow.Author.Rules.{rules}
use lib.ListN.{get_or}
use Rattle.scalar.specs.F32.{◌/f◌, at}
use Rattle.scalar.proofs.FromFn.{from_fn_each}
use Rattle.reflectrix.specs.Cell.{low_pattern_of, high_pattern_of, told_of}
use Rattle.reflectrix.proofs.cell_test.Cosine.{squared, squared-fits}
use Rattle.reflectrix.proofs.cell_test.Right.{told-right}
use Rattle.reflectrix.proofs.cell_rows.Bounds.{bound_at}
use Rattle.reflectrix.proofs.cell_rows.Rows.guess.Goals as goal

pub numbers-n-requires : goal.numbers-n-requires
numbers-n-requires c = λ i l. rw (c.cosines-sqcos.ensures i l) (squared _).1

pub products-p-requires-clause-cosines : goal.products-p-requires-clause-cosines
products-p-requires-clause-cosines c = λ i l. rw (c.cosines-sqcos.ensures i l) ((squared _).1, (squared _).2)

pub products-q-requires-clause-cosines : goal.products-q-requires-clause-cosines
products-q-requires-clause-cosines c = λ i l. rw (c.cosines-sqcos.ensures i l) ((squared _).1, (squared _).2)

pub returns : goal.returns
returns c =
    let r = c.args.self.now in
    let n = λ (i : ℕ). get_or c.numbers-n.result i 0 in
    let told = from_fn_each (λ (i : ℕ) (y : ℕ). y ≡ told_of (n i) (get_or c.products-p.result i 0) (get_or c.products-q.result i 0) (get_or r.low i 0) (get_or r.high i 0)) (λ i y q l h. (search rules, search rules)) c.from_fn.ensures.items 0 in
    λ i l.
    let e = c.cosines-sqcos.ensures i l in
    let b = squared (c.args.rcosd /f at r.radii i) in
    let lower : get_or r.low i 0 ≡ low_pattern_of (at r.fv i) = rw r.lows (bound_at low_pattern_of r.fv i (search rules) l) in
    let upper : get_or r.high i 0 ≡ high_pattern_of (at r.fv i) = rw r.highs (bound_at high_pattern_of r.fv i (search rules) l) in
    rw (told i l, c.products-p.ensures i l, c.products-q.ensures i l, add-zero (n i), lower, upper, e) (told-right (at r.fv i) _ (n i) (r.held i l) (squared-fits _) b.1 b.2 (c.numbers-n.ensures i l))
