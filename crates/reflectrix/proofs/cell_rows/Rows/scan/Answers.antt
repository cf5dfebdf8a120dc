-- A turn writes an angle's row into its part of the cells.
use mathlib.Core.Path.{◌≡◌, refl, ◌∙◌}
use Prim.Native.Nat.{ℕ, ◌+◌, ◌-◌, ◌*◌, ◌≤◌}
use native.Mathlib.Numerals.{add-one}
use native.Mathlib.Omega.{arith}
use borrow.Author.Rules.{rules}
use borrow.Rule.Slice.PartMut.{mid_of, mid_len}
use lib.ListN.{length}
use Rattle.scalar.specs.F32.{at}
use Rattle.reflectrix.specs.Row.{cell_scan_of}
use Rattle.reflectrix.proofs.cell_rows.Writes.{row_in, row_made}
use Rattle.reflectrix.proofs.cell_rows.Rows.scan.Goals as goal

pub loop-ia-init : goal.loop-ia-init
unfolding cell_scan_of
loop-ia-init c = (omega arith, refl)

pub loop-ia-preserved : goal.loop-ia-preserved
unfolding cell_scan_of
loop-ia-preserved c =
    let a = c.args in
    let r = a.self.now in
    let l = c.loop-ia in
    let rcosd = at a.rcosds.now l.ia in
    let long : length l.cells ≡ length a.cells.now = search rules in
    let from : ℕ = 30 * l.ia in
    let room : from + 30 ≤ length l.cells = omega (arith, long) in
    let part = mid_len from (from + 30) l.cells room in
    let old = mid_of from (from + 30 - from) l.cells in
    let e = c.copy_from_slice.ensures.after ∙ row_made r.fv r.radii rcosd old c.row.result (omega (arith, part)) (search rules) c.row.ensures in
    (omega arith, rw (add-one _, ← l.invariant.1, e) (row_in r.fv r.radii rcosd from (from + 30 - from) l.cells 30 (omega arith) (omega (arith, part))))
