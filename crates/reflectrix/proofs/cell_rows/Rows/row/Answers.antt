-- Each cell is the one that is told or mended at its place.
use mathlib.Core.Path.{◌≡◌, sym, ◌∙◌}
use Prim.Native.Nat.{ℕ}
use native.Mathlib.Omega.{arith}
use borrow.Author.Rules.{rules}
use mir.Syntax.{w32}
use mir.Facts.{to_z_pos}
use lib.IntN.{ℤ, pos}
use lib.ListN.{get_or}
use Rattle.std.proofs.Common.{to_z}
use Rattle.scalar.specs.F32.{◌/f◌, at}
use Rattle.scalar.proofs.FromFn.{from_fn_each}
use Rattle.reflectrix.specs.Cell.{khz_of, sqcos_of}
use Rattle.reflectrix.proofs.cell_rows.Rows.row.Goals as goal

pub returns-then-is_sure : goal.returns-then-is_sure
returns-then-is_sure c =
    let r = c.args.self.now in
    let told = c.guess-told.result in
    λ i l.
    let k = c.is_sure.ensures c.if-is_sure.true i (omega arith) in
    from_fn_each (λ (i : ℕ) (y : ℤ). y ≡ to_z w32 (get_or told i 0)) (λ i y q l h. (search rules, search rules)) c.from_fn.ensures.items (pos 0) i l ∙ to_z_pos w32 {n = get_or told i 0} k ∙ sym ((c.guess-told.ensures i (omega arith)).right k)

pub returns : goal.returns
returns c =
    let r = c.args.self.now in
    from_fn_each (λ (i : ℕ) (y : ℤ). y ≡ khz_of (at r.fv i) (sqcos_of (c.args.rcosd /f at r.radii i))) (λ i y q l h. (search rules, search rules)) c.from_fn-2.ensures.items (pos 0)
