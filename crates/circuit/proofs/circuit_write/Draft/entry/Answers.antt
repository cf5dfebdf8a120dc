-- Record 0, a point or one of kind 3, as the definition has it.
use Prim.Native.Nat.{◌*◌, ◌-◌}
use mathlib.Core.Path.{◌∙◌}
use native.Mathlib.Omega.{arith}
use Rattle.records.proofs.Lists.{length_part}
use Rattle.circuit.proofs.circuit_write.Cells.{part_within, entry-head, entry-point, entry-twelve}
use Rattle.circuit.proofs.circuit_write.Draft.entry.Goals as goal

pub returns-then-i-eq0 : goal.returns-then-i-eq0
returns-then-i-eq0 c =
    let d = c.args.self.now in
    c.head.ensures ∙ entry-head d.form d.fit d.circuit.now d.beside.now d.count c.args.i _ c.next_in-next.ensures c.if-i-eq0.true

pub point-requires : goal.point-requires
point-requires c =
    let d = c.args.self.now in
    let x = part_within d.form.extra 5 (c.args.i - 1) (omega arith) in
    let p = 15 * (c.args.i - 1) in
    let q = d.form.extra * (c.args.i - 1) in (
      length_part p 15 d.circuit.now.points (omega arith),
      omega (arith, d.fit, length_part q d.form.extra d.beside.now (omega (arith, x, d.five))),
    )

pub returns-then-i-c : goal.returns-then-i-c
returns-then-i-c c =
    let d = c.args.self.now in
    rw c.requires.1 at c.point.ensures
    ∙ entry-point d.form d.fit d.circuit.now d.beside.now d.count c.args.i _ c.next_in-next.ensures c.if-i-eq0.false c.if-i-c.true

pub returns : goal.returns
returns c =
    let d = c.args.self.now in
    rw c.requires.1 at c.record.ensures
    ∙ entry-twelve d.form d.fit d.circuit.now d.beside.now d.count c.args.i _ c.next_in-next.ensures c.if-i-eq0.false c.if-i-c.false
