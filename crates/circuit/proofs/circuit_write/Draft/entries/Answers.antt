use Prim.Native.Nat.{ℕ, ◌+◌, ◌*◌}
use mathlib.Core.Path.{◌≡◌, refl, ap, ◌∙◌}
use mathlib.Core.List.{◌++◌}
use native.Mathlib.Omega.{arith}
use native.Mathlib.Nat.{mul-zero}
use lib.ListN.{length, drop}
use Rattle.records.proofs.Lists.{length_part}
use Rattle.circuit.proofs.record_put.Cells.{length-filled}
use Rattle.circuit.specs.Written.{entries_of, file_of}
use Rattle.circuit.proofs.circuit_write.Cells.{part_within, entry_more, length-entries}
use Rattle.circuit.proofs.circuit_write.Draft.entries.Goals as goal

pub loop-i-init : goal.loop-i-init
unfolding entries_of
loop-i-init c = (omega arith, refl, rw mul-zero)

pub entry-requires : goal.entry-requires
entry-requires c =
    let d = c.args.self.now in
    let l = c.loop-i in
    (omega arith, length_part (d.form.size * l.i) d.form.size l.out (omega (arith, part_within d.form.size d.count l.i (omega arith))))

pub loop-i-preserved : goal.loop-i-preserved
loop-i-preserved c =
    let d = c.args.self.now in
    let out = c.args.out.now in
    let l = c.loop-i in
    let e = entry_more d.form d.fit d.circuit.now d.beside.now d.count l.i l.out out _ l.invariant.2 c.entry.ensures in (
      omega arith,
      ap length e
          ∙ length-filled (entries_of d.form d.circuit.now d.beside.now d.count (l.i + 1)) out (d.form.size * (l.i + 1))
          (length-entries d.form d.fit d.circuit.now d.beside.now d.count (l.i + 1)) (omega (arith, part_within d.form.size d.count l.i (omega arith))),
      e,
    )

pub shape_of-out : goal.shape_of-out
shape_of-out c = c.loop-i.invariant.1

pub returns : goal.returns
unfolding file_of
returns c =
    let d = c.args.self.now in
    let out = c.args.out.now in
    let l = c.loop-i in
    let e : l.i ≡ d.count = omega arith in
    l.invariant.2
    ∙ ap (λ (k : ℕ). entries_of d.form d.circuit.now d.beside.now d.count k ++ drop (d.form.size * k) out) e
    ∙ ap (λ (k : ℕ). entries_of d.form d.circuit.now d.beside.now k k ++ drop (d.form.size * d.count) out) d.counted
