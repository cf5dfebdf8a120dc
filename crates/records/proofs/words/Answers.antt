use Prim.Native.Nat.{ℕ, ◌+◌}
use mathlib.Core.Path.{◌≡◌, refl, ap, ◌∙◌}
use native.Mathlib.Omega.{arith}
use lib.ListN.{length, drop, length-set}
use Rattle.records.specs.Record.{record_words}
use Rattle.records.proofs.Lists.{none-after, words-on, filled-up}
use Rattle.records.proofs.words.Goals as goal

pub loop-i-init : goal.loop-i-init
loop-i-init c = (omega arith, refl, rw none-after)

pub loop-i-preserved : goal.loop-i-preserved
loop-i-preserved c =
    let l = c.loop-i in (
      omega arith,
      simp length-set l.invariant.1,
      rw c.word.ensures (words-on _ _ _ c.args.skip l.i (omega arith) l.invariant.2),
    )

pub shape_of-out : goal.shape_of-out
shape_of-out c = c.loop-i.invariant.1

pub returns : goal.returns
returns c =
    let e : c.loop-i.i ≡ length c.args.out.now = omega arith in
    c.loop-i.invariant.2 ∙ filled-up _ c.args.out.now c.loop-i.i (omega arith) ∙ ap (λ (n : ℕ). drop c.args.skip (record_words c.args.r.now (c.args.skip + n))) e
