-- Head, then four lines, each on what the one before left.
use mathlib.Core.Path.{◌≡◌, refl, ap, ◌∙◌}
use Prim.Native.Nat.{ℕ}
use native.Mathlib.Numerals.{add-one}
use native.Mathlib.Omega.{arith}
use Rattle.port_muf.specs.HourWords.{hour_into}
use Rattle.port_muf.proofs.hour_words.Lines.{lines_into}
use Rattle.port_muf.proofs.hour_words.hour_into.Goals as goal

pub loop-k-init : goal.loop-k-init
unfolding lines_into
loop-k-init c = refl

pub loop-k-preserved : goal.loop-k-preserved
unfolding lines_into
loop-k-preserved c = rw (add-one c.loop-k.k, ← c.loop-k.invariant) c.line_into.ensures

pub returns : goal.returns
unfolding hour_into lines_into
returns c =
    let h = c.args.h in
    let four : c.loop-k.k ≡ 4 = omega arith in
    c.loop-k.invariant ∙ ap (λ (k : ℕ). lines_into h.layers k c.head_into.new.out) four ∙ ap (lines_into h.layers 4) c.head_into.ensures
