use mathlib.Core.Path.{◌≡◌, refl, ap, ◌∙◌}
use mathlib.Core.List.{List, map}
use Prim.Native.Nat.{◌<◌, ◌+◌, ◌*◌, ℕ}
use native.Mathlib.Nat.{le_antisymm}
use native.Mathlib.Numerals.{add-one}
use native.Mathlib.Omega.{arith}
use Rattle.std.proofs.Common.{rules}
use lib.ListN.{length}
use lib.Ieee.{Float, nan}
use Rattle.scalar.specs.F32.{◌+f◌, ◌*f◌, at}
use Rattle.std.proofs.lemmas.List.{get_or-map}
use Rattle.heights.specs.Integrands.{integrand_of}
use Rattle.heights.specs.ReadsByWalk.{flat}
use Rattle.heights.specs.Weights.{wt}
use Rattle.heights.specs.Gethp.{mup_of, hp_of}
use Rattle.heights.proofs.quadrature.Goals as goal

one_of : (ysq mup : List Float) → length ysq ≡ 40 → mup ≡ map integrand_of ysq → (k : ℕ) → k < 40 → at mup k ≡ mup_of (at ysq k)
unfolding mup_of
one_of ysq mup n e k h = ap (λ (l : List Float). at l k) e ∙ get_or-map integrand_of ysq k nan nan (rw n h)

one-turn : (ysq mup : List Float) (ig : ℕ) (w hp : Float) → ig < 20 → w ≡ at wt ig → length ysq ≡ 40 → mup ≡ map integrand_of ysq → hp ≡ hp_of (flat ysq) ig → hp +f w *f (at mup (2 * ig) +f at mup (2 * ig + 1)) ≡ hp_of (flat ysq) (ig + 1)
unfolding hp_of
one-turn ysq mup ig w hp h ew n em eh =
    let z : 2 * ig + 0 ≡ 2 * ig = omega arith in
    rw (add-one ig, z, ew, eh, one_of ysq mup n em (2 * ig) (omega arith), one_of ysq mup n em (2 * ig + 1) (omega arith))

pub loop-ig-init : goal.loop-ig-init
unfolding hp_of
loop-ig-init c = (omega arith, refl, c.integrands-mup.ensures)

pub loop-ig-preserved : goal.loop-ig-preserved
unfolding wt
loop-ig-preserved c =
    let l = c.loop-ig in
    (omega arith, one-turn c.args.ysq _ l.ig _ l.hp c.loop-ig-test.true refl (search rules) l.invariant.2 l.invariant.1, l.invariant.2)

pub returns : goal.returns
returns c = rw (le_antisymm c.loop-ig.invariant.0 c.loop-ig-test.false) at c.loop-ig.invariant.1
