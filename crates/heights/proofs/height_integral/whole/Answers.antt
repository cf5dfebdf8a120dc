use mathlib.Core.Path.{◌≡◌, refl}
use mathlib.Core.List.{List}
use Prim.Native.Nat.{◌+◌, ℕ}
use native.Mathlib.Nat.{le_antisymm}
use native.Mathlib.Numerals.{add-one}
use native.Mathlib.Omega.{arith}
use lib.Ieee.{Float}
use Rattle.scalar.specs.F32.{◌+f◌, ◌/f◌, at}
use Rattle.scalar.specs.Literals.{f1}
use Rattle.scalar.specs.Scalar.{min_of}
use Rattle.heights.specs.Exact.{seg_of, whole_of}
use Rattle.heights.proofs.height_integral.whole.Goals as goal

one-turn : (htr fnsq : List Float) (fr : Float) (i : ℕ) (sum y part : Float) → sum ≡ whole_of htr fnsq fr i → y ≡ min_of (at fnsq (i + 1) /f fr) f1 → part ≡ seg_of (at htr i) (at fnsq i /f fr) (at htr (i + 1)) y → sum +f part ≡ whole_of htr fnsq fr (i + 1)
unfolding whole_of
one-turn htr fnsq fr i sum y part es ey ep = rw (add-one i, es, ep, ey)

pub loop-i-init : goal.loop-i-init
unfolding whole_of
loop-i-init c = (omega arith, refl)

pub loop-i-preserved : goal.loop-i-preserved
loop-i-preserved c =
    let l = c.loop-i in
    let s = c in
    (omega arith, one-turn s.args.p.htr.now s.args.p.fnsq.now s.args.fr l.i l.sum _ _ l.invariant.1 c.min-y.ensures c.seg-part.ensures)

pub returns : goal.returns
returns c = rw (le_antisymm c.loop-i.invariant.0 c.loop-i-test.false) at c.loop-i.invariant.1
