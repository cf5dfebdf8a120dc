use mathlib.Core.Path.{◌≡◌, refl}
use mathlib.Core.List.{List}
use Prim.Native.Nat.{◌<◌, ◌+◌, ◌-◌, ℕ, suc}
use native.Mathlib.Nat.{le_antisymm}
use native.Mathlib.Omega.{arith}
use lib.Ieee.{Float}
use Rattle.scalar.specs.F32.{at}
use Rattle.readings.specs.Scan.{segment_of, or_on, scan_from}
use Rattle.readings.specs.declared.Reading.TheVariants.{Top}
use Rattle.readings.proofs.scan.Goals as goal

one_more : (from to : List Float) (probe : Float) (ih : ℕ) → ih < 49 → scan_from from to probe (49 - ih) ih ≡ or_on (segment_of (at from ih) (at from (ih + 1)) (at to ih) (at to (ih + 1)) probe) ih (scan_from from to probe (49 - (ih + 1)) (ih + 1))
unfolding scan_from
one_more from to probe ih h = let e : 49 - ih ≡ suc (49 - (ih + 1)) = omega arith in rw e

at-end : (from to : List Float) (probe : Float) (ih : ℕ) → scan_from from to probe 0 ih ≡ Top (at to ih)
unfolding scan_from
at-end from to probe ih = refl

pub loop-ih-init : goal.loop-ih-init
loop-ih-init c = (omega arith, refl)

pub returns-in-Some : goal.returns-in-Some
returns-in-Some c =
    let p = c in
    let h : p.loop-ih.ih < 49 = omega arith in
    rw (one_more _ _ _ _ h, ← c.segment.ensures, c.in-Some.is) at p.loop-ih.invariant.1

pub loop-ih-preserved : goal.loop-ih-preserved
loop-ih-preserved c =
    let p = c in
    let h : p.loop-ih.ih < 49 = omega arith in
    (omega arith, rw (one_more _ _ _ _ h, ← c.segment.ensures, c.in_default.is) at p.loop-ih.invariant.1)

pub returns : goal.returns
returns c =
    let p = c in
    rw (le_antisymm p.loop-ih.invariant.0 c.loop-ih-test.false, at-end) at p.loop-ih.invariant.1
