-- The loop's invariant: what the segments that are left make of the probe is what all make of it.
use mathlib.Core.Path.{◌≡◌}
use Prim.Native.Nat.{◌≤◌, ◌-◌}
use Rattle.readings.specs.Scan.{scan_from, scan_of}
use Rattle.readings.proofs.scan.Given as goal

abbrev pub invariant-loop-ih : goal.invariant-loop-ih
invariant-loop-ih l = (l.ih ≤ 49) × (scan_from l.from l.to l.probe (49 - l.ih) l.ih ≡ scan_of l.from l.to l.probe)

abbrev pub decreases-loop-ih : goal.decreases-loop-ih
decreases-loop-ih l = 49 - l.ih
