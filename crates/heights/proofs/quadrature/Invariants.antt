-- The loop's invariant: the sum of the terms that are done.
use mathlib.Core.Path.{◌≡◌}
use mathlib.Core.List.{map}
use Prim.Native.Nat.{◌≤◌, ◌-◌}
use Rattle.heights.specs.Integrands.{integrand_of}
use Rattle.heights.specs.ReadsByWalk.{flat}
use Rattle.heights.specs.Gethp.{hp_of}
use Rattle.heights.proofs.quadrature.Given as goal

abbrev pub invariant-loop-ig : goal.invariant-loop-ig
invariant-loop-ig l = (l.ig ≤ 20) × (l.hp ≡ hp_of (flat l.fn.ysq) l.ig) × (l.mup ≡ map integrand_of l.fn.ysq)

abbrev pub decreases-loop-ig : goal.decreases-loop-ig
decreases-loop-ig l = 20 - l.ig
