-- The loop replaces the list place by place, as `map` does.
use mathlib.Core.Path.{◌≡◌}
use lib.Ieee.{nan}
use Rattle.profile.specs.Density.{fnd_of}
use Rattle.cases.proofs.Tabulate.{mapped}
use Rattle.profile.proofs.shape_densities.Curves.tails.Given as goal

abbrev pub invariant-loop-h : goal.invariant-loop-h
invariant-loop-h l = l.h-items ≡ mapped (fnd_of l.self) nan l.initial.h-items l.initial.h-items l.h-index
