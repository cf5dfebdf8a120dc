-- After ia turns the cells of the first ia angles are written.
use mathlib.Core.Path.{◌≡◌}
use Prim.Native.Nat.{◌-◌, ◌≤◌}
use Rattle.reflectrix.specs.Row.{cell_scan_of}
use Rattle.reflectrix.proofs.cell_rows.Rows.scan.Given as goal

abbrev pub invariant-loop-ia : goal.invariant-loop-ia
invariant-loop-ia l = (l.ia ≤ l.nang) × (l.cells ≡ cell_scan_of l.rcosds l.self.fv l.self.radii l.initial.cells l.ia)

abbrev pub decreases-loop-ia : goal.decreases-loop-ia
decreases-loop-ia l = l.nang - l.ia
