-- The angles of the arc sine's table: tangents i / 256 over the cosine, and for half pi less the angle the cosine over j / 256, each shown by one computed test on sharp enclosures of its sine and cosine.
use mathlib.Core.Bool.{◌||◌}
use Prim.Native.Nat.{ℕ, ◌-◌, ◌*◌, ◌^◌, ◌≤◌, ◌<◌}
use lib.Dec.{T, eqb}
use lib.ListN.{get_or}
use lib.Ieee.{size}
use Rattle.series.specs.Series.{full, num, class}
use Rattle.cases.proofs.Entries as table
use Rattle.series.proofs.Sharp.{portion}
use Rattle.scalar.specs.Root.{root, root_in}
use Rattle.arc_tables.specs.Tables.{cosine_of, cosine_at, arcs, half_pi}
use Rattle.arc_tables.proofs.Angles.{good, past_first, Entry, entry}

gentle-test : (i : ℕ) → i < 183 → T (good (2 ^ 25) (cosine_at i) (i * 2 ^ 24) (get_or arcs i 0))
unfolding good cosine_at cosine_of root root_in size arcs portion num full class
gentle-test i h = table.entry (λ i A. good (2 ^ 25) (cosine_at i) (i * 2 ^ 24) A) arcs tt i h

pub gentle-node : (i : ℕ) → i < 183 → Entry (2 ^ 25) (cosine_at i) (i * 2 ^ 24) (get_or arcs i 0)
gentle-node i h = entry (2 ^ 25) (cosine_at i) (i * 2 ^ 24) (get_or arcs i 0) (gentle-test i h)

steep-test : (j : ℕ) → j < 183 → T (eqb j 0 || good (2 ^ 25) (j * 2 ^ 24) (cosine_at j) (half_pi - get_or arcs j 0))
unfolding good cosine_at cosine_of root root_in size arcs portion num full class
steep-test j h = table.entry (λ j A. eqb j 0 || good (2 ^ 25) (j * 2 ^ 24) (cosine_at j) (half_pi - A)) arcs tt j h

pub steep-node : (j : ℕ) → 1 ≤ j → j < 183 → Entry (2 ^ 25) (j * 2 ^ 24) (cosine_at j) (half_pi - get_or arcs j 0)
steep-node j l h = entry (2 ^ 25) (j * 2 ^ 24) (cosine_at j) (half_pi - get_or arcs j 0) (past_first j (good (2 ^ 25) (j * 2 ^ 24) (cosine_at j) (half_pi - get_or arcs j 0)) l (steep-test j h))
