-- A bound of the list of bounds is its frequency's.
use mathlib.Core.Path.{◌≡◌}
use mathlib.Core.List.{List, map}
use Prim.Native.Nat.{ℕ, ◌<◌}
use lib.Ieee.{Float, nan}
use lib.ListN.{length, get_or}
use Rattle.scalar.specs.F32.{at}
use Rattle.std.proofs.lemmas.List.{get_or-map}

pub bound_at : (h : Float → ℕ) (fv : List Float) (i : ℕ) → length fv ≡ 32 → i < 32 → get_or (map h fv) i 0 ≡ h (at fv i)
bound_at h fv i l k = get_or-map h fv i nan 0 (rw l k)
