-- `genion`: the ionogram of slot k, off the density profile that `lecden` made for the same slot, or a supplied one, with the segment of each true height. The refusals: 6 for a slot above 2, then 19 for a profile that is another slot's or nobody's. A slot sheet takes its rows by `genion_with`, which refuses nothing.
use Rattle.std.specs.Prelude.{cond, Result, Ok, Err, List, ℕ, ◌+◌, ◌*◌, leb, Float}
use Rattle.scalar.specs.F32.{at}
use Rattle.layers.specs.Owners.{owned_by}
use Rattle.layers.specs.declared.IonoState.{IonoState}
use Rattle.heights.specs.Gethp.{Finder, gethp_of}
use Rattle.refusal.specs.declared.Refusal.{Refusal}
use Rattle.reflectrix.specs.declared.Ionogram.{Ionogram}
use Rattle.sounding.specs.Grid.{fvert_of}
use Rattle.sounding.specs.Rows.{rows_with}

unfoldable pub fvert_at : IonoState → ℕ → List Float
fvert_at s k = fvert_of (at s.fi (3 * k)) (at s.fi (3 * k + 1)) (at s.fi (3 * k + 2))

unfoldable pub genion_with : Finder → IonoState → ℕ → Ionogram
genion_with find s k = rows_with find s k (fvert_at s k)

abbrev pub genion_of : IonoState → ℕ → Ionogram
genion_of = genion_with gethp_of

-- 6 for a slot above 2, then 19 for a profile that is not the slot's
unfoldable pub genion_answer : IonoState → ℕ → Result Ionogram Refusal
genion_answer s k =
    cond (leb k 2) (cond (owned_by s k) (Ok (genion_of s k)) (Err Refusal.Owner)) (Err Refusal.SlotNumber)
