-- The rising test: each of the 49 steps goes up.
use Rattle.std.specs.Prelude.{Bool, true, ◌&&◌, List, ℕ, zero, suc, ◌+◌, Float}
use Rattle.scalar.specs.F32.{◌<f◌, at}

-- n steps, from place i on
unfoldable pub rises_from : List Float → ℕ → ℕ → Bool
rises_from a zero i = true
rises_from a (suc n) i = (at a i <f at a (i + 1)) && rises_from a n (i + 1)

abbrev pub rises_of : List Float → Bool
rises_of a = rises_from a 49 0
