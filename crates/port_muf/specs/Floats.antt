-- Words read as floats.
use Rattle.std.specs.Prelude.{List, map, ℕ, Float}
use Rattle.std.specs.Float.{binary32}
use Rattle.std.specs.Float.Ieee.{of_bits}

-- every word as a float
abbrev pub floats : List ℕ → List Float
floats w = map (of_bits binary32) w
