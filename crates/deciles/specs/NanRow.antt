-- A NaN sunspot number takes the middle row: it is neither at most 50 nor above 100.
use Rattle.std.specs.Prelude.{◌≡◌}
use Rattle.std.specs.Float.{nan}
use Rattle.deciles.specs.F2dis.{sunspot_row_of}

-- what `nan-middle` says
abbrev pub NanMiddle : Type 0
NanMiddle = sunspot_row_of nan ≡ 2
