-- The first lines of an hour, each on what the one before left.
use mathlib.Core.List.{List}
use Prim.Native.Nat.{ℕ, zero, suc, ◌+◌, ◌*◌}
use Rattle.layers.specs.State.{layer_line_at}
use Rattle.layers.specs.declared.LayerMuf.{LayerMuf}
use Rattle.port_muf.specs.HourWords.{line_into}

unfoldable pub lines_into : List LayerMuf → ℕ → List ℕ → List ℕ
lines_into layers zero w = w
lines_into layers (suc k) w = line_into (layer_line_at layers k) (10 + 11 * k) (lines_into layers k w)
