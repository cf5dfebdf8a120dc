-- The rules of `from_layers` and `ionset` that need no state.
use Rattle.std.specs.Prelude.{Bool, ◌&&◌, ◌||◌, List, ℕ, ◌+◌, ◌*◌, leb, set, Float}
use Rattle.scalar.specs.F32.{◌-f◌, ◌≤f◌, at}
use Rattle.scalar.specs.Literals.{f0, f0_2}

-- 1 to 5 points
unfoldable pub count_taken : ℕ → Bool
count_taken n = leb 1 n && leb n 5

-- row k of a table replaced: the Rust's `state.fi[k] = p.fi`
unfoldable pub row_set : List Float → ℕ → List Float → List Float
row_set t k row = set (set (set t (3 * k) (at row 0)) (3 * k + 1) (at row 1)) (3 * k + 2) (at row 2)

-- F1 is at most 0.2 MHz above E, or F2 above F1
unfoldable pub too_close : Float → Float → Float → Bool
too_close fi0 fi1 fi2 = (fi1 -f fi0 -f f0_2 ≤f f0) || (fi2 -f fi1 -f f0_2 ≤f f0)
