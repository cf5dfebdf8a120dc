-- Tenths are units of the first place after the point.
use mathlib.Core.Path.{◌≡◌}
use Prim.Native.Nat.{ℕ, ◌%◌, ◌<◌}
use native.Mathlib.Omega.{arith}
use borrow.Author.Tests.{lt-ltb}
use Rattle.lines.specs.Text.{decimal_in, decimal_of}
use Rattle.figures.specs.Number.{placed_text}
use Rattle.figures.specs.FigureText.{tenths_text}

pub tenths-placed : (n : ℕ) → tenths_text n ≡ placed_text 1 n
unfolding tenths_text placed_text decimal_of decimal_in
tenths-placed n =
    let h : n % 10 < 10 = omega arith in
    let e : n % 10 % 10 ≡ n % 10 = omega arith in
    rw (lt-ltb (n % 10) 10 h, e, lt-ltb (n % 10) 10 h)
