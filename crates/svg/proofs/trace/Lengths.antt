-- How long the line's data is at most; a number is given twenty digits, whatever it is.
use mathlib.Core.Bool.{true}
use mathlib.Core.List.{List, []}
use mathlib.Core.Path.{◌≡◌, refl}
use Prim.Native.Nat.{ℕ}
use native.Mathlib.Omega.{arith}
use borrow.Author.Tests.{leb-true}
use lib.Dec.{leb}
use lib.Ieee.{Float}
use lib.ListN.{length}
use Rattle.lines.proofs.Sizes.{AtMost, ◌then◌, decimal, field, times}
use Rattle.std.specs.Prelude.{Option, None, Some}
use Rattle.svg.specs.declared.points.Place.{Place}
use Rattle.svg.specs.Trace.{pen_text, pair_text, step_text, row_point, before_of, step_at, trace_text}

-- a text whose bytes are counted by computing
pub counted : (t : List ℕ) (n : ℕ) → leb (length t) n ≡ true → AtMost t n
counted t n e = record { most = leb-true _ _ e }

pub none : (n : ℕ) → AtMost [] n
none n = record { most = omega arith }

pen : (d : Option Place) → AtMost (pen_text d) 1
unfolding pen_text
pen (Some p) = counted _ 1 refl
pen None = counted _ 1 refl

pair : (x y : ℕ) → AtMost (pair_text x y) 41
unfolding pair_text
pair x y = decimal x then field y

step : (b d : Option Place) → AtMost (step_text b d) 42
unfolding step_text
step b (Some p) = pen b then pair p.x p.y
step b None = none 42

pub trace : (f h : List Float) → AtMost (trace_text f h) 1260
unfolding trace_text
trace f h = times (step_at f h) 42 30 (λ i l. step (before_of f h i) (row_point f h i))
