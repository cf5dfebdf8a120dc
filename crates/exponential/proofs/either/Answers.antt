-- The definition's test is the code's.
use mathlib.Core.Path.{sym, ap}
use mathlib.Core.Bool.{Bool}
use borrow.Author.Tests.{lt-ltb, le-ltb}
use Rattle.fixed.specs.Fixed.{pick}
use Rattle.exponential.proofs.either.Goals as goal

pub returns-then-s-lt1 : goal.returns-then-s-lt1
returns-then-s-lt1 c = let p = c.args in sym (ap (λ (t : Bool). pick t p.plus p.minus) (lt-ltb _ _ c.if-s-lt1.true))

pub returns : goal.returns
returns c = let p = c.args in sym (ap (λ (t : Bool). pick t p.plus p.minus) (le-ltb _ _ c.if-s-lt1.false))
