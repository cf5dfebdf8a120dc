-- The definition's test is the code's.
use mathlib.Core.Path.{sym, ap}
use Prim.Native.Nat.{◌+◌, ◌-◌}
use mathlib.Core.Bool.{Bool}
use borrow.Author.Tests.{lt-ltb, le-ltb}
use Rattle.fixed.specs.Fixed.{pick}
use Rattle.exponential.proofs.field.Goals as goal

pub returns-then-s-lt1 : goal.returns-then-s-lt1
returns-then-s-lt1 c = sym (ap (λ (t : Bool). pick t (126 + c.args.e) (125 - c.args.e)) (lt-ltb _ _ c.if-s-lt1.true))

pub returns : goal.returns
returns c = sym (ap (λ (t : Bool). pick t (126 + c.args.e) (125 - c.args.e)) (le-ltb _ _ c.if-s-lt1.false))
