-- The definition's test is the code's.
use mathlib.Core.Path.{sym, ap}
use Prim.Native.Nat.{◌-◌}
use mathlib.Core.Bool.{Bool}
use borrow.Author.Tests.{lt-ltb, le-ltb}
use Rattle.fixed.specs.Fixed.{pick}
use Rattle.exponential.specs.Tables.{ln2}
use Rattle.exponential.proofs.folded.Goals as goal

pub returns-then-s-lt1 : goal.returns-then-s-lt1
returns-then-s-lt1 c = sym (ap (λ (t : Bool). pick t (c.args.r) (ln2 - c.args.r)) (lt-ltb _ _ c.if-s-lt1.true))

pub returns : goal.returns
returns c = sym (ap (λ (t : Bool). pick t (c.args.r) (ln2 - c.args.r)) (le-ltb _ _ c.if-s-lt1.false))
