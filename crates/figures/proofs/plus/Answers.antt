use native.Mathlib.Omega.{arith}
use borrow.Author.Tests.{le-leb, lt-leb}
use Rattle.figures.proofs.plus.Goals as goal

pub returns-then-n-lt10000 : goal.returns-then-n-lt10000
returns-then-n-lt10000 c = rw (le-leb c.args.n 9999 (omega arith))

pub returns : goal.returns
returns c = rw (lt-leb c.args.n 9999 (omega arith))
