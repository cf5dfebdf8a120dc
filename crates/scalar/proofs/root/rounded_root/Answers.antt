use native.Mathlib.Omega.{arith}
use Rattle.scalar.proofs.RoundedRoot.{rounded}
use Rattle.scalar.proofs.root.rounded_root.Goals as goal

pub returns : goal.returns
returns c = rounded c.args.n c.loop-r-2.r c.loop-r-2.invariant (omega arith)

pub returns-then-n-square : goal.returns-then-n-square
returns-then-n-square c = rounded c.args.n c.args.guess (omega arith) (omega arith)
