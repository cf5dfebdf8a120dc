-- Each path is the clause that its tests choose.
use Rattle.heights.specs.Nodes.{ig_at}
use borrow.Author.Tests.{lt-ltb, le-ltb}
use native.Mathlib.Omega.{arith}
use Rattle.heights.proofs.forty_reads.ig_at.Goals as goal

pub returns-then-k-lt20 : goal.returns-then-k-lt20
unfolding ig_at
returns-then-k-lt20 c = (omega arith, rw (lt-ltb _ _ c.if-k-lt20.true))

pub returns : goal.returns
unfolding ig_at
returns c = (omega arith, rw (le-ltb _ _ c.if-k-lt20.false))
