use borrow.Author.Tests.{lt-ltb, le-ltb}
use Rattle.traces.proofs.computed_trace.number.Goals as goal

pub returns-then-v : goal.returns-then-v
returns-then-v c = rw c.if-v.true

pub returns-then-n-ge4294967296 : goal.returns-then-n-ge4294967296
returns-then-n-ge4294967296 c = rw (c.if-v.false, ← c.times-n.ensures, le-ltb _ _ c.if-n-ge4294967296.true)

pub returns : goal.returns
returns c = rw (c.if-v.false, ← c.times-n.ensures, lt-ltb _ _ c.if-n-ge4294967296.false)
