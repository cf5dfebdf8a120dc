-- Each path is the clause that its tests choose; each call is what its contract says.
use borrow.Author.Tests.{le-leb, lt-leb}
use Rattle.records.proofs.record_chain.File.may_stand.Goals as goal

pub returns-then-left-ge48 : goal.returns-then-left-ge48
returns-then-left-ge48 c = rw (le-leb _ _ c.if-left-ge48.true, ← c.record-r.ensures, c.sound.ensures)

pub returns : goal.returns
returns c = rw (lt-leb _ _ c.if-left-ge48.false, ← c.record-r.ensures, c.sound-2.ensures)
