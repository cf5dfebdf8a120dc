use mathlib.Core.Path.{sym}
use native.Mathlib.Omega.{arith}
use lib.Seq.{take_all}
use Rattle.lines.proofs.Placing.{put_none, put_more}
use Rattle.lines.proofs.Page.put_word.Goals as goal

pub loop-b-init : goal.loop-b-init
loop-b-init g c = sym (put_none _ _)

pub loop-b-preserved : goal.loop-b-preserved
loop-b-preserved g c =
    let l = c.loop-b in
    put_more c.args.word.now l.b-index _ _ (omega arith) l.invariant c.put_byte.ensures

pub returns : goal.returns
returns g c = rw (take_all _ _ c.loop-b-test.false) at c.loop-b.invariant
