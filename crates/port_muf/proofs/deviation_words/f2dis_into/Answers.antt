use native.Mathlib.Omega.{arith}
use Rattle.std.proofs.Common.{rules}
use Rattle.port_muf.specs.F2disWords.{f2dis_left}
use Rattle.port_muf.proofs.deviation_words.Read.{float-read}
use Rattle.port_muf.proofs.deviation_words.f2dis_into.Goals as goal

pub returns : goal.returns
unfolding f2dis_left
returns c =
    let w = c.args.numbers.now in
    let e0 = float-read w 5 0 (omega arith) (omega arith) in
    let e1 = float-read w 5 1 (omega arith) (omega arith) in
    let e2 = float-read w 5 2 (omega arith) (omega arith) in
    let e3 = float-read w 5 3 (omega arith) (omega arith) in
    let e4 = float-read w 5 4 (omega arith) (omega arith) in
    rw (← e0, ← e1, ← e2, ← e3, ← e4, ← c.floats.ensures, ← c.f2dis-d.ensures.value) (search rules)
