-- Four words.
use native.Mathlib.Omega.{arith}
use Rattle.port_muf.proofs.deviation_words.Read.{float-read}
use Rattle.port_muf.proofs.hour.path_numbers_of.Goals as goal

pub returns : goal.returns
returns c =
    let w = c.args.numbers.now in
    rw (c.floats.ensures, float-read w 4 0 (omega arith) (omega arith), float-read w 4 1 (omega arith) (omega arith), float-read w 4 2 (omega arith) (omega arith), float-read w 4 3 (omega arith) (omega arith))
