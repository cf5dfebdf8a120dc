-- Every number is read where the definition has it.
use Rattle.circuit.proofs.numbers.joined.Goals as goal

pub returns : goal.returns
returns c =
    rw (
      c.byte.ensures,
      c.byte-2.ensures,
      c.word.ensures,
      c.word-2.ensures,
      c.word-3.ensures,
      c.word-4.ensures,
    )
