-- By the lemma on guesses that are right. Assumes nothing.
use native.Mathlib.Omega.{arith}
use Rattle.scalar.proofs.Nan.{number-pattern}
use Rattle.heights.proofs.roots.Digits.{right-is-root, right-finite}
use Rattle.heights.proofs.roots.packed.Goals as goal

pub float_from_bits-result : goal.float_from_bits-result
float_from_bits-result c = number-pattern _ (let l = right-finite _ _ c.requires.0 c.requires.1 in omega arith)

pub returns : goal.returns
returns c = right-is-root _ _ c.requires.0 c.requires.1
