-- `scalar::root::spare_zeros` meets its contract. Assumes nothing.
use Rattle.scalar.proofs.Normalise.{shifted, eight}
use mathlib.Core.Path.{refl}
use Rattle.scalar.proofs.root.spare_zeros.Goals as goal

pub overflow_sub-result : goal.overflow_sub-result
overflow_sub-result c = eight c.args.digits 0 c.requires.0 c.requires.1

pub returns : goal.returns
returns c = (refl, (shifted c.args.digits 0 c.requires.0 c.requires.1).most)
