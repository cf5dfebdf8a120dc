-- From the pattern of x to that of e ^ x.
use mathlib.Core.Path.{ap, ◌∙◌}
use lib.Ieee.{binary32, of_bits}
use Rattle.exponential.specs.Exp.{exp_bits, exp_of}
use Rattle.exponential.proofs.exp.Goals as goal

pub returns : goal.returns
unfolding exp_of
returns c = c.number.ensures ∙ ap (of_bits binary32) (c.exp_bits.ensures ∙ ap exp_bits c.bits.ensures)
