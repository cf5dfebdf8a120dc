-- From the pattern of x to that of its logarithm.
use mathlib.Core.Path.{ap, ◌∙◌}
use lib.Ieee.{binary32, of_bits}
use Rattle.logarithm.specs.Ln.{ln_bits, ln_of}
use Rattle.logarithm.proofs.ln.Goals as goal

pub returns : goal.returns
unfolding ln_of
returns c = c.number.ensures ∙ ap (of_bits binary32) (c.ln_bits.ensures ∙ ap ln_bits c.bits.ensures)
