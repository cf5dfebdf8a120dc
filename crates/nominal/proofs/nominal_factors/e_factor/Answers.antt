use lib.Ieee.{neg, of_bits}
use Rattle.nominal.specs.FactorLiterals.{AE}
use Rattle.nominal.specs.Factors.{elfc_of}
use Rattle.nominal.proofs.nominal_factors.e_factor.Goals as goal

pub returns-then-arc : goal.returns-then-arc
unfolding elfc_of AE neg of_bits
returns-then-arc c = rw (c.if-arc.true, c.horner.ensures)

pub returns : goal.returns
unfolding elfc_of AE
returns c = rw c.if-arc.false
