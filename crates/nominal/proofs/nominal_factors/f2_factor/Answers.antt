use lib.Ieee.{neg, of_bits}
use Rattle.nominal.specs.FactorLiterals.{AF}
use Rattle.nominal.specs.Factors.{flfc_of}
use Rattle.nominal.proofs.nominal_factors.f2_factor.Goals as goal

pub returns-then-arc : goal.returns-then-arc
unfolding flfc_of AF
returns-then-arc c = rw c.if-arc.true

pub returns : goal.returns
unfolding flfc_of AF neg of_bits
returns c = rw (c.if-arc.false, c.horner.ensures)
