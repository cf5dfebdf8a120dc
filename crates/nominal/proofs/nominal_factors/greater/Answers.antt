use Rattle.nominal.specs.Factors.{allmuf_of}
use Rattle.nominal.proofs.nominal_factors.greater.Goals as goal

pub returns-then-emuf-f2muf : goal.returns-then-emuf-f2muf
unfolding allmuf_of
returns-then-emuf-f2muf c = rw c.if-emuf-f2muf.true

pub returns : goal.returns
unfolding allmuf_of
returns c = rw c.if-emuf-f2muf.false
