use Rattle.nominal.proofs.nominal_factors.lower.Goals as goal

pub returns-then-lowest-x : goal.returns-then-lowest-x
returns-then-lowest-x c = record { e = rw c.if-lowest-x.true; f2 = rw c.if-lowest-x.true }

pub returns : goal.returns
returns c = record { e = rw c.if-lowest-x.false; f2 = rw c.if-lowest-x.false }
