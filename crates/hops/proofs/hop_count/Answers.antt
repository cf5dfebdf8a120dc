-- The test is the definition's two at once.
use Rattle.std.proofs.lemmas.Bool.Decides.{nat_tests}
use Rattle.std.proofs.Common.{arith}
use Rattle.hops.specs.Geometry.{hops_of}
use Rattle.hops.proofs.Says.{hops-say}
use Rattle.hops.proofs.hop_count.Goals as goal

pub returns-then-not-contains-clause-value : goal.returns-then-not-contains-clause-value
unfolding hops_of
returns-then-not-contains-clause-value c = rw (← c.hop_ratio.ensures, ← c.trunc-nhops.ensures) (grind (arith, nat_tests))

pub returns-then-not-contains-clause-hops_say : goal.returns-then-not-contains-clause-hops_say
returns-then-not-contains-clause-hops_say c = hops-say _ _ _ _ (returns-then-not-contains-clause-value c)

pub returns-clause-value : goal.returns-clause-value
unfolding hops_of
returns-clause-value c = rw (← c.hop_ratio.ensures, ← c.trunc-nhops.ensures) (grind (arith, nat_tests))

pub returns-clause-hops_say : goal.returns-clause-hops_say
returns-clause-hops_say c = hops-say _ _ _ _ (returns-clause-value c)
