-- An amind of 0 always passes, so what is left of the MUF's domain is gcdkm's and gcd's.
use mathlib.Core.Path.{◌≡◌, refl, ◌∙◌}
use mathlib.Core.Bool.{Bool, true, false, ◌&&◌}
use lib.Ieee.{Float, of_bits, lt}
use Rattle.scalar.specs.Literals.{f0, f6_3, f40100}
use Rattle.muf.specs.Domain.{within_of, in_domain}
use Rattle.nominal.specs.Nommuf.{path_taken}
use Rattle.nominal.proofs.path_taken.Goals as goal

both-then : (a b : Bool) → (a && b && true) ≡ (a && b)
both-then true true = refl
both-then true false = refl
both-then false b = refl

level : (gcd gcdkm : Float) → in_domain (record { gcd = gcd; gcdkm = gcdkm; amind = f0; ssn = f0 }) ≡ path_taken gcd gcdkm
unfolding in_domain path_taken of_bits lt
level gcd gcdkm = both-then (within_of gcdkm f40100) (within_of gcd f6_3)

pub returns : goal.returns
returns c = c.in_domain.ensures ∙ level c.args.gcd c.args.gcdkm
