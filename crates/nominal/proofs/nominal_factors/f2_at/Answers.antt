use Rattle.nominal.specs.Factors.{fmuf_of}
use mathlib.Core.Path.{refl}
use Rattle.nominal.proofs.nominal_factors.f2_at.Goals as goal

pub returns : goal.returns
unfolding fmuf_of
returns c = refl
