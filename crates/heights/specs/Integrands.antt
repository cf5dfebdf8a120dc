-- What one density comes to in the Gauss rule.
use Rattle.std.specs.Prelude.{Float}
use Rattle.scalar.specs.F32.{◌-f◌, ◌/f◌}
use Rattle.scalar.specs.Literals.{f0_9999, f1}
use Rattle.scalar.specs.Scalar.{min_of}
use Rattle.scalar.specs.Root.{sqrt_of}

-- a density over fr, cut at 0.9999; a NaN becomes 0.9999
abbrev pub share_of : Float → Float → Float
share_of density fr = min_of (density /f fr) f0_9999

-- 1 over the root of what is left of 1
abbrev pub integrand_of : Float → Float
integrand_of ysq = f1 /f sqrt_of (f1 -f ysq)
