-- Owning x tells that the format holds it, so it is what its pattern stands for. Assumes nothing.
use mathlib.Core.Path.{sym, subst}
use lib.Dec.{T}
use lib.Ieee.{binary32}
use lib.Ieee.Bits.{of_bits-to_bits}
use Rattle.heights.proofs.roots.pattern.Goals as goal

pub returns : goal.returns
returns c = of_bits-to_bits binary32 c.args.x (subst T (sym c.well_formed.0.1) tt)
