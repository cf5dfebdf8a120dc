-- `fixed::power` meets its contract: 2 ^ k with k below 64 is below 2 ^ 64, so the cut to 64 bits changes nothing.
use Prim.Native.Nat.{◌^◌}
use native.Mathlib.Nat.{mod-eq_of_lt, one-mul}
use lib.Pow.{pow-lt}
use Rattle.fixed.proofs.power.Goals as goal

pub returns : goal.returns
returns c = rw (one-mul (2 ^ c.args.k)) (mod-eq_of_lt (pow-lt c.requires))
