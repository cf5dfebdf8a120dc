-- No height is left.
use mathlib.Core.Path.{◌≡◌}
use mathlib.Core.List.{map}
use native.Mathlib.Omega.{arith}
use Rattle.std.proofs.Common.{rules}
use lib.ListN.{length}
use Rattle.std.proofs.lemmas.List.{take_all, drop_all, append-nil}
use Rattle.profile.specs.Density.{density_of}
use Rattle.profile.proofs.shape_densities.Curves.densities.Goals as goal

pub returns : goal.returns
returns c =
    let h = c.args.htr in
    let n : length h ≡ 50 = search rules in
    rw (c.raise-3.ensures, take_all 50 h (omega arith), drop_all 50 h (omega arith)) (append-nil (map (density_of c.args.self) h))
