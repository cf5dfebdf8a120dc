use mathlib.Core.Path.{◌≡◌}
use Prim.Native.Nat.{ℕ, ◌<◌}
use Rattle.std.proofs.Common.{rules}
use lib.Ieee.{nan}
use lib.ListN.{length, get_or}
use Rattle.profile.specs.Density.{fnd_of}
use Rattle.scalar.proofs.FromFn.{from_fn_map}
use Rattle.std.proofs.lemmas.List.{get_or-map}
use Rattle.std.proofs.iter.Serving.{serving}
use Rattle.profile.specs.declared.shapes.Mark.{Mark}
use Rattle.profile.specs.Marks.{mark_of}
use Rattle.profile.proofs.shapes.marks_on.Goals as goal

pub from_fn-requires : goal.from_fn-requires
from_fn-requires c =
    let a = c.args in
    let fnd = c.tails-fnd.result in
    let n : length a.htr ≡ 50 = search rules in
    let tail : (k : ℕ) → k < 50 → get_or fnd k nan ≡ fnd_of a.c (get_or a.htr k nan) = λ k l. rw c.tails-fnd.ensures (get_or-map (fnd_of a.c) a.htr k nan nan (rw n l)) in
    grind (serving, tail)

pub returns : goal.returns
returns c = let a = c.args in from_fn_map (mark_of a.c) a.htr nan Mark.None (search rules) (λ k y q l r. search rules) c.from_fn.ensures.items
