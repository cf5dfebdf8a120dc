-- What is guessed from is above zero in each place.
use Prim.Native.Nat.{ℕ, ◌^◌, ◌<◌}
use borrow.Author.Rules.{rules}
use Rattle.std.proofs.iter.Serving.{serving}
use Rattle.scalar.proofs.FromFn.{from_fn_each}
use Rattle.reflectrix.proofs.cell_rows.Rows.numbers.Goals as goal

pub from_fn-requires : goal.from_fn-requires
from_fn-requires c =
    let some = c.args.self.now.plains in
    let least = c.requires in
    grind (serving, some, least)

pub returns : goal.returns
returns c = from_fn_each (λ (i : ℕ) (y : ℕ). y < 2 ^ 22) (λ i y q l h. (search rules, search rules)) c.from_fn.ensures.items 0
