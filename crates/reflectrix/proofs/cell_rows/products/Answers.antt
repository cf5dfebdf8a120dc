-- Place by place.
use mathlib.Core.Path.{◌≡◌}
use Prim.Native.Nat.{ℕ, ◌+◌, ◌^◌, ◌≤◌, ◌<◌}
use native.Mathlib.Omega.{arith}
use borrow.Author.Rules.{rules}
use lib.Dec.{T}
use lib.Ieee.{binary32, to_bits}
use lib.ListN.{get_or}
use Rattle.std.proofs.iter.Serving.{serving}
use Rattle.scalar.specs.F32.{◌≤f◌, at}
use Rattle.scalar.specs.Literals.{f0_000001, f1}
use Rattle.scalar.proofs.FromFn.{from_fn_each}
use Rattle.reflectrix.specs.Laws.{product_of}
use Rattle.reflectrix.proofs.cell_rows.products.Goals as goal

pub from_fn-requires : goal.from_fn-requires
from_fn-requires c =
    let few : (i : ℕ) → i < 32 → get_or c.args.n.now i 0 + c.args.more ≤ 2 ^ 22 = λ i l. let h = c.requires.few.1 i l in let k = c.requires.few.0 in omega (arith, h, k) in
    let least : (i : ℕ) → i < 32 → T (f0_000001 ≤f at c.args.sqcos.now i) = λ i l. (c.requires.cosines i l).0 in
    let most : (i : ℕ) → i < 32 → T (at c.args.sqcos.now i ≤f f1) = λ i l. (c.requires.cosines i l).1 in
    grind (serving, few, least, most)

pub returns : goal.returns
returns c = from_fn_each (λ (i : ℕ) (y : ℕ). y ≡ to_bits binary32 (product_of (get_or c.args.n.now i 0 + c.args.more) (at c.args.sqcos.now i))) (λ i y q l h. (search rules, search rules)) c.from_fn.ensures.items 0
