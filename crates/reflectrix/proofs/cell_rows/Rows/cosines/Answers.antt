-- Place by place, the maximum of what the step before made there.
use mathlib.Core.Path.{◌≡◌, ap, ◌∙◌}
use Prim.Native.Nat.{ℕ}
use borrow.Author.Rules.{rules}
use lib.Ieee.{Float, nan}
use Rattle.scalar.specs.F32.{◌/f◌, ◌*f◌, ◌-f◌, at}
use Rattle.scalar.specs.Literals.{f0_000001, f1}
use Rattle.scalar.specs.Scalar.{max_of}
use Rattle.scalar.proofs.FromFn.{from_fn_each}
use Rattle.reflectrix.specs.Cell.{sqcos_of}
use Rattle.reflectrix.proofs.cell_rows.Rows.cosines.Goals as goal

pub returns : goal.returns
unfolding sqcos_of
returns c =
    let sphe = λ (i : ℕ). c.args.rcosd /f at c.args.self.now.radii i in
    let uncut = from_fn_each (λ (i : ℕ) (y : Float). y ≡ f1 -f sphe i *f sphe i) (λ i y q l h. (search rules, search rules)) c.from_fn-uncut.ensures.items nan in
    let cut = from_fn_each (λ (i : ℕ) (y : Float). y ≡ max_of (at c.from_fn-uncut.result i) f0_000001) (λ i y q l h. (search rules, search rules)) c.from_fn.ensures.items nan in
    λ i l. cut i l ∙ ap (λ (x : Float). max_of x f0_000001) (uncut i l)
