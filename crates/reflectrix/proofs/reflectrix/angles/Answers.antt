-- The rows are laid out for the scan, whose cells are the definition's.
use mathlib.Core.Path.{◌≡◌, sym, ◌∙◌}
use Prim.Native.Nat.{ℕ}
use borrow.Author.Rules.{rules}
use lib.Ieee.{Float, nan}
use Rattle.scalar.specs.F32.{◌+f◌, at}
use Rattle.scalar.proofs.FromFn.{from_fn_each}
use Rattle.constants.specs.Constants.{RZ}
use Rattle.reflectrix.proofs.cell_rows.Maps.{map-each}
use Rattle.reflectrix.proofs.Cells.{same-cells}
use Rattle.reflectrix.proofs.Rcosd.{rcosds, all}
use Rattle.reflectrix.proofs.reflectrix.angles.Goals as goal

pub returns : goal.returns
unfolding rcosds
returns c =
    c.scan.ensures
    ∙ same-cells c.args.ion _ _ _
    (record {
      heights = c.padded-htrue.result;
      first = rw c.new-rows.ensures.fv c.padded.ensures;
      second = c.padded-htrue.ensures;
      third = c.new-rows.ensures.radii ∙ map-each (λ (h : Float). RZ +f h) _ _ (search rules) (search rules) (from_fn_each (λ (i : ℕ) (y : Float). y ≡ RZ +f at c.padded-htrue.result i) (λ i y q l h. (search rules, search rules)) c.from_fn-radii.ensures.items nan);
      fourth = sym all;
    }) _ _
