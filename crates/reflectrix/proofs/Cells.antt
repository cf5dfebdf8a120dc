-- The cells of the scan, by the rows as they are laid out for it, are those of the definition.
use mathlib.Core.Path.{◌≡◌, refl, sym, ap, ap₂, ◌∙◌}
use mathlib.Core.List.{List, map}
use Prim.Native.Nat.{ℕ, zero, suc, ◌+◌, ◌*◌, ◌≤◌, ◌<◌}
use native.Mathlib.Nat.{le_refl}
use native.Mathlib.Omega.{arith}
use lib.IntN.{ℤ}
use lib.Ieee.{Float, nan, mul, add, of_bits, to_bits}
use lib.ListN.{get_or, set, take, get_or-map}
use lib.Seq.{get_or-take}
use Rattle.scalar.specs.F32.{◌+f◌, ◌*f◌, ◌/f◌, at}
use Rattle.constants.specs.Constants.{D2R, RZ}
use Rattle.waves.specs.SinCos.{cos_of, wave_bits}
use Rattle.reflectrix.specs.Cell.{khz_of, sqcos_of}
use Rattle.reflectrix.specs.Row.{angle_cells_of, cell_scan_of}
use Rattle.reflectrix.specs.Angles.{ANG}
use Rattle.reflectrix.specs.Fobby.{rcosd_of, oblique_of, cell_of, row_into, angles_into}
use Rattle.reflectrix.specs.declared.Ionogram.{Ionogram}

-- where f of NaN is NaN, which stands past the end of the list
mapped_at : (f : Float → Float) (l : List Float) (i : ℕ) → f nan ≡ nan → at (map f l) i ≡ f (at l i)
mapped_at f l i e = ap (λ (d : Float). get_or (map f l) i d) (sym e) ∙ get_or-map f l i nan

abbrev radius : Float → Float
radius h = RZ +f h

abbrev rcosd_at : Float → Float
rcosd_at a = RZ *f cos_of (a *f D2R)

radius-nan : radius nan ≡ nan
unfolding add of_bits
radius-nan = refl

rcosd-nan : rcosd_at nan ≡ nan
unfolding mul of_bits to_bits cos_of wave_bits
rcosd-nan = refl

-- the rows laid out for the scan
pub record Laid (ion : Ionogram) (rcosds fv radii : List Float) : Type 0 where
  pub heights : List Float
  pub first : take 30 fv ≡ ion.fvert
  pub second : take 30 heights ≡ ion.htrue
  pub third : radii ≡ map radius heights
  pub fourth : rcosds ≡ map rcosd_at ANG

module _ (ion : Ionogram) (rcosds fv radii : List Float) (l : Laid ion rcosds fv radii) where
  same-fv : (i : ℕ) → i < 30 → at fv i ≡ at ion.fvert i
  same-fv i h = sym (get_or-take 30 fv i nan h) ∙ ap (λ (x : List Float). at x i) l.first

  same-radius : (i : ℕ) → i < 30 → at radii i ≡ RZ +f at ion.htrue i
  same-radius i h =
      ap (λ (x : List Float). at x i) l.third
      ∙ mapped_at radius l.heights i radius-nan
      ∙ ap radius (sym (get_or-take 30 l.heights i nan h) ∙ ap (λ (x : List Float). at x i) l.second)

  same-rcosd : (ia : ℕ) → at rcosds ia ≡ rcosd_of ia
  unfolding rcosd_of
  same-rcosd ia = ap (λ (x : List Float). at x ia) l.fourth ∙ mapped_at rcosd_at ANG ia rcosd-nan

  same-cell : (rcosd : Float) (i : ℕ) → i < 30 → khz_of (at fv i) (sqcos_of (rcosd /f at radii i)) ≡ cell_of ion rcosd i
  unfolding khz_of sqcos_of cell_of oblique_of
  same-cell rcosd i h = rw (same-fv i h, same-radius i h)

  same_row : (rcosd : Float) (from : ℕ) (cells : List ℤ) (n : ℕ) → n ≤ 30 → angle_cells_of fv radii rcosd from cells n ≡ row_into ion rcosd from cells n
  unfolding angle_cells_of row_into
  same_row rcosd from cells zero h = refl
  same_row rcosd from cells (suc n) h = ap₂ (λ (cs : List ℤ) (z : ℤ). set cs (from + n) z) (same_row rcosd from cells n (omega arith)) (same-cell rcosd n (omega arith))

  pub same-cells : (cells : List ℤ) (n : ℕ) → cell_scan_of rcosds fv radii cells n ≡ angles_into ion cells n
  unfolding cell_scan_of angles_into
  same-cells cells zero = refl
  same-cells cells (suc n) =
      same_row (at rcosds n) (30 * n) (cell_scan_of rcosds fv radii cells n) 30 (le_refl 30)
      ∙ ap₂ (λ (r : Float) (cs : List ℤ). row_into ion r (30 * n) cs 30) (same-rcosd n) (same-cells cells n)
