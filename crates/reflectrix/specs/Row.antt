-- The cells of one angle, guessed together: thirty rows and two to spare. Definitions only.
use Rattle.std.specs.Prelude.{List, ℕ, zero, suc, ◌+◌, ◌*◌, ◌<◌, ℤ, get_or, set, Float}
use Rattle.scalar.specs.F32.{◌/f◌, at}
use Rattle.reflectrix.specs.Cell.{khz_of, sqcos_of, Told}

-- What is told for the frequencies fv and the radii at their heights: each cell or that it is in doubt.
abbrev pub RowTold : List Float → List Float → Float → List ℕ → Type 0
RowTold fv radii rcosd told = (i : ℕ) → i < 32 → Told (at fv i) (sqcos_of (rcosd /f at radii i)) (get_or told i 0)

-- n cells of an angle, from the cell `from` on
unfoldable pub angle_cells_of : List Float → List Float → Float → ℕ → List ℤ → ℕ → List ℤ
angle_cells_of fv radii rcosd from cells zero = cells
angle_cells_of fv radii rcosd from cells (suc n) = set (angle_cells_of fv radii rcosd from cells n) (from + n) (khz_of (at fv n) (sqcos_of (rcosd /f at radii n)))

-- thirty cells for each of n angles
unfoldable pub cell_scan_of : List Float → List Float → List Float → List ℤ → ℕ → List ℤ
cell_scan_of rcosds fv radii cells zero = cells
cell_scan_of rcosds fv radii cells (suc n) = angle_cells_of fv radii (at rcosds n) (30 * n) (cell_scan_of rcosds fv radii cells n) 30
