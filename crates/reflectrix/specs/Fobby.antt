-- `fobby`: the reflectrix. A cell is the oblique frequency in kHz, cut to a whole number, for an angle of the scan and a row of the ionogram. The paper's refusal: 8 for over 40 angles or fewer than 30 cells an angle.
use Rattle.std.specs.Prelude.{Bool, true, false, ◌&&◌, Result, Ok, Err, List, ℕ, zero, suc, ◌+◌, ◌*◌, leb, ℤ, length, set, Float}
use Rattle.scalar.specs.F32.{◌+f◌, ◌-f◌, ◌*f◌, ◌/f◌, at}
use Rattle.scalar.specs.Literals.{f0_000001, f1, f1000}
use Rattle.scalar.specs.Scalar.{max_of, trunc_of}
use Rattle.scalar.specs.Root.{sqrt_of}
use Rattle.constants.specs.Constants.{D2R, RZ}
use Rattle.waves.specs.SinCos.{cos_of}
use Rattle.refusal.specs.declared.Refusal.{Refusal}
use Rattle.reflectrix.specs.Angles.{ANG}
use Rattle.reflectrix.specs.declared.Ionogram.{Ionogram}

unfoldable pub rcosd_of : ℕ → Float
rcosd_of ia =
    let del = at ANG ia *f D2R in
    RZ *f cos_of del

-- in kHz, of the row's vertical frequency and true height
unfoldable pub oblique_of : Float → Float → Float → ℤ
oblique_of fvv htrue rcosd =
    let sphe = rcosd /f (RZ +f htrue) in
    let sqcos = max_of (f1 -f sphe *f sphe) f0_000001 in
    let cphe = sqrt_of sqcos in
    let freq = fvv /f cphe in
    trunc_of (f1000 *f freq)

unfoldable pub cell_of : Ionogram → Float → ℕ → ℤ
cell_of ion rcosd ih = oblique_of (at ion.fvert ih) (at ion.htrue ih) rcosd

-- n cells of an angle, from the cell `from` on
unfoldable pub row_into : Ionogram → Float → ℕ → List ℤ → ℕ → List ℤ
row_into ion rcosd from cells zero = cells
row_into ion rcosd from cells (suc n) = set (row_into ion rcosd from cells n) (from + n) (cell_of ion rcosd n)

-- thirty cells for each of n angles; the cells past them stay
unfoldable pub angles_into : Ionogram → List ℤ → ℕ → List ℤ
angles_into ion cells zero = cells
angles_into ion cells (suc n) = row_into ion (rcosd_of n) (30 * n) (angles_into ion cells n) 30

unfoldable pub room_for : ℕ → List ℤ → Bool
room_for nang cells = leb nang 40 && leb (30 * nang) (length cells)

abbrev pub cells_by : Bool → Ionogram → ℕ → List ℤ → List ℤ
cells_by true ion nang cells = angles_into ion cells nang
cells_by false ion nang cells = cells

-- what the lent cells hold afterwards
unfoldable pub cells_after : Ionogram → ℕ → List ℤ → List ℤ
cells_after ion nang cells = cells_by (room_for nang cells) ion nang cells

abbrev pub outcome_by : Bool → Result (Unit {0}) Refusal
outcome_by true = Ok tt
outcome_by false = Err Refusal.Reflectrix

unfoldable pub fobby_outcome : ℕ → List ℤ → Result (Unit {0}) Refusal
fobby_outcome nang cells = outcome_by (room_for nang cells)
