-- What it is for an f32 r to be less than one unit in the last place from the natural logarithm of x, and that `ln_of x` is. The logarithm is spoken of as the inverse of e ^ y.
-- Towards zero the unit is that of the floats just there: half of r's own where |r| is a power of two above 2 ^ -126.
use Rattle.std.specs.Prelude.{ℕ, zero, suc, ◌+◌, ◌*◌, ◌≡◌, Bool, true, false, T, ℤ, pos, negsuc}
use lib.Ieee.{Float, nan, inf, fin, binary32, up, down, fits}
use Rattle.series.specs.Series.{ExpLe, ExpGe}
use Rattle.scalar.specs.Root.{steps}
use Rattle.exact.specs.Unit.{ulp, ulp_below, unity}
use Rattle.logarithm.specs.Ln.{ln_of}

-- ---- ln: e ^ (r - 15/16 under) ≤ x ≤ e ^ (r + 15/16 over)
-- e ^ (y / d) ≤ a / b, and a / b ≤ e ^ (y / d), for a whole y of either sign
abbrev pub PowLe : ℤ → (d a b : ℕ) → Type 0
PowLe (pos n) d a b = ExpLe n d a b
PowLe (negsuc n) d a b = ExpGe (suc n) d b a

abbrev pub PowGe : ℤ → (d a b : ℕ) → Type 0
PowGe (pos n) d a b = ExpGe n d a b
PowGe (negsuc n) d a b = ExpLe (suc n) d b a

-- ± a - b, ± a + b
abbrev pub lower : Bool → ℕ → ℕ → ℤ
lower false a b = lib.Ieee.minus a b
lower true a b = lib.Ieee.minus 0 (a + b)

abbrev pub upper : Bool → ℕ → ℕ → ℤ
upper false a b = lib.Ieee.minus (a + b) 0
upper true a b = lib.Ieee.minus b a

-- the units below and above r, whose sign is t: the smaller one towards zero
abbrev pub under : Bool → Float → ℕ
under false r = ulp_below r
under true r = ulp r

abbrev pub over : Bool → Float → ℕ
over false r = ulp r
over true r = ulp_below r

abbrev pub NearLn : Float → Float → Type 0
NearLn (fin false (suc m) e) (fin t n f) =
    PowLe (lower t (16 * steps (fin t n f)) (15 * under t (fin t n f))) unity (suc m * up e) (down e)
    × PowGe (upper t (16 * steps (fin t n f)) (15 * over t (fin t n f))) unity (suc m * up e) (down e)
NearLn (fin false (suc m) e) nan = ⊥
NearLn (fin false (suc m) e) (inf t) = ⊥
NearLn (fin s zero e) r = r ≡ inf true
NearLn (fin true (suc m) e) r = r ≡ nan
NearLn nan r = r ≡ nan
NearLn (inf false) r = r ≡ inf false
NearLn (inf true) r = r ≡ nan

-- ---- the theorem, for every f32
abbrev pub LnNear : Type 0
LnNear = (x : Float) → T (fits binary32 x) → NearLn x (ln_of x)
