-- One profile with no density and a NaN for its second height tells the two apart: the walk does not pass the NaN, so that every read is on segment 0, whose line is NaN and is cut to 0.9999, and the cursor stays at 0; a scan goes on past it, reads 0, and the rule counts the 47 heights of 1 km. Both sides are computed.
use mathlib.Core.Bool.{Bool, true, false, ◌&&◌}
use mathlib.Core.List.{List, [], ◌∷◌, ◌++◌}
use mathlib.Core.Path.{◌≡◌, refl, sym, ap, subst, ◌∙◌}
use Prim.Native.Nat.{ℕ, zero, suc}
use lib.Dec.{T, eqb, eqb→eq, eqb_refl}
use lib.ListN.{length, replicate}
use lib.Ieee.{Float, binary32, fits, nan, is_nan, add, sub, mul, div, le, lt, eq, of_bits, round}
use lib.Ieee.Fits.{and_l, and_r}
use Rattle.scalar.specs.F32.{◌==f◌}
use Rattle.scalar.specs.Literals.{f0, f1, f2}
use Rattle.scalar.specs.Scalar.{or_second, min_of}
use Rattle.scalar.specs.Root.{sqrt_of}
use Rattle.readings.specs.Scan.{value_of, segment_of, scan_from, profile_interpolate_of, reading_of}
use Rattle.readings.specs.Cursor.{count_from, climb_from, read_on_of}
use Rattle.heights.specs.Walk.{EachF32, cursor_before}
use Rattle.heights.specs.Nodes.{xt, height_of, ig_at, ib_at, height_at}
use Rattle.heights.specs.Densities.{cut_of, ysq_of}
use Rattle.heights.specs.ReadsByWalk.{ysq_walk_of}
use Rattle.heights.specs.Weights.{wt}
use Rattle.heights.specs.Gethp.{mup_of, hp_of}
use Rattle.heights.specs.GethpWalk.{gethp_read_of}
use Rattle.heights.specs.Apart.{promised, Lent, scanned_and_counted, WalkApart}

all : List Float → Bool
all [] = true
all (x ∷ l) = fits binary32 x && all l

htr : List Float
htr = f0 ∷ nan ∷ (replicate 47 f1 ++ f2 ∷ [])

fnsq : List Float
fnsq = replicate 50 f0

-- the two lists are fifty f32 numbers
lent_by : (l : List Float) → T (eqb (length l) 50) → T (all l) → Lent l
unfolding fits all
lent_by l n h = (eqb→eq (length l) 50 n, held l h)
  where
    held : (l : List Float) → T (all l) → EachF32 l
    held [] h i = tt
    held (x ∷ l) h zero = and_l (fits binary32 x) (all l) h
    held (x ∷ l) h (suc i) = held l (and_r (fits binary32 x) (all l) h) i

heights-lent : Lent htr
unfolding htr fits all of_bits
heights-lent = lent_by htr tt tt

densities-lent : Lent fnsq
unfolding fnsq fits all of_bits
densities-lent = lent_by fnsq tt tt

cursors-differ : eqb (promised htr fnsq f1).cursor (scanned_and_counted htr fnsq f1).cursor ≡ false
unfolding htr fnsq promised gethp_read_of scanned_and_counted cursor_before read_on_of climb_from count_from height_at height_of ig_at ib_at xt profile_interpolate_of value_of scan_from segment_of add sub mul div le lt eq of_bits round
cursors-differ = refl

abbrev walked : Float
walked = (promised htr fnsq f1).hp

abbrev scanned : Float
scanned = (scanned_and_counted htr fnsq f1).hp

heights-differ : (walked ==f scanned) ≡ false
unfolding htr fnsq promised gethp_read_of scanned_and_counted ysq_walk_of ysq_of cut_of mup_of hp_of wt min_of sqrt_of reading_of cursor_before read_on_of climb_from count_from height_at height_of ig_at ib_at xt profile_interpolate_of value_of scan_from segment_of add sub mul div le lt eq of_bits round or_second is_nan
heights-differ = refl

scanned-itself : (scanned ==f scanned) ≡ true
unfolding htr fnsq gethp_read_of scanned_and_counted ysq_walk_of ysq_of cut_of mup_of hp_of wt min_of sqrt_of reading_of cursor_before read_on_of climb_from count_from height_at height_of ig_at ib_at xt profile_interpolate_of value_of scan_from segment_of add sub mul div le lt eq of_bits round or_second is_nan
scanned-itself = refl

never : true ≡ false → ⊥
never e = subst (λ (b : Bool). T b) e tt

pub walk-apart : WalkApart
walk-apart =
    record {
      not-scanned = λ m. never (sym scanned-itself ∙ ap (λ (x : Float). x ==f scanned) (sym (m htr fnsq f1 heights-lent densities-lent)) ∙ heights-differ);
      not-counted = λ m. subst (λ (b : Bool). T b) (ap (λ (n : ℕ). eqb n (scanned_and_counted htr fnsq f1).cursor) (sym (m htr fnsq f1 heights-lent densities-lent)) ∙ cursors-differ) (eqb_refl (scanned_and_counted htr fnsq f1).cursor);
    }
