-- The heights of the thirty rows at given frequencies, and the segment of each true height: the part of `genion` after its frequencies.
use Rattle.std.specs.Prelude.{Bool, true, false, List, [], ◌∷◌, ◌++◌, ℕ, zero, suc, ◌+◌, ◌*◌, set, replicate, Float}
use Rattle.scalar.specs.F32.{◌+f◌, ◌-f◌, ◌*f◌, ◌>f◌, at}
use Rattle.scalar.specs.Literals.{f0, f2, f70, f84_51, f87_4, f88_52, f93, f94, f94_26, f95_71, f97_68, f98_68, f100_2, f100_27, f102_65, f104_22, f107_15, f107_19, f113_74, f125_25, f140_03}
use Rattle.layers.specs.State.{profile_only}
use Rattle.layers.specs.declared.IonoState.{IonoState}
use Rattle.heights.specs.Gethp.{Finder}
use Rattle.readings.specs.Scan.{unsearched}
use Rattle.readings.specs.Xlin.{xlin_of, xlin_segment_of}
use Rattle.parabolas.specs.Bendy.{bendy_of, pen_of}
use Rattle.reflectrix.specs.declared.Ionogram.{Ionogram}

-- the first ten rows where the profile does not give them: true heights, then virtual ones, of an E parabola that peaks at 110 km and is 20 km in semi-thickness.
unfoldable pub HTE : List Float
HTE = f70 ∷ f84_51 ∷ f88_52 ∷ f93 ∷ f94_26 ∷ f95_71 ∷ f97_68 ∷ f100_27 ∷ f104_22 ∷ f107_19 ∷ []

unfoldable pub HPE : List Float
HPE = f70 ∷ f87_4 ∷ f94 ∷ f98_68 ∷ f100_2 ∷ f102_65 ∷ f107_15 ∷ f113_74 ∷ f125_25 ∷ f140_03 ∷ []

-- n rows from `first` on, each by its frequency
unfoldable pub rows_of : {A : Type 0} → (Float → A) → List Float → ℕ → List A → ℕ → List A
rows_of row fv first out zero = out
rows_of row fv first out (suc n) = set (rows_of row fv first out n) (first + n) (row (at fv (first + n)))

unfoldable pub true_by_profile : IonoState → Float → Float
true_by_profile s f = let fn = f *f f in xlin_of fn s.fnsq s.htr

-- its segment
unfoldable pub segment_by_profile : IonoState → Float → ℕ
segment_by_profile s f = let fn = f *f f in xlin_segment_of fn s.fnsq s.htr

unfoldable pub virtual_by_parabola : IonoState → ℕ → Float → Float
virtual_by_parabola s k f = at s.hi (3 * k + 2) -f at s.yi (3 * k + 2) +f bendy_of s 2 k f +f (pen_of s 0 k f -f f2 *f at s.yi (3 * k))

-- `fi[k][1] > 0.0`: off the profile, since the closed form is of E and F2 alone
abbrev pub virtual_by : Bool → Finder → IonoState → ℕ → Float → Float
virtual_by true find s k f = (find s f).hp
virtual_by false find s k f = virtual_by_parabola s k f

abbrev pub made : List Float → List Float → List Float → List ℕ → Ionogram
made fv hprim htrue segment = record { fvert = fv; hprim = hprim; htrue = htrue; afac = replicate 30 f0; segment = segment }

-- all rows by `find`; or ten by the table, whose heights are no segment's, and twenty by `true_by_profile` and `virtual_by`. The segment is the true height's, wherever the virtual one is from
abbrev pub rows_by : Bool → Finder → IonoState → ℕ → List Float → Ionogram
rows_by true find s k fv =
    made fv
    (rows_of (λ f. (find s f).hp) fv 0 (replicate 30 f0) 30)
    (rows_of (λ f. (find s f).ht) fv 0 (replicate 30 f0) 30)
    (rows_of (λ f. (find s f).segment) fv 0 (replicate 30 0) 30)
rows_by false find s k fv =
    made fv
    (rows_of (λ f. virtual_by (at s.fi (3 * k + 1) >f f0) find s k f) fv 10 (HPE ++ replicate 20 f0) 20)
    (rows_of (λ f. true_by_profile s f) fv 10 (HTE ++ replicate 20 f0) 20)
    (rows_of (λ f. segment_by_profile s f) fv 10 (replicate 30 unsearched) 20)

unfoldable pub rows_with : Finder → IonoState → ℕ → List Float → Ionogram
rows_with find s k fv = rows_by (profile_only s) find s k fv
