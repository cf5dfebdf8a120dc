-- The circuit MUF takes sine and cosine only of angles that are neither below -4 nor above 4: over any two functions that are ours there, whatever they answer elsewhere, it is the MUF of the contracts. So the arguments listed in `angles` are all that there are, and a mark put in place of refusal 13 is never met.
use Rattle.std.specs.Prelude.{cond, ◌||◌, List, ◌≡◌, ℕ, T, Float}
use Rattle.std.specs.Float.{binary32}
use Rattle.std.specs.Float.Ieee.{fits}
use Rattle.scalar.specs.F32.{◌<f◌, ◌>f◌, negf}
use Rattle.scalar.specs.Literals.{f4}
use Rattle.waves.specs.SinCos.{sin_of, cos_of}
use Rattle.layers.specs.declared.IonoState.{IonoState}
use Rattle.heights.specs.Gethp.{Finder}
use Rattle.layer_mufs.specs.declared.PathNumbers.{PathNumbers}
use Rattle.layers.specs.declared.EsParams.{EsParams}
use Rattle.muf.specs.Curmuf.{muf_of_rows_with}
use Rattle.angles.specs.Angles.{Small}
use Rattle.any_waves.specs.Over.{Waves, muf_of_rows_over}

-- ours wherever ours answer
abbrev pub OursWhereSmall : Waves → Type 0
OursWhereSmall w = (x : Float) → Small x → (w.sine x ≡ sin_of x) × (w.cosine x ≡ cos_of x)

-- what `any-waves` says: for every state, every way of finding heights, any number of Es rows and any lists; the path's three numbers are f32
abbrev pub AnyWaves : Type 0
AnyWaves =
    (w : Waves) → OursWhereSmall w
    → (find : Finder) (s : IonoState) (n : ℕ) (row : ℕ → EsParams) (f2d clat clck : List Float) (c : PathNumbers)
    → T (fits binary32 c.gcd) → T (fits binary32 c.gcdkm) → T (fits binary32 c.amind)
    → muf_of_rows_over w find s n row f2d clat clck c ≡ muf_of_rows_with find s n row f2d clat clck c

-- ours, with a mark where an angle is below -4 or above 4
abbrev pub marked : Float → Waves
marked mark = record { sine = λ x. cond (x <f negf f4 || x >f f4) mark (sin_of x); cosine = λ x. cond (x <f negf f4 || x >f f4) mark (cos_of x) }

-- what `mark-unmet` says
abbrev pub MarkUnmet : Type 0
MarkUnmet =
    (mark : Float) (find : Finder) (s : IonoState) (n : ℕ) (row : ℕ → EsParams) (f2d clat clck : List Float) (c : PathNumbers)
    → T (fits binary32 c.gcd) → T (fits binary32 c.gcdkm) → T (fits binary32 c.amind)
    → muf_of_rows_over (marked mark) find s n row f2d clat clck c ≡ muf_of_rows_with find s n row f2d clat clck c
