-- What it is for an f32 r to be less than one unit in the last place from e ^ x, and that `exp_of x` is.
-- No real numbers are here: the exact value is spoken of by the partial sums of its power series (crate `series`), which have whole numerators and denominators.
-- Said is "at most 15/16 of an ulp" of partial sums, so that less than one ulp follows for the limit. To the lower side, which for a power of e is the one towards zero, the ulp is that of the floats just below r: half of r's own where r is a power of two above 2 ^ -126.
use Rattle.std.specs.Prelude.{ℕ, ◌*◌, ◌^◌, ◌≤◌, ◌≡◌, true, false, T, pos, Float}
use Rattle.std.specs.Float.{nan, inf, fin, binary32}
use Rattle.std.specs.Float.Ieee.{up, down, fits}
use Rattle.series.specs.Series.{Later, full, num, one}
use Rattle.scalar.specs.Root.{steps}
use Rattle.exact.specs.Unit.{ulp, ulp_below, unity}
use Rattle.exact.specs.Between.{Between}
use Rattle.exponential.specs.Exp.{exp_of}

-- p / c is at least r - 15/16 ulp_below r and at most r + 15/16 ulp r
abbrev pub About : Float → (p c : ℕ) → Type 0
About r p c = Between unity (16 * steps r) 0 (15 * ulp_below r) (15 * ulp r) p 0 c

-- ---- exp: from some number on all partial sums at |x|, or their reciprocals where x is negative, are that close
abbrev pub NearExp : Float → Float → Type 0
NearExp nan r = r ≡ nan
NearExp (inf false) r = r ≡ inf false
NearExp (inf true) r = r ≡ fin false 0 (pos 0)
NearExp (fin s m e) nan = ⊥
NearExp (fin s m e) (inf true) = ⊥
NearExp (fin true m e) (inf false) = ⊥
-- an infinity only from 2 ^ 128 on
NearExp (fin false m e) (inf false) = (k : ℕ) × (2 ^ 128 * full (down e) k ≤ num one (m * up e) (down e) k)
NearExp (fin s m e) (fin true n f) = ⊥
NearExp (fin false m e) (fin false n f) = Later (λ k. About (fin false n f) (num one (m * up e) (down e) k) (full (down e) k))
NearExp (fin true m e) (fin false n f) = Later (λ k. About (fin false n f) (full (down e) k) (num one (m * up e) (down e) k))

-- ---- the theorem, for every f32
abbrev pub ExpNear : Type 0
ExpNear = (x : Float) → T (fits binary32 x) → NearExp x (exp_of x)
