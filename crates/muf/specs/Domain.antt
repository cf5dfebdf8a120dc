-- What `curmuf` refuses by its arguments alone, with the paper's numbers, and how many Es rows it reads.
use Rattle.std.specs.Prelude.{Bool, not, ◌&&◌, ℕ, ◌/◌, min, ltb, eqb, Float}
use Rattle.scalar.specs.F32.{◌≤f◌, ◌>f◌}
use Rattle.scalar.specs.Literals.{f0, f6_3, f90, f40100}
use Rattle.layer_mufs.specs.declared.PathNumbers.{PathNumbers}

-- 9

abbrev pub within_of : Float → Float → Bool
within_of x top = f0 ≤f x && x ≤f top

-- a NaN amind counts as 0, one below 0 passes
unfoldable pub in_domain : PathNumbers → Bool
in_domain c = within_of c.gcdkm f40100 && within_of c.gcd f6_3 && not (c.amind >f f90)

-- 10: the deciles are 576, and clat and clck reach to the controlling slot; the lists by their lengths
unfoldable pub lists_reach : ℕ → ℕ → ℕ → ℕ → Bool
lists_reach ks deciles lats clocks = eqb deciles 576 && ltb ks lats && ltb ks clocks

-- the rows that there are, at most km
abbrev pub taken_rows : ℕ → ℕ → ℕ
taken_rows there km = min there km

-- flat rows: four numbers each
unfoldable pub row_count_of : ℕ → ℕ → ℕ
row_count_of numbers km = taken_rows (numbers / 4) km
