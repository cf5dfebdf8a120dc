-- A read that goes on from where the one before it stopped (the Rust's `rising_interpolate` and the test before it), and the count that the paper gives for the cursor.
use Rattle.std.specs.Prelude.{Bool, true, false, List, ℕ, zero, suc, ◌+◌, ◌-◌, ltb, Float}
use Rattle.scalar.specs.F32.{◌-f◌, ◌≤f◌, ◌≥f◌, at}
use Rattle.scalar.specs.Literals.{f0}
use Rattle.readings.specs.Scan.{interpolated}
use Rattle.readings.specs.declared.Reading.{Reading}
use Rattle.readings.specs.declared.Reading.TheVariants.{Floor, Segment, Top}
use Rattle.readings.specs.declared.Read.{Read}

-- ---- the paper's count: how many of the upper 49 heights are at or below zi, a NaN counting none
abbrev pub one_if : Bool → ℕ
one_if true = 1
one_if false = 0

-- of the n heights above place ih
unfoldable pub count_from : List Float → Float → ℕ → ℕ → ℕ
count_from htr zi zero ih = 0
count_from htr zi (suc n) ih = one_if (at htr (ih + 1) ≤f zi) + count_from htr zi n (ih + 1)

abbrev pub count_of : List Float → Float → ℕ
count_of htr zi = count_from htr zi 49 0

-- ---- the cursor, at ih with n places above it: on while the next height is at or below zi
abbrev pub on_by : Bool → ℕ → ℕ → ℕ
on_by true ih more = more
on_by false ih more = ih

unfoldable pub climb_from : List Float → Float → ℕ → ℕ → ℕ
climb_from htr zi zero ih = ih
climb_from htr zi (suc n) ih = on_by (zi ≥f at htr (ih + 1)) ih (climb_from htr zi n (ih + 1))

abbrev pub climb_of : List Float → Float → ℕ → ℕ
climb_of htr zi ih = climb_from htr zi (49 - ih) ih

-- the reading where the cursor stops
abbrev pub stopped_by : Bool → List Float → List Float → Float → ℕ → Reading
stopped_by true htr fnsq zi ih = Segment (interpolated (at htr ih) (at htr (ih + 1)) (at fnsq ih) (at fnsq (ih + 1)) zi) ih
stopped_by false htr fnsq zi ih = Top (at fnsq 49)

abbrev pub stopped_at : List Float → List Float → Float → ℕ → Reading
stopped_at htr fnsq zi ih = stopped_by (ltb ih 49) htr fnsq zi ih

abbrev pub read_on_by : Bool → List Float → List Float → Float → ℕ → Read
read_on_by true htr fnsq zi ih = record { reading = Floor (at fnsq 0); cursor = ih }
read_on_by false htr fnsq zi ih = let on = climb_of htr zi ih in record { reading = stopped_at htr fnsq zi on; cursor = on }

-- the read at the height zi with the cursor at ih: the reading, and the cursor after it
unfoldable pub read_on_of : List Float → List Float → Float → ℕ → Read
read_on_of htr fnsq zi ih = read_on_by (zi -f at htr 0 ≤f f0) htr fnsq zi ih
