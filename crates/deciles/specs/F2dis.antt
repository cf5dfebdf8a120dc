-- `f2dis`: how far the F2 MUF spreads about its median, as a standard deviation. With no table (its first number at most 0) the classical value; else by time block, sunspot row, hemisphere, latitude and the half of the distribution in which `freq` lies.
use Rattle.std.specs.Prelude.{Bool, true, false, cond, List, ◌≡◌, ℕ, zero, suc, ◌+◌, ◌*◌, ◌-◌, eqb, Result, Ok, Err, ℤ, pos, nat_abs, get_or, length, Float, Option, Some, None}
use Rattle.std.specs.Int.Signed.{lt_z}
use Rattle.std.specs.Result.{result_unwrap_or}
use Rattle.std.specs.Float.{nan}
use Rattle.scalar.specs.F32.{◌+f◌, ◌-f◌, ◌*f◌, ◌/f◌, ◌≤f◌, ◌>f◌}
use Rattle.scalar.specs.Literals.{f0, f0_001, f0_15, f1_28, f1_28155, f1_55, f4, f9_5, f10, f50, f57_29577, f100}
use Rattle.scalar.specs.Scalar.{abs_of, max_of, trunc_of}
use Rattle.refusal.specs.declared.Refusal.{Refusal}
use Rattle.refusal.specs.Number.{answer_number}

-- ssn <= 50, ssn > 100; NaN is neither
abbrev pub sunspot_row_by : Bool → Bool → ℕ
sunspot_row_by true high = 1
sunspot_row_by false true = 3
sunspot_row_by false false = 2

unfoldable pub sunspot_row_of : Float → ℕ
sunspot_row_of ssn = sunspot_row_by (ssn ≤f f50) (ssn >f f100)

abbrev pub j_by : Bool → ℕ → ℕ
j_by true j = j + 3
j_by false j = j

unfoldable pub j_of : Float → Float → ℕ
j_of ssn cl = j_by (cl ≤f f0) (sunspot_row_of ssn)

abbrev pub i_by : Bool → ℕ
i_by true = 8
i_by false = 0

unfoldable pub i_of : Float → Float → ℕ
i_of fmuf freq = i_by (freq ≤f fmuf)

-- n kept within 1 to 8: is it below 1, is it above 8
abbrev pub clamp_by : Bool → Bool → ℤ → ℕ
clamp_by true above n = 1
clamp_by false true n = 8
clamp_by false false n = nat_abs n

unfoldable pub icl_of : Float → ℕ
icl_of cl = let n = trunc_of (f9_5 -f abs_of cl /f f10) in clamp_by (lt_z n (pos 1)) (lt_z (pos 8) n) n

-- the truncated number of the time block
unfoldable pub time_block_of : Float → ℤ
time_block_of abb = trunc_of (abb /f f4 +f f1_55)

-- 1 where it is above 6, 0 where it is below 1, which is refused
abbrev pub icc_by : Bool → Bool → ℤ → ℕ
icc_by true below n = 1
icc_by false true n = 0
icc_by false false n = nat_abs n

unfoldable pub icc_of : Float → ℕ
icc_of abb = let n = time_block_of abb in icc_by (lt_z (pos 6) n) (lt_z n (pos 1)) n

-- the block that is looked up, none for 0
abbrev pub block_of : ℕ → Option ℕ
block_of zero = None
block_of (suc n) = Some (suc n)

-- where the Rust's f2d[icc - 1][j - 1][iz - 1] stands in the flat list
abbrev pub place_of : ℕ → ℕ → ℕ → ℕ
place_of icc j iz = ((icc - 1) * 6 + (j - 1)) * 16 + (iz - 1)

unfoldable pub classical_of : Float → Float
classical_of fmuf = let sig = f0_15 *f fmuf /f f1_28155 in max_of sig f0_001

unfoldable pub spread_of : Float → Float → Float
spread_of fmuf decile = let sig = abs_of (fmuf -f decile *f fmuf) /f f1_28 in max_of sig f0_001

-- 10 where the list has not 576 numbers; with no table the classical value; 12 where there is no time block
unfoldable pub f2dis_of : List Float → Float → Float → Float → Float → Float → Result Float Refusal
f2dis_of f2d fmuf ssn clat freq abb =
    let cl = clat *f f57_29577 in
    let icc = icc_of abb in
    let iz = icl_of cl + i_of fmuf freq in
    let j = j_of ssn cl in
    cond (eqb (length f2d) 576)
    (cond (get_or f2d 0 nan ≤f f0)
    (Ok (classical_of fmuf))
    (cond (eqb icc 0)
    (Err Refusal.TimeBlock)
    (Ok (spread_of fmuf (get_or f2d (place_of icc j iz) nan)))))
    (Err Refusal.MufLists)

-- by these an answer says, its tests in order: 10, and +0, where the list has not 576 numbers; 0, and the classical value, with no table; 12, and +0, where the time block is below 1; else 0, and the spread of the decile that is looked up
unfoldable pub DeviationSays : Result Float Refusal → List Float → Float → Float → Float → Float → Float → Type 0
DeviationSays r f2d fmuf ssn clat freq abb =
    let cl = clat *f f57_29577 in
    let decile = get_or f2d (place_of (icc_of abb) (j_of ssn cl) (icl_of cl + i_of fmuf freq)) nan in
    let whole = eqb (length f2d) 576 in
    let none = get_or f2d 0 nan ≤f f0 in
    let below = lt_z (time_block_of abb) (pos 1) in
    (answer_number r ≡ cond whole (cond none 0 (cond below 12 0)) 10)
    × (result_unwrap_or r f0 ≡ cond whole (cond none (classical_of fmuf) (cond below f0 (spread_of fmuf decile))) f0)
