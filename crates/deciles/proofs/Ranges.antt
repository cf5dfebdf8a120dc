-- The ranges of the four numbers that make the index, by cases on the tests that make them.
use mathlib.Core.Path.{◌≡◌, refl}
use mathlib.Core.Bool.{Bool, true, false}
use Prim.Native.Nat.{ℕ, ◌<◌, ◌≤◌}
use native.Mathlib.Omega.{arith}
use lib.IntN.{ℤ, pos}
use lib.Signed.{lt_z}
use lib.Ieee.{Float}
use Rattle.scalar.specs.F32.{◌≤f◌, ◌>f◌, ◌-f◌, ◌/f◌}
use Rattle.scalar.specs.Literals.{f0, f9_5, f10, f50, f100}
use Rattle.scalar.specs.Scalar.{abs_of, trunc_of}
use Rattle.scalar.proofs.Casts.{between}
use Rattle.deciles.specs.F2dis.{sunspot_row_by, sunspot_row_of, j_by, j_of, i_by, i_of, clamp_by, icl_of, icc_by, icc_of, time_block_of}

row-by : (b c : Bool) → (0 < sunspot_row_by b c) × (sunspot_row_by b c ≤ 3)
row-by true c = (omega arith, omega arith)
row-by false true = (omega arith, omega arith)
row-by false false = (omega arith, omega arith)

pub sunspot-row-range : (ssn : Float) → (0 < sunspot_row_of ssn) × (sunspot_row_of ssn ≤ 3)
unfolding sunspot_row_of
sunspot-row-range ssn = row-by (ssn ≤f f50) (ssn >f f100)

j-by : (b : Bool) (j : ℕ) → 0 < j → j ≤ 3 → (0 < j_by b j) × (j_by b j ≤ 6)
j-by true j p q = (omega arith, omega arith)
j-by false j p q = (omega arith, omega arith)

pub j-range : (ssn cl : Float) → (0 < j_of ssn cl) × (j_of ssn cl ≤ 6)
unfolding j_of
j-range ssn cl = let r = sunspot-row-range ssn in j-by (cl ≤f f0) (sunspot_row_of ssn) r.0 r.1

i-by : (b : Bool) → i_by b ≤ 8
i-by true = omega arith
i-by false = omega arith

pub i-range : (fmuf freq : Float) → i_of fmuf freq ≤ 8
unfolding i_of
i-range fmuf freq = i-by (freq ≤f fmuf)

clamped : (b c : Bool) (z : ℤ) → lt_z z (pos 1) ≡ b → lt_z (pos 8) z ≡ c → (0 < clamp_by b c z) × (clamp_by b c z ≤ 8)
clamped true c z p q = (omega arith, omega arith)
clamped false true z p q = (omega arith, omega arith)
clamped false false z p q = between z 8 p q

pub icl-range : (cl : Float) → (0 < icl_of cl) × (icl_of cl ≤ 8)
unfolding icl_of
icl-range cl = clamped _ _ (trunc_of (f9_5 -f abs_of cl /f f10)) refl refl

wrapped : (b c : Bool) (z : ℤ) → lt_z (pos 6) z ≡ b → lt_z z (pos 1) ≡ c → icc_by b c z ≤ 6
wrapped true c z p q = omega arith
wrapped false true z p q = omega arith
wrapped false false z p q = (between z 6 q p).1

pub icc-range : (abb : Float) → icc_of abb ≤ 6
unfolding icc_of
icc-range abb = wrapped _ _ (time_block_of abb) refl refl
