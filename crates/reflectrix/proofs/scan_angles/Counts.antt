-- The step of a path is at most 8, and each count of the table is one of 1 to 40.
use mathlib.Core.Path.{◌≡◌, refl}
use mathlib.Core.Bool.{Bool, true, false, ◌&&◌, cond}
use Prim.Native.Nat.{ℕ, ◌≤◌, ◌<◌}
use native.Mathlib.Omega.{arith}
use lib.Dec.{T, leb, eqb, leb→le}
use lib.IntN.{ℤ, pos, nat_abs}
use lib.Ieee.{Float}
use lib.Ieee.Fits.{and_l, and_r}
use lib.ListN.{get_or}
use lib.Signed.{lt_z, non_neg}
use mir.Val.{Fits}
use mir.Syntax.{w64}
use Rattle.std.proofs.Common.{None, Some, Ok, Err}
use Rattle.std.specs.Option.{ok_or}
use Rattle.std.specs.Int.{int_min}
use Rattle.refusal.specs.declared.Refusal.{Refusal}
use Rattle.scalar.specs.F32.{◌+f◌, ◌/f◌}
use Rattle.scalar.specs.Literals.{f1, f2000}
use Rattle.scalar.specs.Scalar.{trunc_of}
use Rattle.cases.proofs.Entries.{entry}
use Rattle.scalar.proofs.Casts.{between, castable}
use Rattle.reflectrix.specs.Angles.{NANGX, distance_step_by, distance_step_of, step_found}

step_by : (b c : Bool) (z : ℤ) → lt_z z (pos 1) ≡ b → lt_z (pos 8) z ≡ c → distance_step_by b c z ≤ 8
step_by true c z p q = omega arith
step_by false true z p q = omega arith
step_by false false z p q = (between z 8 p q).1

-- cut to 8 as the definition cuts it
cut_by : (c : Bool) (z : ℤ) → nat_abs (cond c (pos 8) z) ≡ distance_step_by false c z
cut_by true z = refl
cut_by false z = refl

pub cut-step : (z : ℤ) → nat_abs (int_min z (pos 8)) ≡ distance_step_by false (lt_z (pos 8) z) z
cut-step z = cut_by (lt_z (pos 8) z) z

-- and then it may be cast
kept_by : (c : Bool) (z : ℤ) → lt_z z (pos 1) ≡ false → lt_z (pos 8) z ≡ c → T (non_neg (cond c (pos 8) z)) × Fits w64 (nat_abs (cond c (pos 8) z))
kept_by true z p q = castable (pos 8) 8 (omega arith) refl refl
kept_by false z p q = castable z 8 (omega arith) p q

pub cut-castable : (z : ℤ) → lt_z z (pos 1) ≡ false → T (non_neg (int_min z (pos 8))) × Fits w64 (nat_abs (int_min z (pos 8)))
cut-castable z p = kept_by (lt_z (pos 8) z) z p refl

pub step_range : (gcdkm : Float) → distance_step_of gcdkm ≤ 8
unfolding distance_step_of
step_range gcdkm = let n = trunc_of (gcdkm /f f2000 +f f1) in step_by (lt_z n (pos 1)) (lt_z (pos 8) n) n refl refl

-- a step that is found is above 0, and what stands for a missing one is the refusal
found_by : (b : Bool) (n id : ℕ) (r : Refusal) → Ok id ≡ ok_or (cond b None (Some n)) r → (n ≡ id) × (b ≡ false)
found_by true n id r e = (cc, cc)
found_by false n id r e = (cc, refl)

pub step-found : (n id : ℕ) (r : Refusal) → Ok id ≡ ok_or (step_found n) r → (n ≡ id) × (eqb n 0 ≡ false)
step-found n id r e = found_by (eqb n 0) n id r e

missing_by : (b : Bool) (n : ℕ) (r s : Refusal) → Err s ≡ ok_or (cond b None (Some n)) r → (s ≡ r) × (b ≡ true)
missing_by true n r s e = (cc, refl)
missing_by false n r s e = (cc, cc)

pub step-missing : (n : ℕ) (r s : Refusal) → Err s ≡ ok_or (step_found n) r → (s ≡ r) × (eqb n 0 ≡ true)
step-missing n r s e = missing_by (eqb n 0) n r s e

within : ℕ → ℕ → Bool
within i n = leb 1 n && leb n 40

pub nangx-range : (i : ℕ) → i < 8 → (0 < get_or NANGX i 0) × (get_or NANGX i 0 ≤ 40)
unfolding NANGX within
nangx-range i h =
    let t = entry within NANGX tt i h in
    let n = get_or NANGX i 0 in
    (leb→le 1 n (and_l (leb 1 n) (leb n 40) t), leb→le n 40 (and_r (leb 1 n) (leb n 40) t))
