-- The elevation angles of the scan, and `sang`: how many of them apply to a path. The paper's refusal: 7 where the truncated gcdkm / 2000 + 1 is below 1.
use Rattle.std.specs.Prelude.{Bool, true, false, cond, Option, None, Some, Result, Ok, Err, List, [], ◌∷◌, ℕ, zero, suc, ◌+◌, ◌-◌, eqb, ℤ, pos, nat_abs, get_or, Float}
use Rattle.std.specs.Int.Signed.{lt_z}
use Rattle.scalar.specs.F32.{◌+f◌, ◌-f◌, ◌/f◌, ◌<f◌, ◌>f◌, ◌≥f◌, at}
use Rattle.scalar.specs.Literals.{f0, f0_5, f1, f2, f3, f4, f5, f6, f8, f8_5, f10, f12, f14, f16, f18, f20, f22, f24, f26, f28, f30, f32, f34, f36, f38, f40, f42, f44, f46, f48, f50, f52, f54, f56, f60, f65, f70, f75, f80, f85, f89_99, f2000}
use Rattle.scalar.specs.Scalar.{trunc_of}
use Rattle.refusal.specs.declared.Refusal.{Refusal}

-- the elevation angles, degrees
unfoldable pub ANG : List Float
ANG =
    f0 ∷ f0_5 ∷ f1 ∷ f2 ∷ f3 ∷ f4 ∷ f5 ∷ f6 ∷ f8 ∷ f10 ∷ f12 ∷ f14 ∷ f16 ∷ f18 ∷ f20 ∷ f22 ∷ f24 ∷
    f26 ∷ f28 ∷ f30 ∷ f32 ∷ f34 ∷ f36 ∷ f38 ∷ f40 ∷ f42 ∷ f44 ∷ f46 ∷ f48 ∷ f50 ∷ f52 ∷ f54 ∷ f56 ∷
    f60 ∷ f65 ∷ f70 ∷ f75 ∷ f80 ∷ f85 ∷ f89_99 ∷ []

-- the count of angles for each step of 2000 km: a longer path has flat rays only
unfoldable pub NANGX : List ℕ
NANGX = 40 ∷ 34 ∷ 29 ∷ 24 ∷ 19 ∷ 14 ∷ 12 ∷ 9 ∷ []

-- the step of 2000 km that a path lies in, from 1, and 8 for all beyond; 0 where it is below 1, which is refused
abbrev pub distance_step_by : Bool → Bool → ℤ → ℕ
distance_step_by true above n = 0
distance_step_by false true n = 8
distance_step_by false false n = nat_abs n

unfoldable pub distance_step_of : Float → ℕ
distance_step_of gcdkm = let n = trunc_of (gcdkm /f f2000 +f f1) in distance_step_by (lt_z n (pos 1)) (lt_z (pos 8) n) n

-- a step that is not refused
abbrev pub step_found : ℕ → Option ℕ
step_found id = cond (eqb id 0) None (Some id)

-- the first count whose last angle is at least 8.5 degrees above amind, searched from the angle i on, n angles being left; 40 where there is none
abbrev pub raised_by : Bool → ℕ → ℕ → ℕ
raised_by true iang next = iang
raised_by false iang next = next

unfoldable pub raised_from : Float → ℕ → ℕ → ℕ
raised_from amind zero i = 40
raised_from amind (suc n) i = raised_by (at ANG i -f f8_5 -f amind ≥f f0) (i + 1) (raised_from amind n (i + 1))

-- counted again where the last angle is less than 10 degrees above a least takeoff angle above 0
abbrev pub angle_count_by : Bool → Bool → Float → ℕ → ℕ
angle_count_by true true amind iang = raised_from amind 40 0
angle_count_by true false amind iang = iang
angle_count_by false _ amind iang = iang

unfoldable pub angle_count_of : Float → ℕ → ℕ
angle_count_of amind iang = angle_count_by (amind >f f0) (at ANG (iang - 1) -f f10 -f amind <f f0) amind iang

abbrev pub scan_by : Bool → Float → ℕ → Result ℕ Refusal
scan_by true amind id = Err Refusal.Distance
scan_by false amind id = Ok (angle_count_of amind (get_or NANGX (id - 1) 0))

unfoldable pub sang_of : Float → Float → Result ℕ Refusal
sang_of gcdkm amind = let id = distance_step_of gcdkm in scan_by (eqb id 0) amind id
