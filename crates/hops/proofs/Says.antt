-- Number and value of an answer, case by case of the definition.
use Rattle.std.specs.Prelude.{Result, Ok, Err}
use Rattle.std.specs.Result.{result_unwrap_or}
use mathlib.Core.Bool.{Bool, true, false, not, cond, ◌&&◌}
use mathlib.Core.Path.{◌≡◌, refl}
use lib.Dec.{eqb}
use lib.IntN.{ℤ, pos, ◌+ℤ◌}
use lib.Signed.{lt_z}
use lib.Ieee.{Float, binary32, of_int}
use Rattle.scalar.specs.Literals.{f0}
use Rattle.scalar.specs.Scalar.{trunc_of}
use Rattle.refusal.specs.Number.{answer_number}
use Rattle.refusal.specs.declared.Refusal.{Refusal}
use Rattle.refusal.proofs.Numbers.{no_answer}
use Rattle.hops.specs.Geometry.{hop_ratio_of, hops_by, hops_of, HopsSay, hop_geometry_of, no_geometry, geometry_by, geometry_of, geometry_value, GeometrySays}
use Rattle.hops.specs.declared.HopGeometry.{HopGeometry}

count_by : (below above : Bool) (n : ℤ) → (answer_number (hops_by below above n) ≡ cond (not below && not above) 0 11) × (result_unwrap_or (hops_by below above n) f0 ≡ cond (not below && not above) (of_int binary32 (n +ℤ pos 1)) f0)
count_by true above n = (refl, refl)
count_by false true n = (refl, refl)
count_by false false n = (refl, refl)

-- an answer that is the definition's says what the definition says
pub hops-say : (r : Result Float Refusal) (gcdkm amind h : Float) → r ≡ hops_of gcdkm amind h → HopsSay r gcdkm amind h
unfolding hops_of HopsSay
hops-say r gcdkm amind h e =
    let n = trunc_of (hop_ratio_of gcdkm amind h) in
    rw e (count_by (lt_z n (pos 0)) (lt_z (pos 999) n) n)

geometry-by : (count : Result Float Refusal) (gcdkm hp ht : Float) (split : Bool) → let g = geometry_by count gcdkm hp ht split in (answer_number g ≡ answer_number count) × (geometry_value g ≡ cond (eqb (answer_number count) 0) (hop_geometry_of gcdkm (result_unwrap_or count f0) hp ht split) no_geometry)
geometry-by (Ok xhops) gcdkm hp ht split = (refl, refl)
geometry-by (Err r) gcdkm hp ht split = (refl, rw (no_answer r))

pub geometry-says : (r : Result HopGeometry Refusal) (gcdkm amind hp ht : Float) (split : Bool) → r ≡ geometry_of gcdkm amind hp ht split → GeometrySays r gcdkm amind hp ht split
unfolding geometry_of GeometrySays
geometry-says r gcdkm amind hp ht split e = rw e (geometry-by (hops_of gcdkm amind hp) gcdkm hp ht split)
