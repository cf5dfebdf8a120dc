-- `hop_geometry` of the Rust, with the paper's refusal of a hop count outside 0 to 999.
use Rattle.std.specs.Prelude.{Bool, true, false, not, cond, ◌&&◌, ◌≡◌, eqb, Result, Ok, Err, ℤ, pos, ◌+ℤ◌, Float}
use Rattle.std.specs.Int.Signed.{lt_z}
use Rattle.std.specs.Result.{result_unwrap_or}
use Rattle.std.specs.Float.{binary32}
use Rattle.std.specs.Float.Ieee.{of_int}
use Rattle.scalar.specs.F32.{◌+f◌, ◌-f◌, ◌*f◌, ◌/f◌}
use Rattle.scalar.specs.Literals.{f0, f0_5, f1, f2}
use Rattle.scalar.specs.Scalar.{max_of, trunc_of}
use Rattle.scalar.specs.Root.{sqrt_of}
use Rattle.constants.specs.Constants.{D2R, PIO2, RZ}
use Rattle.waves.specs.SinCos.{sin_of, cos_of}
use Rattle.arcs.specs.Asin.{asin_of}
use Rattle.arcs.specs.Atan.{atan_of}
use Rattle.refusal.specs.declared.Refusal.{Refusal}
use Rattle.refusal.specs.Number.{answer_number}
use Rattle.hops.specs.declared.HopGeometry.{HopGeometry}

-- The hop count before it is cut to a whole number, for a layer at height h.
unfoldable pub hop_ratio_of : Float → Float → Float → Float
hop_ratio_of gcdkm amind h =
    let dele = max_of amind f0 in
    let del = dele *f D2R in
    let phe = asin_of (RZ *f cos_of del /f (RZ +f h)) in
    f0_5 *f gcdkm /f ((PIO2 -f del -f phe) *f RZ)

-- is it below 0, is it above 999
abbrev pub hops_by : Bool → Bool → ℤ → Result Float Refusal
hops_by true above nhops = Err Refusal.MufHops
hops_by false true nhops = Err Refusal.MufHops
hops_by false false nhops = Ok (of_int binary32 (nhops +ℤ pos 1))

unfoldable pub hops_of : Float → Float → Float → Result Float Refusal
hops_of gcdkm amind h = let nhops = trunc_of (hop_ratio_of gcdkm amind h) in hops_by (lt_z nhops (pos 0)) (lt_z (pos 999) nhops) nhops

-- by these an answer says: 0, and one hop more than the truncated ratio, where that is neither below 0 nor above 999; else 11, and +0
abbrev pub few : ℤ → Bool
few nhops = not (lt_z nhops (pos 0)) && not (lt_z (pos 999) nhops)

unfoldable pub HopsSay : Result Float Refusal → Float → Float → Float → Type 0
HopsSay r gcdkm amind h =
    let nhops = trunc_of (hop_ratio_of gcdkm amind h) in
    (answer_number r ≡ cond (few nhops) 0 11) × (result_unwrap_or r f0 ≡ cond (few nhops) (of_int binary32 (nhops +ℤ pos 1)) f0)

-- split_first: E and F1, where two divisions are rounded
abbrev pub psi_of : Float → Float → Bool → Float
psi_of gcdkm xhops true = let p = gcdkm /f (f2 *f RZ) in p /f xhops
psi_of gcdkm xhops false = gcdkm /f ((f2 *f RZ) *f xhops)

unfoldable pub del_of : Float → Float → Float → Float → Float
del_of psi cpsi spsi hp =
    let tanp = spsi /f (f1 -f cpsi +f hp /f RZ) in
    let phe = atan_of tanp in
    PIO2 -f phe -f psi

unfoldable pub sphe_of : Float → Float → Float
sphe_of del ht = let cdel = cos_of del in RZ *f cdel /f (RZ +f ht)

unfoldable pub secp_of : Float → Float
secp_of sphe = f1 /f sqrt_of (f1 -f sphe *f sphe)

unfoldable pub hop_geometry_of : Float → Float → Float → Float → Bool → HopGeometry
hop_geometry_of gcdkm xhops hp ht split_first =
    let psi = psi_of gcdkm xhops split_first in
    let cpsi = cos_of psi in
    let spsi = sin_of psi in
    let del = del_of psi cpsi spsi hp in
    let sphe = sphe_of del ht in
    let secp = secp_of sphe in
    record { secp = secp; sphe = sphe; del = del; xhops = xhops; psi = psi; cpsi = cpsi; spsi = spsi }

abbrev pub geometry_by : Result Float Refusal → Float → Float → Float → Bool → Result HopGeometry Refusal
geometry_by (Ok xhops) gcdkm hp ht split_first = Ok (hop_geometry_of gcdkm xhops hp ht split_first)
geometry_by (Err r) gcdkm hp ht split_first = Err r

unfoldable pub geometry_of : Float → Float → Float → Float → Bool → Result HopGeometry Refusal
geometry_of gcdkm amind hp ht split_first = geometry_by (hops_of gcdkm amind hp) gcdkm hp ht split_first

-- the geometry, of +0 beside a refusal
abbrev pub no_geometry : HopGeometry
no_geometry = record { secp = f0; sphe = f0; del = f0; xhops = f0; psi = f0; cpsi = f0; spsi = f0 }

abbrev pub geometry_value : Result HopGeometry Refusal → HopGeometry
geometry_value (Ok g) = g
geometry_value (Err r) = no_geometry

-- by these an answer says: the number of its hop count, and the geometry of that count where it is 0
unfoldable pub GeometrySays : Result HopGeometry Refusal → Float → Float → Float → Float → Bool → Type 0
GeometrySays r gcdkm amind hp ht split_first =
    let count = hops_of gcdkm amind hp in
    let number = answer_number count in
    (answer_number r ≡ number) × (geometry_value r ≡ cond (eqb number 0) (hop_geometry_of gcdkm (result_unwrap_or count f0) hp ht split_first) no_geometry)
