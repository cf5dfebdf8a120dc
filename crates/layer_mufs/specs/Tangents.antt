-- The tangent frequencies of a slot's layers, as `curmuf` works them out. Its AE, A1 and A2 are 0.5, DZF is 2000, BEX 9.5.
use Rattle.std.specs.Prelude.{Bool, true, false, Float}
use Rattle.scalar.specs.F32.{◌+f◌, ◌-f◌, ◌*f◌, ◌/f◌, ◌<f◌, ◌>f◌, negf}
use Rattle.scalar.specs.Literals.{f0, f0_5, f1, f9_5, f2000}
use Rattle.scalar.specs.Root.{sqrt_of}
use Rattle.exponential.specs.Exp.{exp_of}
use Rattle.profile.specs.declared.slot_curves.Slot.{Slot}
use Rattle.layer_mufs.specs.declared.tangents.F2Tangent.{F2Tangent}
use Rattle.layer_mufs.specs.declared.tangents.Tangents.{Tangents}

unfoldable pub xt_of : Float → Float → Float
xt_of y h = f1 /f sqrt_of (f1 +f f0_5 *f y /f h)

-- is there an F1; a NaN counts as none here
abbrev pub fx1_by : Bool → Slot → Float
fx1_by true l = let xt1 = xt_of l.yi1 l.hi1 in xt1 *f l.fi1
fx1_by false l = f0

unfoldable pub fx1_of : Slot → Float
fx1_of l = fx1_by (l.fi1 >f f0) l

unfoldable pub beta_of : Float → Float → Float
beta_of xt2 gcdkm =
    let a = negf f1 +f f1 /f xt2 in
    f1 +f a *f exp_of (negf f9_5 *f gcdkm /f f2000)

-- is the path short: then both are scaled
abbrev pub short_by : Bool → Float → Float → Float → F2Tangent
short_by true xt2 fx2 gcdkm = let beta = beta_of xt2 gcdkm in record { fx2 = fx2 *f beta; xt2 = xt2 *f beta }
short_by false xt2 fx2 gcdkm = record { fx2 = fx2; xt2 = xt2 }

unfoldable pub f2_tangent_of : Slot → Float → F2Tangent
f2_tangent_of l gcdkm =
    let xt2 = xt_of l.yi2 l.hi2 in
    let fx2 = xt2 *f l.fi2 in
    short_by (gcdkm -f f2000 <f f0) xt2 fx2 gcdkm

unfoldable pub tangents_of : Slot → Float → Tangents
tangents_of l gcdkm =
    let xte = xt_of l.yi0 l.hi0 in
    record { fxe = xte *f l.fi0; fx1 = fx1_of l; f2 = f2_tangent_of l gcdkm }
