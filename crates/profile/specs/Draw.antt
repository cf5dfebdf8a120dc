-- The shapes of a slot, drawn from its numbers: the tail, all that the five shapes use, the slot that the reshaping leaves, its heights and densities.
use Rattle.std.specs.Prelude.{List, map, Float}
use Rattle.scalar.specs.F32.{◌-f◌, ◌*f◌, ◌/f◌, negf}
use Rattle.scalar.specs.Literals.{f0_85, f1, f2, f70}
use Rattle.scalar.specs.Scalar.{max_of}
use Rattle.exponential.specs.Exp.{exp_of}
use Rattle.profile.specs.Density.{density_of}
use Rattle.profile.specs.declared.shape_densities.Curves.{Curves}
use Rattle.profile.specs.F1.{valley_of, f1_of, reshaped_of}
use Rattle.profile.specs.Grid.{heights_of}
use Rattle.profile.specs.declared.slot_curves.Slot.{Slot}
use Rattle.profile.specs.declared.slot_curves.Valley.{Valley}
use Rattle.profile.specs.declared.slot_curves.F1Shape.{F1Shape}
use Rattle.profile.specs.declared.slot_curves.Tail.{Tail}
use Rattle.profile.specs.declared.slot_curves.Drawn.{Drawn}

-- the tail under E, down into the D region
unfoldable pub tail_of : Slot → Tail
tail_of s =
    let hd = f70 in
    let xtail = f0_85 in
    let hex = s.hi0 -f xtail *f s.yi0 in
    let fnx = f1 -f xtail *f xtail in
    let alp = f2 *f (s.hi0 -f hex) /f (fnx *f s.yi0 *f s.yi0) in
    let fsq = fnx *f exp_of (negf alp *f (hex -f hd)) in
    record { hex = hex; alp = alp; fsq = fsq }

-- all that the five shapes use; s is the reshaped slot
unfoldable pub curves_of : Slot → Valley → F1Shape → Tail → Curves
curves_of s v f t =
    let hb1 = max_of s.hi0 (s.hi1 -f s.yi1) in
    let hb2v = s.hi2 -f s.yi2 in
    record { hlow = v.hlow; hup = v.hup; fup = v.fup; asp = v.asp; hex = t.hex; hte = v.hte; fce = v.fce; hi0 = s.hi0; yi0 = s.yi0; fsq = t.fsq; alp = t.alp; fi1 = s.fi1; hb1 = hb1; ht1 = f.ht1; lin = f.lin; s1 = f.s1; hi1 = s.hi1; yi1 = s.yi1; fc1 = f.fc1; hb2v = hb2v; fc2 = v.fc2; hi2 = s.hi2; yi2 = s.yi2 }

abbrev pub prepared_of : Slot → Slot
prepared_of p = reshaped_of p (f1_of p (valley_of p))

abbrev pub htr_of : Slot → List Float
htr_of p = heights_of (prepared_of p) (tail_of (prepared_of p)).hex

-- all that the five shapes use: F1's is the shape that the reshaping chose, not one of the slot that it left
abbrev pub curves_for : Slot → Curves
curves_for p = curves_of (prepared_of p) (valley_of p) (f1_of p (valley_of p)) (tail_of (prepared_of p))

abbrev pub fnsq_of : Slot → List Float
fnsq_of p = map (density_of (curves_for p)) (htr_of p)

abbrev pub drawn_of : Slot → Drawn
drawn_of p = record { slot = prepared_of p; curves = curves_for p; htr = htr_of p }
