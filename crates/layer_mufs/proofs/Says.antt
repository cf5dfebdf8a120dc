-- Number and value of an answer, case by case of the definition. A refusal's number is not 0, so what stands beside it is +0.
use Rattle.hops.specs.declared.HopGeometry.{HopGeometry}
use Rattle.refusal.specs.Number.{answer_number}
use Rattle.refusal.specs.declared.Refusal.{Refusal}
use Rattle.std.specs.Prelude.{Result, Ok, Err}
use Rattle.std.specs.Result.{result_unwrap_or}
use mathlib.Core.Bool.{Bool, true, false, cond}
use mathlib.Core.List.{List}
use mathlib.Core.Path.{◌≡◌, refl}
use lib.Dec.{eqb}
use lib.Ieee.{Float}
use Rattle.scalar.specs.F32.{◌*f◌, ◌≤f◌}
use Rattle.scalar.specs.Literals.{f0, f0_01, f0_9, f1_1}
use Rattle.scalar.specs.Scalar.{max_of}
use Rattle.refusal.proofs.Numbers.{no_answer}
use Rattle.deciles.specs.F2dis.{f2dis_of}
use Rattle.hops.specs.Geometry.{geometry_of, geometry_value}
use Rattle.hops.specs.declared.Round.{Round}
use Rattle.heights.specs.Gethp.{gethp_of}
use Rattle.layers.specs.declared.IonoState.{IonoState}
use Rattle.layers.specs.declared.LayerMuf.{LayerMuf}
use Rattle.profile.specs.declared.slot_curves.Slot.{Slot}
use Rattle.layer_mufs.specs.LayerLine.{layer_line_of, read_with}
use Rattle.layer_mufs.specs.Lines.{f2_heights_with, bent_of, both_by, deviations_of, lower_value, upper_value, f2_bent_by, f2_bent_of, f2_line_by, f2_line_with, f2_line_of, f1_found_of, f1_own_by, f1_own_with, f1_line_by, f1_line_with, f1_line_of}
use Rattle.layer_mufs.specs.LineSays.{LineIs}
use Rattle.layer_mufs.specs.Says.{first_refusal_number, DeviationsSay, F2Says, F1Says}
use Rattle.layer_mufs.specs.declared.PathNumbers.{PathNumbers}
use Rattle.layer_mufs.specs.declared.tangents.F2Tangent.{F2Tangent}
use Rattle.layer_mufs.specs.declared.e_lines.HeightPair.{HeightPair}
use Rattle.layer_mufs.specs.declared.Deviations.{Deviations}

both_by_lem : (low high : Result Float Refusal) → let r = both_by low high in let number = first_refusal_number (answer_number low) (answer_number high) in (answer_number r ≡ number) × (lower_value r ≡ cond (eqb number 0) (max_of (result_unwrap_or low f0) f0_01) f0) × (upper_value r ≡ cond (eqb number 0) (max_of (result_unwrap_or high f0) f0_01) f0)
both_by_lem (Ok l) (Ok u) = (refl, refl, refl)
both_by_lem (Ok l) (Err r) = (refl, rw (no_answer r), rw (no_answer r))
both_by_lem (Err r) u = (rw (no_answer r), rw (no_answer r, no_answer r), rw (no_answer r, no_answer r))

pub deviations-say : (r : Result Deviations Refusal) (f2d : List Float) (f2muf ssn clat clck : Float) → r ≡ deviations_of f2d f2muf ssn clat clck → DeviationsSay r f2d f2muf ssn clat clck
unfolding deviations_of DeviationsSay
deviations-say r f2d f2muf ssn clat clck e = rw e (both_by_lem (f2dis_of f2d f2muf ssn clat (f0_9 *f f2muf) clck) (f2dis_of f2d f2muf ssn clat (f1_1 *f f2muf) clck))

bent-by : (sig : Result Deviations Refusal) (b : Round) (ht fx2 xhops : Float) → LineIs (f2_bent_by sig b ht fx2 xhops) (answer_number sig) (layer_line_of (lower_value sig) (upper_value sig) b.del b.hp ht fx2 xhops b.fob)
bent-by (Ok sig) b ht fx2 xhops = (refl, refl)
bent-by (Err r) b ht fx2 xhops = (refl, rw (no_answer r))

f2-by : (g : Result HopGeometry Refusal) (l : Slot) (h : HeightPair) (x : F2Tangent) (f2d : List Float) (clat clck : Float) (c : PathNumbers) → let b = bent_of l.fi2 x.fx2 h (geometry_value g) in let sig = deviations_of f2d b.fob c.ssn clat clck in LineIs (f2_line_by g l h x f2d clat clck c) (first_refusal_number (answer_number g) (answer_number sig)) (layer_line_of (lower_value sig) (upper_value sig) b.del b.hp h.ht x.fx2 (geometry_value g).xhops b.fob)
unfolding f2_bent_of
f2-by (Ok g) l h x f2d clat clck c = let b = bent_of l.fi2 x.fx2 h g in bent-by (deviations_of f2d b.fob c.ssn clat clck) b h.ht x.fx2 g.xhops
f2-by (Err r) l h x f2d clat clck c = (rw (no_answer r), rw (no_answer r, no_answer r))

pub f2-says : (r : Result LayerMuf Refusal) (t : IonoState) (l : Slot) (x : F2Tangent) (f2d : List Float) (clat clck : Float) (c : PathNumbers) → r ≡ f2_line_of t l x f2d clat clck c → F2Says r t l x f2d clat clck c
unfolding f2_line_with F2Says
f2-says r t l x f2d clat clck c e = let h = f2_heights_with gethp_of t l x in rw e (f2-by (geometry_of c.gcdkm c.amind h.hp h.ht false) l h x f2d clat clck c)

own-by : (g : Result HopGeometry Refusal) (h : HeightPair) (fc fx1 : Float) → LineIs (f1_own_by g h fc fx1) (answer_number g) (f1_found_of (geometry_value g) h fc fx1)
own-by (Ok g) h fc fx1 = (refl, refl)
own-by (Err r) h fc fx1 = (refl, rw (no_answer r))

f1-by : (none : Bool) (t : IonoState) (l : Slot) (fx1 : Float) (e : LayerMuf) (gcdkm amind : Float) → let h = read_with gethp_of t fx1 in let g = geometry_of gcdkm amind h.hp h.ht true in LineIs (f1_line_by none gethp_of t l fx1 e gcdkm amind) (cond none 0 (answer_number g)) (cond none e (f1_found_of (geometry_value g) h l.fi1 fx1))
unfolding f1_own_with
f1-by true t l fx1 e gcdkm amind = (refl, refl)
f1-by false t l fx1 e gcdkm amind = let h = read_with gethp_of t fx1 in own-by (geometry_of gcdkm amind h.hp h.ht true) h l.fi1 fx1

pub f1-says : (r : Result LayerMuf Refusal) (t : IonoState) (l : Slot) (fx1 : Float) (m : LayerMuf) (gcdkm amind : Float) → r ≡ f1_line_of t l fx1 m gcdkm amind → F1Says r t l fx1 m gcdkm amind
unfolding f1_line_with F1Says
f1-says r t l fx1 m gcdkm amind e = rw e (f1-by (l.fi1 ≤f f0) t l fx1 m gcdkm amind)
