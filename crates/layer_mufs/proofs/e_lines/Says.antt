-- Number and value of an answer, case by case of the definition. A refusal's number is not 0, so what stands beside it is +0.
use Rattle.layers.specs.declared.LayerMuf.{LayerMuf}
use Rattle.refusal.specs.Number.{answer_number}
use Rattle.refusal.specs.declared.Refusal.{Refusal}
use Rattle.std.specs.Prelude.{Result, Ok, Err}
use mathlib.Core.Bool.{true}
use mathlib.Core.Path.{◌≡◌, refl}
use lib.Ieee.{Float}
use Rattle.refusal.proofs.Numbers.{no_answer}
use Rattle.hops.specs.Geometry.{geometry_of, geometry_value}
use Rattle.hops.specs.declared.HopGeometry.{HopGeometry}
use Rattle.heights.specs.Gethp.{gethp_of}
use Rattle.layers.specs.declared.IonoState.{IonoState}
use Rattle.layer_mufs.specs.LayerLine.{e_heights_with, e_found_of, e_line_by, e_line_with, e_line_of}
use Rattle.layer_mufs.specs.LineSays.{LineIs, ESays}
use Rattle.layer_mufs.specs.declared.e_lines.HeightPair.{HeightPair}

e-by : (g : Result HopGeometry Refusal) (h : HeightPair) (fxe : Float) → LineIs (e_line_by g h fxe) (answer_number g) (e_found_of (geometry_value g) h fxe)
e-by (Ok g) h fxe = (refl, refl)
e-by (Err r) h fxe = (refl, rw (no_answer r))

pub e-says : (r : Result LayerMuf Refusal) (t : IonoState) (fxe gcdkm amind : Float) → r ≡ e_line_of t fxe gcdkm amind → ESays r t fxe gcdkm amind
unfolding e_line_with ESays
e-says r t fxe gcdkm amind e = let h = e_heights_with gethp_of t fxe in rw e (e-by (geometry_of gcdkm amind h.hp h.ht true) h fxe)
