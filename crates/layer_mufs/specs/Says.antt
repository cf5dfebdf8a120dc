-- What the answers of this crate say by number and value: the paper's number, 0 or a refusal's, and the value where it is 0, of +0 where it is not.
use Rattle.refusal.specs.Number.{answer_number}
use Rattle.refusal.specs.declared.Refusal.{Refusal}
use Rattle.std.specs.Prelude.{true, false, cond, List, ◌≡◌, ℕ, eqb, Float, Result}
use Rattle.std.specs.Result.{result_unwrap_or}
use Rattle.scalar.specs.F32.{◌*f◌, ◌≤f◌}
use Rattle.scalar.specs.Literals.{f0, f0_01, f0_9, f1_1}
use Rattle.scalar.specs.Scalar.{max_of}
use Rattle.deciles.specs.F2dis.{f2dis_of}
use Rattle.hops.specs.Geometry.{geometry_of, geometry_value}
use Rattle.heights.specs.Gethp.{gethp_of}
use Rattle.layers.specs.declared.IonoState.{IonoState}
use Rattle.layers.specs.declared.LayerMuf.{LayerMuf}
use Rattle.profile.specs.declared.slot_curves.Slot.{Slot}
use Rattle.layer_mufs.specs.LayerLine.{layer_line_of, read_with}
use Rattle.layer_mufs.specs.LineSays.{LineIs}
use Rattle.layer_mufs.specs.Lines.{f2_heights_with, bent_of, deviations_of, lower_value, upper_value, f1_found_of}
use Rattle.layer_mufs.specs.declared.PathNumbers.{PathNumbers}
use Rattle.layer_mufs.specs.declared.tangents.F2Tangent.{F2Tangent}
use Rattle.layer_mufs.specs.declared.Deviations.{Deviations}

-- the number of two steps of which the second is taken where the first answers
abbrev pub first_refusal_number : ℕ → ℕ → ℕ
first_refusal_number a b = cond (eqb a 0) b a

unfoldable pub DeviationsSay : Result Deviations Refusal → List Float → Float → Float → Float → Float → Type 0
DeviationsSay r f2d f2muf ssn clat clck =
    let low = f2dis_of f2d f2muf ssn clat (f0_9 *f f2muf) clck in
    let high = f2dis_of f2d f2muf ssn clat (f1_1 *f f2muf) clck in
    let number = first_refusal_number (answer_number low) (answer_number high) in
    (answer_number r ≡ number)
    × (lower_value r ≡ cond (eqb number 0) (max_of (result_unwrap_or low f0) f0_01) f0)
    × (upper_value r ≡ cond (eqb number 0) (max_of (result_unwrap_or high f0) f0_01) f0)

-- the F2 line: its hops, then its deviations
unfoldable pub F2Says : Result LayerMuf Refusal → IonoState → Slot → F2Tangent → List Float → Float → Float → PathNumbers → Type 0
F2Says r t l x f2d clat clck c =
    let h = f2_heights_with gethp_of t l x in
    let g = geometry_of c.gcdkm c.amind h.hp h.ht false in
    let b = bent_of l.fi2 x.fx2 h (geometry_value g) in
    let sig = deviations_of f2d b.fob c.ssn clat clck in
    LineIs r (first_refusal_number (answer_number g) (answer_number sig))
    (layer_line_of (lower_value sig) (upper_value sig) b.del b.hp h.ht x.fx2 (geometry_value g).xhops b.fob)

-- the F1 line: the E line without an F1, else its hops
unfoldable pub F1Says : Result LayerMuf Refusal → IonoState → Slot → Float → LayerMuf → Float → Float → Type 0
F1Says r t l fx1 e gcdkm amind =
    let none = l.fi1 ≤f f0 in
    let h = read_with gethp_of t fx1 in
    let g = geometry_of gcdkm amind h.hp h.ht true in
    LineIs r (cond none 0 (answer_number g)) (cond none e (f1_found_of (geometry_value g) h l.fi1 fx1))
