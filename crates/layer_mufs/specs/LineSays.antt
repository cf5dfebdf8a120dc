-- What the answers of this crate say by number and value: the paper's number, 0 or a refusal's, and the value where it is 0, of +0 where it is not.
use Rattle.refusal.specs.Number.{answer_number}
use Rattle.refusal.specs.declared.Refusal.{Refusal}
use Rattle.std.specs.Prelude.{true, cond, ◌≡◌, ℕ, eqb, Float, Result}
use Rattle.hops.specs.Geometry.{geometry_of, geometry_value}
use Rattle.heights.specs.Gethp.{gethp_of}
use Rattle.layers.specs.declared.IonoState.{IonoState}
use Rattle.layers.specs.declared.LayerMuf.{LayerMuf}
use Rattle.layer_mufs.specs.LayerLine.{zero_line, line_value, e_heights_with, e_found_of}

abbrev pub LineIs : Result LayerMuf Refusal → ℕ → LayerMuf → Type 0
LineIs r number m = (answer_number r ≡ number) × (line_value r ≡ cond (eqb number 0) m zero_line)

-- the E line: its hops
unfoldable pub ESays : Result LayerMuf Refusal → IonoState → Float → Float → Float → Type 0
ESays r t fxe gcdkm amind =
    let h = e_heights_with gethp_of t fxe in
    let g = geometry_of gcdkm amind h.hp h.ht true in
    LineIs r (answer_number g) (e_found_of (geometry_value g) h fxe)
