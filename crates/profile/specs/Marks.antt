-- The mark of a height: where the density is zero, gap; else the first of the five candidates, in the paper's order, that is equal to it. Candidates, density and heights are those of `lecden`, of the slot as it finds it.
use Rattle.std.specs.Prelude.{Bool, true, false, cond, List, map, ℕ, replicate, Float}
use Rattle.scalar.specs.F32.{◌==f◌}
use Rattle.scalar.specs.Literals.{f0}
use Rattle.layers.specs.declared.IonoState.{IonoState}
use Rattle.profile.specs.Density.{candidates_of, largest_of}
use Rattle.profile.specs.Lecden.{slot_at, supplied_of}
use Rattle.profile.specs.Draw.{curves_for, htr_of}
use Rattle.profile.specs.declared.slot_curves.Slot.{Slot}
use Rattle.profile.specs.declared.shape_densities.Curves.{Curves}
use Rattle.profile.specs.declared.shape_densities.Candidates.{Candidates}
use Rattle.profile.specs.declared.shapes.Mark.{Mark}

unfoldable pub first_of : Candidates → Float → Mark
first_of c density =
    cond (c.fnd ==f density) Mark.Tail
    (cond (c.fne ==f density) Mark.E
    (cond (c.fnval ==f density) Mark.Valley
    (cond (c.fn1 ==f density) Mark.F1 Mark.F2)))

unfoldable pub mark_of : Curves → Float → Mark
mark_of c h =
    let shapes = candidates_of c h in
    let density = largest_of shapes in
    cond (density ==f f0) Mark.Gap (first_of shapes density)

-- none at all fifty
abbrev pub unmarked : List Mark
unmarked = replicate 50 Mark.None

-- a supplied profile was made of no shape
abbrev pub marks_by : Bool → Slot → List Mark
marks_by true p = unmarked
marks_by false p = map (mark_of (curves_for p)) (htr_of p)

unfoldable pub marks_of : IonoState → ℕ → List Mark
marks_of s k = marks_by (supplied_of s) (slot_at s k)
