-- What the marks say, in the paper's words: of the shapes that `lecden` works out at a height, the first in the paper's order whose value is the density; gap just where the density is zero. And why there is always one: the density is a number, never below zero.
use Rattle.std.specs.Prelude.{Bool, true, false, not, ◌&&◌, map, ◌⊎◌, ◌≡◌, ℕ, ◌<◌, Float}
use Rattle.std.specs.Float.Ieee.{is_nan}
use Rattle.scalar.specs.F32.{◌-f◌, ◌<f◌, ◌≤f◌, ◌>f◌, ◌≥f◌, ◌==f◌}
use Rattle.scalar.specs.Literals.{f0}
use Rattle.layers.specs.declared.IonoState.{IonoState}
use Rattle.profile.specs.Density.{fnval_of, fne_of, fnd_of, fn1_of, fn2_of, density_of}
use Rattle.profile.specs.Lecden.{slot_at, lecden_of}
use Rattle.profile.specs.Draw.{curves_for}
use Rattle.profile.specs.declared.shape_densities.Curves.{Curves}
use Rattle.profile.specs.Mark.{mark_number_of}
use Rattle.profile.specs.Marks.{mark_of, unmarked, marks_of}
use Rattle.profile.specs.declared.shapes.Mark.{Mark}

-- whether `lecden` works the shape out at h: the tests of the Rust's loop over the heights
abbrev pub worked_out : Mark → Curves → Float → Bool
worked_out Mark.None c h = false
worked_out Mark.Tail c h = not (h -f c.hex ≥f f0)
worked_out Mark.E c h = (h -f c.hex ≥f f0) && (h -f c.hte ≤f f0)
worked_out Mark.Valley c h = (h -f c.hlow >f f0) && (h -f c.hup <f f0)
worked_out Mark.F1 c h = (c.fi1 >f f0) && ((c.hb1 -f h ≤f f0) && (h -f c.ht1 ≤f f0))
worked_out Mark.F2 c h = c.hb2v -f h ≤f f0
worked_out Mark.Gap c h = false

-- the shape's value there, `fnd` to `fn2` of the Rust; 0 of the two marks that are no shape
abbrev pub shape_value : Mark → Curves → Float → Float
shape_value Mark.None c h = f0
shape_value Mark.Tail c h = fnd_of c h
shape_value Mark.E c h = fne_of c h
shape_value Mark.Valley c h = fnval_of c h
shape_value Mark.F1 c h = fn1_of c h
shape_value Mark.F2 c h = fn2_of c h
shape_value Mark.Gap c h = f0

-- the shape is worked out at h, and its value is the density
abbrev pub makes : Mark → Curves → Float → Bool
makes m c h = worked_out m c h && (shape_value m c h ==f density_of c h)

-- the first in the paper's order that makes the density: those before it have the smaller numbers
pub record FirstShape (m : Mark) (c : Curves) (h : Float) : Type 0 where
  pub made : makes m c h ≡ true
  pub first : (n : Mark) → mark_number_of n < mark_number_of m → makes n c h ≡ false

-- which mark the paper gives a height
abbrev pub Marked : Mark → Curves → Float → Type 0
Marked m c h = ((m ≡ Mark.Gap) × ((density_of c h ==f f0) ≡ true)) ⊎ (FirstShape m c h × ((density_of c h ==f f0) ≡ false))

-- at any height of any curves
pub record MarkRule (c : Curves) (h : Float) : Type 0 where
  -- D-E tail and E are never both worked out, and what is not worked out is 0
  pub never_both : (worked_out Mark.Tail c h && worked_out Mark.E c h) ≡ false
  pub else-zero : (m : Mark) → worked_out m c h ≡ false → shape_value m c h ≡ f0
  -- so the density is a number, and not below zero
  pub a-number : is_nan (density_of c h) ≡ false
  pub not-below : (density_of c h <f f0) ≡ false
  -- the mark is the paper's, and no other mark is
  pub marked : Marked (mark_of c h) c h
  pub only : (m : Mark) → Marked m c h → m ≡ mark_of c h

-- of a slot: its marks are those of the heights that `lecden` leaves, by the curves whose densities it leaves
pub record SlotMarks (s : IonoState) (k : ℕ) : Type 0 where
  pub supplied : s.ielect ≡ true → marks_of s k ≡ unmarked
  pub densities : s.ielect ≡ false → (lecden_of s k).fnsq ≡ map (density_of (curves_for (slot_at s k))) (lecden_of s k).htr
  pub marks : s.ielect ≡ false → marks_of s k ≡ map (mark_of (curves_for (slot_at s k))) (lecden_of s k).htr
