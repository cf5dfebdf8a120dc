-- Where a number stands in a panel's frame. Units are tenths of a pixel, from the panel's left and from its top. The frame is from 700 to 6400 across, 0 to 30 MHz at 190 units each, and from 500 to 3500 down, 600 to 0 km at 5 units each. What is outside, below zero, infinite or not a number is not drawn.
use Rattle.std.specs.Prelude.{cond, ◌&&◌, ◌≡◌, ℕ, ◌+◌, ◌-◌, ◌≤◌, Option, None, Some, leb, Float}
use Rattle.scalar.specs.F32.{◌<f◌}
use Rattle.scalar.specs.Literals.{f0}
use Rattle.figures.specs.Nearest.{past, times_of}
use Rattle.svg.specs.declared.points.Place.{Place}

-- k units for each one of the number, to the nearest unit by the exact product; `past`, which is on no axis, where it is below zero
unfoldable pub units_of : ℕ → Float → ℕ
units_of k v = cond (v <f f0) past (times_of k v)

-- of a frequency in MHz and a height in km
unfoldable pub point_drawn_of : Float → Float → Option Place
point_drawn_of f h =
    let x = units_of 190 f in
    let y = units_of 5 h in
    cond (leb x 5700 && leb y 3000) (Some (record { x = 700 + x; y = 3500 - y })) None

-- what `in_frame` says: a point that is drawn is in the frame
abbrev pub InFrame : Type 0
InFrame = (f h : Float) (p : Place) → point_drawn_of f h ≡ Some p → (700 ≤ p.x) × (p.x ≤ 6400) × (500 ≤ p.y) × (p.y ≤ 3500)
