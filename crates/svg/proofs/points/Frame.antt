-- A point that is drawn is in the frame.
use mathlib.Core.Bool.{Bool, true, false, cond, ◌&&◌}
use mathlib.Core.Path.{◌≡◌, refl}
use Prim.Native.Nat.{ℕ, ◌+◌, ◌-◌, ◌≤◌}
use native.Mathlib.Omega.{arith}
use borrow.Author.Tests.{leb-true}
use lib.Dec.{leb}
use Rattle.std.specs.Prelude.{None, Some}
use Rattle.svg.specs.declared.points.Place.{Place}
use Rattle.svg.specs.Points.{units_of, point_drawn_of, InFrame}

framed : (s t : Bool) (a b : ℕ) (p : Place) → leb a 5700 ≡ s → leb b 3000 ≡ t
    → cond (s && t) (Some (record { x = 700 + a; y = 3500 - b })) None ≡ Some p
    → (700 ≤ p.x) × (p.x ≤ 6400) × (500 ≤ p.y) × (p.y ≤ 3500)
framed true true a b p s t e =
    let l = leb-true a 5700 s in
    let m = leb-true b 3000 t in
    let across : 700 + a ≡ p.x = cc in
    let down : 3500 - b ≡ p.y = cc in
    (omega arith, omega arith, omega arith, omega arith)
framed true false a b p s t e = let z : ◌≡◌ {A = ℕ} 0 1 = cc in absurd (omega arith)
framed false t a b p s u e = let z : ◌≡◌ {A = ℕ} 0 1 = cc in absurd (omega arith)

pub in_frame : InFrame
unfolding point_drawn_of
in_frame f h p e = framed (leb (units_of 190 f) 5700) (leb (units_of 5 h) 3000) (units_of 190 f) (units_of 5 h) p refl refl e
