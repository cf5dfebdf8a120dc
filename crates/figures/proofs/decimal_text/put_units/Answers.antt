-- The page of its own has room for a sign, twenty digits, the point and nine places.
use native.Mathlib.Omega.{arith}
use lib.ListN.{length-append}
use Rattle.lines.proofs.Placing.{put_then}
use Rattle.figures.specs.Number.{placed_text}
use Rattle.figures.proofs.decimal_text.Widths.{placed-most, alone}
use Rattle.figures.proofs.decimal_text.put_units.Goals as goal

pub returns : goal.returns
returns g c =
    let a = c.args in
    let t = put_then 31 _ _ _ c.put_word.ensures c.put_placed.ensures in
    let l = length-append a.sign.now (placed_text a.places a.n) in
    let m = (placed-most a.places a.n c.requires.1).most in
    rw (← alone 31 _ c.new-text.ensures t c.text.ensures (omega (arith, c.requires.0, l, m))) c.put_right.ensures
