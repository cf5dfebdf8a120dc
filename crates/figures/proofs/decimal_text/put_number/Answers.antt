-- By the number's kind.
use mathlib.Core.Path.{sym, ap, ◌∙◌}
use Prim.Native.Nat.{ℕ}
use Rattle.figures.specs.Nearest.{times_of}
use Rattle.figures.proofs.decimal_text.Signs.{no_minus, some-minus, nan-text, infinity-text, minus-infinity-text, plus-text, minus-text}
use Rattle.figures.specs.Number.{signed_text}
use Rattle.figures.proofs.decimal_text.put_number.Goals as goal

pub returns-in-NotANumber : goal.returns-in-NotANumber
returns-in-NotANumber g c =
    let a = c.args in
    rw (← nan-text a.width a.places a.v (sym c.kind_of.ensures ∙ c.in-NotANumber.is)) c.put_right.ensures

pub returns-in-Infinity : goal.returns-in-Infinity
returns-in-Infinity g c =
    let a = c.args in
    rw (← infinity-text a.width a.places a.v (sym c.kind_of.ensures ∙ c.in-Infinity.is)) c.put_right-in-Infinity.ensures

pub returns-in-MinusInfinity : goal.returns-in-MinusInfinity
returns-in-MinusInfinity g c =
    let a = c.args in
    rw (← minus-infinity-text a.width a.places a.v (sym c.kind_of.ensures ∙ c.in-MinusInfinity.is)) c.put_right-in-MinusInfinity.ensures

pub returns-in-Plus : goal.returns-in-Plus
unfolding signed_text
returns-in-Plus g c =
    let a = c.args in
    let t = c.times-n in
    let units = t.ensures ∙ ap (λ (k : ℕ). times_of k a.v) c.ten_power.ensures in
    rw (← plus-text a.width a.places t.result a.v c.requires.0 c.requires.1 units (sym c.kind_of.ensures ∙ c.in-Plus.is)) c.put_units.ensures

pub returns-in-Minus : goal.returns-in-Minus
returns-in-Minus g c =
    let a = c.args in
    let t = c.times-n in
    let units = t.ensures ∙ ap (λ (k : ℕ). times_of k a.v) c.ten_power.ensures in
    rw (← minus-text a.width a.places t.result a.v c.requires.0 c.requires.1 units (sym c.kind_of.ensures ∙ c.in-Minus.is)) (rw (← no_minus a.places t.result c.if-n-eq0.true) c.put_units-in-Minus.ensures)

pub returns-in-Minus-2 : goal.returns-in-Minus-2
returns-in-Minus-2 g c =
    let a = c.args in
    let t = c.times-n in
    let units = t.ensures ∙ ap (λ (k : ℕ). times_of k a.v) c.ten_power.ensures in
    rw (← minus-text a.width a.places t.result a.v c.requires.0 c.requires.1 units (sym c.kind_of.ensures ∙ c.in-Minus-2.is)) (rw (← some-minus a.places t.result c.if-n-eq0.false) c.put_units-in-Minus-2.ensures)
