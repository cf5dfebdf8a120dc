-- NaN, an infinity, or a finite number, each with its sign.
use mathlib.Core.Path.{◌≡◌, refl, sym, ap, ◌∙◌}
use mathlib.Core.Bool.{Bool, true, false, false≢true}
use lib.Ieee.{Float, nan, inf, fin, is_nan}
use Rattle.std.specs.Float.{float_is_infinite, is_sign_negative}
use Rattle.figures.specs.declared.decimal_text.NumberKind.{NumberKind}
use Rattle.figures.specs.Number.{finite_kind, infinite_kind, number_kind_of}
use Rattle.figures.proofs.decimal_text.kind_of.Goals as goal

undefined : (v : Float) → is_nan v ≡ true → NumberKind.NotANumber ≡ number_kind_of v
unfolding number_kind_of is_nan
undefined nan e = refl
undefined (inf s) e = absurd (false≢true e)
undefined (fin s m x) e = absurd (false≢true e)

endless : (v : Float) (s : Bool) → is_nan v ≡ false → float_is_infinite v ≡ true → is_sign_negative v ≡ s → infinite_kind s ≡ number_kind_of v
unfolding number_kind_of is_nan float_is_infinite is_sign_negative
endless nan s n e h = absurd (false≢true (sym n))
endless (inf t) s n e h = ap infinite_kind (sym h)
endless (fin t m x) s n e h = absurd (false≢true e)

ended : (v : Float) (s : Bool) → is_nan v ≡ false → float_is_infinite v ≡ false → is_sign_negative v ≡ s → finite_kind s ≡ number_kind_of v
unfolding number_kind_of is_nan float_is_infinite is_sign_negative
ended nan s n e h = absurd (false≢true (sym n))
ended (inf t) s n e h = absurd (false≢true (sym e))
ended (fin t m x) s n e h = ap finite_kind (sym h)

pub returns-then-is_nan : goal.returns-then-is_nan
returns-then-is_nan c = undefined _ (sym c.is_nan.ensures.value ∙ c.if-is_nan.true)

pub returns-then-is_sign_negative : goal.returns-then-is_sign_negative
returns-then-is_sign_negative c =
    endless c.args.v true (sym c.is_nan.ensures.value ∙ c.if-is_nan.false) (sym c.is_infinite.ensures.value ∙ c.if-is_infinite.true) (sym c.is_sign_negative.ensures ∙ c.if-is_sign_negative.true)

pub returns-then-is_infinite : goal.returns-then-is_infinite
returns-then-is_infinite c =
    endless c.args.v false (sym c.is_nan.ensures.value ∙ c.if-is_nan.false) (sym c.is_infinite.ensures.value ∙ c.if-is_infinite.true) (sym c.is_sign_negative.ensures ∙ c.if-is_sign_negative.false)

pub returns-then-is_sign_negative-2 : goal.returns-then-is_sign_negative-2
returns-then-is_sign_negative-2 c =
    ended c.args.v true (sym c.is_nan.ensures.value ∙ c.if-is_nan.false) (sym c.is_infinite.ensures.value ∙ c.if-is_infinite.false) (sym c.is_sign_negative-2.ensures ∙ c.if-is_sign_negative-2.true)

pub returns : goal.returns
returns c =
    ended c.args.v false (sym c.is_nan.ensures.value ∙ c.if-is_nan.false) (sym c.is_infinite.ensures.value ∙ c.if-is_infinite.false) (sym c.is_sign_negative-2.ensures ∙ c.if-is_sign_negative-2.false)
