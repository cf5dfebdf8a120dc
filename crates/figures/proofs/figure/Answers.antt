-- NaN, an infinity, or the signed tenths.
use mathlib.Core.Path.{sym, ap, ◌∙◌}
use mathlib.Core.Bool.{true, false}
use Prim.Native.Nat.{ℕ}
use Rattle.figures.specs.Figure.{signed_tenths}
use Rattle.figures.proofs.Product.{not-a-number, infinite, finite}
use Rattle.figures.proofs.figure.Goals as goal

pub returns-then-is_nan : goal.returns-then-is_nan
returns-then-is_nan c = not-a-number _ (sym c.is_nan.ensures.value ∙ c.if-is_nan.true)

pub returns-then-is_infinite : goal.returns-then-is_infinite
returns-then-is_infinite c = infinite _ (sym c.is_nan.ensures.value ∙ c.if-is_nan.false) (sym c.is_infinite.ensures.value ∙ c.if-is_infinite.true)

pub returns-then-is_sign_negative : goal.returns-then-is_sign_negative
returns-then-is_sign_negative c =
    c.minus.ensures
    ∙ ap (λ (n : ℕ). signed_tenths true n) c.times-n.ensures
    ∙ finite c.args.v true (sym c.is_nan.ensures.value ∙ c.if-is_nan.false) (sym c.is_infinite.ensures.value ∙ c.if-is_infinite.false) (sym c.is_sign_negative.ensures ∙ c.if-is_sign_negative.true)

pub returns : goal.returns
returns c =
    c.plus.ensures
    ∙ ap (λ (n : ℕ). signed_tenths false n) c.times-n.ensures
    ∙ finite c.args.v false (sym c.is_nan.ensures.value ∙ c.if-is_nan.false) (sym c.is_infinite.ensures.value ∙ c.if-is_infinite.false) (sym c.is_sign_negative.ensures ∙ c.if-is_sign_negative.false)
