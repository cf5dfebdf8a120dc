-- Where the digits are fine, their number is below 10 ^ 9, and it is rounded.
use Rattle.std.specs.Prelude.{Some}
use mathlib.Core.Path.{sym, ap, ◌∙◌}
use native.Mathlib.Omega.{arith}
use Rattle.composing.specs.Decimal.{parts_of}
use Rattle.composing.proofs.decimals.DigitLists.{Fine, fine-says, first-room, second-room}
use Rattle.composing.proofs.decimals.parts.Goals.{Else-not-fine}
use Rattle.composing.proofs.decimals.parts.Goals as goal

fine-there : (c : Else-not-fine) → Fine c.args.whole.now c.args.rest.now
fine-there c = fine-says _ _ (sym c.fine.ensures ∙ c.if-not-fine.false)

pub returns-then-not-fine : goal.returns-then-not-fine
unfolding parts_of
returns-then-not-fine c = rw (sym c.fine.ensures ∙ c.if-not-fine.true)

pub value-requires : goal.value-requires
value-requires c = let f = fine-there (goal.at.value-requires c).Else-not-fine in (f.whole-digits, first-room _ _ f.most)

pub value-v-requires : goal.value-v-requires
value-v-requires c = let f = fine-there (goal.at.value-v-requires c).Else-not-fine in (f.rest-digits, second-room _ _ _ f.most c.value.ensures.1)

pub overflow_cast-rest : goal.overflow_cast-rest
overflow_cast-rest c = let f = (fine-there (goal.at.overflow_cast-rest c).Else-not-fine).most in omega arith

pub nearest_bits-requires : goal.nearest_bits-requires
nearest_bits-requires c = let f = (fine-there (goal.at.nearest_bits-requires c).Else-not-fine).most in omega arith

pub returns : goal.returns
unfolding parts_of
returns c =
    rw (sym c.fine.ensures ∙ c.if-not-fine.false, ← c.value.ensures.0, ← c.value-v.ensures.0)
    (ap Some c.nearest_bits.ensures)
