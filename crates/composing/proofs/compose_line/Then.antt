-- What `then` goes on to.
use mathlib.Core.Path.{◌≡◌, sym, ap, ◌∙◌}
use Rattle.std.specs.Prelude.{Result, Ok, Err}
use Rattle.composing.specs.Row.{then}

pub then-ok : {A B E : Type 0} (f : A → Result B E) {r x : Result A E} {a : A} → r ≡ x → r ≡ Ok a → f a ≡ then f x
then-ok f e g = sym (ap (then f) (sym e ∙ g))

pub then-err : {A B E : Type 0} (f : A → Result B E) {r x : Result A E} {e : E} → r ≡ x → r ≡ Err e → Err e ≡ then f x
then-err f e g = sym (ap (then f) (sym e ∙ g))
