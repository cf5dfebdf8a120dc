-- The chain's answer decides.
use mathlib.Core.Path.{sym, ap, ◌∙◌}
use Rattle.std.specs.Prelude.{Ok, Err}
use Rattle.std.proofs.lemmas.Result.{err_from_is_err_and}
use Rattle.records.specs.Record.{form64}
use Rattle.records.proofs.Lists.{fit64}
use Rattle.circuit.proofs.Answers.{read-answered, read-refused}
use Rattle.circuit.proofs.read.Goals as goal

pub returns-in_err-c : goal.returns-in_err-c
returns-in_err-c c =
    let t = err_from_is_err_and c.from_residual.result c.from_residual.ensures.1 in
    t.1 ∙ ap Err t.2 ∙ sym (read-refused form64 _ _ (sym c.follow.ensures ∙ c.in_err-c.was))

pub read_along-requires : goal.read_along-requires
read_along-requires c = (form64, fit64, sym c.follow.ensures ∙ c.in_ok-c.was, λ file n h. (h, λ r e. e))

pub returns : goal.returns
returns c = ap Ok (c.read_along.ensures form64 fit64 (sym c.follow.ensures ∙ c.in_ok-c.was) (λ file n h. (h, λ r e. e))) ∙ sym (read-answered form64 _ _ (sym c.follow.ensures ∙ c.in_ok-c.was))
