-- The state as it came while `ielect` is set, else with nobody for its owner.
use mathlib.Core.Bool.{Bool}
use mathlib.Core.Path.{ap, sym, ◌∙◌}
use Rattle.layers.specs.Owners.{disowned_by, disowned}
use Rattle.layers.proofs.owners.disown.Goals as goal

pub returns-then-s : goal.returns-then-s
unfolding disowned
returns-then-s c = rw c.if-s.true

pub returns : goal.returns
unfolding disowned
returns c = c.with_owner.ensures ∙ ap (λ (b : Bool). disowned_by b c.args.s) (sym c.if-s.false)
