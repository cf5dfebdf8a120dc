-- By induction over the calls before it; it leaves the state that it got.
use mathlib.Core.List.{List, [], ◌∷◌, ◌++◌}
use mathlib.Core.Path.{◌≡◌, refl, ap}
use Rattle.layers.specs.declared.IonoState.{IonoState}
use Rattle.heights.specs.Gethp.{Finder}
use Rattle.call_lists.specs.Calls.{Call, Answer, answer_with, after_with}
use Rattle.call_lists.specs.Lists.{run_with, answers_with}
use Rattle.call_lists.specs.Nominal.{NominalAnywhere}

-- two lists run one after the other
answers-joined : (find : Finder) (s : IonoState) (before after : List Call) → answers_with find s (before ++ after) ≡ answers_with find s before ++ answers_with find (run_with find s before) after
unfolding answers_with run_with
answers-joined find s [] after = refl
answers-joined find s (c ∷ before) after = ap (λ (l : List Answer). answer_with find s c ∷ l) (answers-joined find (after_with find s c) before after)

pub nominal-anywhere : NominalAnywhere
unfolding answers_with run_with answer_with after_with
nominal-anywhere find s [] after points f2m3 es km gcd gcdkm = (refl, refl, refl)
nominal-anywhere find s (c ∷ before) after points f2m3 es km gcd gcdkm =
    let ih = nominal-anywhere find (after_with find s c) before after points f2m3 es km gcd gcdkm in
    (ih.0, ap (λ (l : List Answer). answer_with find s c ∷ l) ih.1, answers-joined find s (c ∷ before) after)
