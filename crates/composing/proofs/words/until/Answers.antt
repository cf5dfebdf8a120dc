-- The bytes that the iterator takes are that run.
use Rattle.std.proofs.Common.{rules, tests}
use Rattle.std.proofs.lemmas.Iterator.{YieldsList-from_slice}
use Rattle.std.proofs.lemmas.Iterator.Search.{YieldsList-from_take_while}
use Rattle.std.proofs.lemmas.Iterator.Consumers.{count_from_yields_List}
use Rattle.composing.specs.Words.{other}
use Rattle.composing.proofs.words.Runs.{taken}
use Rattle.composing.proofs.words.until.Goals as goal

pub returns : goal.returns
returns c =
    taken (other c.args.b) c.args.t.now _
    (count_from_yields_List _ _ c.count.ensures.ran (YieldsList-from_take_while _ (other c.args.b) (YieldsList-from_slice c.args.t.now cc) c.take_while.ensures.closure c.take_while.ensures.done (λ x r q k. search (rules, tests))))
