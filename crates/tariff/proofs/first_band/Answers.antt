use Rattle.std.proofs.Common.{leb, rules, tests}
use Rattle.std.proofs.lemmas.Iterator.{YieldsList-from_slice}
use Rattle.std.proofs.lemmas.Iterator.Search.{position_from_yields_List}
use Rattle.tariff.proofs.Meaning.{first-position}
use Rattle.tariff.proofs.first_band.Goals as goal

pub returns : goal.returns
returns c = rw (first-position c.args.tenths c.args.tops.now) (position_from_yields_List (λ top. leb c.args.tenths top) _ _ _ c.position.ensures.ran (YieldsList-from_slice c.args.tops.now cc) (λ x b q k. search (rules, tests)))
