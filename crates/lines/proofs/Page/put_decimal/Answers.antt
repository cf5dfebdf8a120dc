-- The digits that `io::decimal` gives are the fewest, so they are the decimal.
use mathlib.Core.Path.{◌∙◌}
use native.Mathlib.Omega.{arith}
use Rattle.lines.proofs.Decimals.{fewest-decimal}
use Rattle.lines.proofs.Page.put_decimal.Goals as goal

pub returns : goal.returns
returns g c =
    let d = c.decimal-k in
    let e = d.ensures.digits ∙ fewest-decimal _ _ (omega arith) d.ensures.len in
    rw (← e) c.put_word.ensures
