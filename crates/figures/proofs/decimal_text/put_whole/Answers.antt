-- The page of its own has room for twenty digits.
use Rattle.lines.proofs.Decimals.{length-decimal}
use Rattle.figures.proofs.decimal_text.Widths.{alone}
use Rattle.figures.proofs.decimal_text.put_whole.Goals as goal

pub returns : goal.returns
returns g c =
    rw (← alone 20 _ c.new-text.ensures c.put_decimal.ensures c.text.ensures (length-decimal c.args.n)) c.put_right.ensures
