-- The pieces are put one after the other.
use Rattle.lines.proofs.Placing.{put_then}
use Rattle.svg.specs.Frame.{size_text}
use Rattle.svg.proofs.frame.put_size.Goals as goal

pub returns : goal.returns
unfolding size_text
returns g c = rw (← c.from.ensures) (put_then _ _ _ _ c.put_word.ensures (put_then _ _ _ _ c.put_decimal.ensures (put_then _ _ _ _ c.put_word-2.ensures (put_then _ _ _ _ c.put_decimal-2.ensures c.put_word-3.ensures))))
