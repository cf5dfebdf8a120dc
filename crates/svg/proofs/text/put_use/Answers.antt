-- The pieces are put one after the other.
use Rattle.lines.proofs.Placing.{put_then}
use Rattle.svg.specs.Pieces.{use_text}
use Rattle.svg.proofs.text.put_use.Goals as goal

pub returns : goal.returns
unfolding use_text
returns g c = put_then _ _ _ _ c.put_word.ensures (put_then _ _ _ _ (rw (← c.id.ensures) c.put_word-2.ensures) (put_then _ _ _ _ c.put_word-3.ensures (put_then _ _ _ _ c.put_decimal.ensures (put_then _ _ _ _ c.put_word-4.ensures (put_then _ _ _ _ c.put_decimal-2.ensures c.put_word-5.ensures)))))
