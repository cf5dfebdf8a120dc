-- The pieces are put one after the other.
use Rattle.lines.proofs.Placing.{put_then}
use Rattle.plot_text.specs.Panels.{top_text}
use Rattle.plot_text.proofs.plot_panels.put_top.Goals as goal

pub returns : goal.returns
unfolding top_text
returns g c = put_then _ _ _ _ c.put_word.ensures (put_then _ _ _ _ c.put_decimal.ensures (put_then _ _ _ _ c.put_word-2.ensures (put_then _ _ _ _ c.put_decimal-2.ensures (put_then _ _ _ _ c.put_named.ensures c.put_word-3.ensures))))
