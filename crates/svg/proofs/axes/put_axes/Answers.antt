-- The last word is put at once, and the text has it in two.
use Rattle.lines.proofs.Placing.{put_then}
use Rattle.svg.specs.Axes.{axes_text}
use Rattle.svg.proofs.axes.put_axes.Goals as goal

pub returns : goal.returns
unfolding axes_text
returns g c = put_then _ _ _ _ c.put_word.ensures (put_then _ _ _ _ c.put_frequencies.ensures (put_then _ _ _ _ c.put_heights.ensures c.put_word-2.ensures))
