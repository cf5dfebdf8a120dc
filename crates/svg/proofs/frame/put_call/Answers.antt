-- The last word is put at once, and the text has it in two.
use Rattle.lines.proofs.Placing.{put_then}
use Rattle.svg.specs.Frame.{call_text}
use Rattle.svg.proofs.frame.put_call.Goals as goal

pub returns : goal.returns
unfolding call_text
returns g c = put_then _ _ _ _ c.put_word.ensures (put_then _ _ _ _ c.put_figure.ensures c.put_word-2.ensures)
