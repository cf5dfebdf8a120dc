-- Headings, rows and runs are put one after the other.
use Rattle.lines.proofs.Placing.{put_then}
use Rattle.show_text.specs.Page.{slot_page}
use Rattle.show_text.proofs.show_page.put_slot.Goals as goal

pub returns : goal.returns
unfolding slot_page
returns g c = put_then _ _ _ _ c.put_word.ensures (put_then _ _ _ _ c.put_decimal.ensures (put_then _ _ _ _ c.put_word-2.ensures (put_then _ _ _ _ c.put_rows.ensures (put_then _ _ _ _ c.put_word-3.ensures c.put_runs.ensures))))
