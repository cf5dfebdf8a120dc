-- Two runs of floats.
use Rattle.port_muf.specs.HourWords.{ten_into}
use Rattle.port_muf.proofs.hour_words.ten_into.Goals as goal

pub returns : goal.returns
unfolding ten_into
returns c = rw (← c.floats_into.ensures, ← c.floats_into-2.ensures)
