-- Eight floats, the mode, the controlling slot.
use mathlib.Core.Path.{◌≡◌, ap, ◌∙◌}
use Prim.Native.Nat.{◌<◌}
use lib.Signed.{mag}
use Rattle.port_state.specs.Words.{word_of}
use Rattle.port_state.proofs.Signs.{read_back}
use Rattle.port_muf.specs.HourWords.{head_into}
use borrow.Author.Rules.{rules}
use Rattle.port_muf.proofs.hour_words.head_into.Goals as goal

pub returns : goal.returns
unfolding head_into
returns c =
    let z = c.args.h.modmuf in
    let m : mag z < 0x8000_0000 = search rules in
    let e : c.word_of.result ≡ word_of z = c.word_of.ensures ∙ ap word_of (read_back z m) in
    rw (← c.floats_into.ensures, ← e, ← c.count.ensures)
