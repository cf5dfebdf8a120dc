-- Words and numbers are put one after the other; the layer is that of the mode, whose bits are handed over.
use Prim.Native.Nat.{◌<◌}
use lib.Signed.{mag}
use mir.Facts.{to_z-of_z}
use borrow.Author.Rules.{rules}
use Rattle.lines.proofs.Placing.{put_then}
use Rattle.show_text.specs.MufTable.{circuit_line}
use Rattle.show_text.proofs.muf_table.put_circuit.Goals as goal

pub returns : goal.returns
unfolding circuit_line
returns g c =
    let z = c.args.h.now.modmuf in
    let m : mag z < 0x8000_0000 = search rules in
    let e = rw (to_z-of_z {z = z} (record { sfits = m })) at c.layer.ensures in
    put_then _ _ _ _ c.put_word.ensures (put_then _ _ _ _ c.put_number.ensures (put_then _ _ _ _ c.put_word-2.ensures (put_then _ _ _ _ (rw (← e) c.put_word-3.ensures) (put_then _ _ _ _ c.put_word-4.ensures (put_then _ _ _ _ c.put_decimal.ensures c.put_byte.ensures)))))
