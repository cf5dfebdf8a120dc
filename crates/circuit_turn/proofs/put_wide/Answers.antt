-- The writer, with room for the longest file.
use lib.ListN.{replicate}
use Rattle.circuit.specs.Wide.{form128}
use Rattle.circuit.proofs.wide_circuit.Fit128.{fit128}
use native.Mathlib.Omega.{arith}
use Rattle.circuit_turn.proofs.Files.{written}
use Rattle.circuit_turn.proofs.put_wide.Goals as goal

pub slice_bounds-file-end : goal.slice_bounds-file-end
slice_bounds-file-end g c = (written form128 fit128 c.args.c c.requires (replicate 5 0) _ (omega arith) c.write.ensures.value c.unwrap_or-n.ensures c.write.ensures.out_after).0

pub slice_bounds-put_word-end : goal.slice_bounds-put_word-end
slice_bounds-put_word-end g c = (written form128 fit128 c.args.c c.requires (replicate 5 0) _ (omega arith) c.write.ensures.value c.unwrap_or-n.ensures c.write.ensures.out_after).1

pub returns : goal.returns
returns g c =
    let w = written form128 fit128 c.args.c c.requires (replicate 5 0) _ (omega arith) c.write.ensures.value c.unwrap_or-n.ensures c.write.ensures.out_after in
    rw w.2 at c.put_word.ensures
