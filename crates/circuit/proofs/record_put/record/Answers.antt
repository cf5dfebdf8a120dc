-- Kind, next index, words and zeros, each into its part.
use Rattle.circuit.proofs.record_put.Cells.{put_all, one, two, three}
use Rattle.circuit.proofs.record_put.record.Goals as goal

pub returns : goal.returns
unfolding one two three
returns c =
    let a = c in
    rw (c.fill.ensures.after (λ y h. h), c.words.ensures, c.copy_from_slice-2.ensures.after, c.half-2.ensures, c.copy_from_slice.ensures.after, c.half.ensures)
    (put_all a.args.out.now a.args.ws.now a.args.kind a.args.next a.requires)
