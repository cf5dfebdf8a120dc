use mathlib.Core.Path.{sym}
use native.Mathlib.Numerals.{add-one}
use native.Mathlib.Omega.{arith}
use lib.ListN.{drop, replicate, length-set}
use lib.Seq.{length-take-le}
use Rattle.std.proofs.lemmas.List.{set-append_left, take-append-drop}
use Rattle.port_state.specs.Ports.{five_rows_of}
use Rattle.port_state.proofs.five_rows_of.Goals as goal

pub loop-k-init : goal.loop-k-init
unfolding five_rows_of
loop-k-init g c =
    let all = replicate 5 c.args.zero in
    (omega arith, length-take-le c.args.n all c.requires.count, λ of h. take-append-drop c.args.n all)

pub loop-k-preserved : goal.loop-k-preserved
unfolding five_rows_of
loop-k-preserved g c =
    let l = c.loop-k in
    let rest = drop c.args.n (replicate 5 c.args.zero) in (
      omega arith,
      rw length-set l.invariant.1,
      λ of h. rw (add-one l.k, ← h l.k c.row.result c.row.ensures, ← l.invariant.2 of h) (sym (set-append_left l.r-items rest l.k c.row.result (omega arith))),
    )
