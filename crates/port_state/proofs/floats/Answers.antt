-- Each is the number of the word at its place.
use mathlib.Core.Path.{◌∙◌}
use native.Mathlib.Omega.{arith}
use lib.ListN.{take, drop, length-drop}
use lib.Seq.{length-take-le, get_or-take, get_or-drop}
use lib.Ieee.{nan, binary32, of_bits}
use Rattle.std.proofs.Common.{rules}
use Rattle.scalar.proofs.FromFn.{from_fn_map}
use Rattle.port_state.specs.Words.{floats_of}
use Rattle.port_state.proofs.floats.Goals as goal

pub returns : goal.returns
unfolding floats_of
returns g c =
    let w = c.args.w.now in
    let from = c.args.from in
    from_fn_map (of_bits binary32) (take g.row.N (drop from w)) 0 nan
    (length-take-le g.row.N (drop from w) (rw length-drop (omega arith)))
    (λ k y q l r. rw (get_or-take g.row.N (drop from w) k 0 l ∙ get_or-drop from w k 0) (search rules))
    c.from_fn.ensures.items
