-- Each is the word at its place.
use mathlib.Core.Path.{◌∙◌}
use mathlib.Core.List.{map-id}
use Prim.Native.Nat.{ℕ}
use native.Mathlib.Omega.{arith}
use lib.ListN.{take, drop, length-drop}
use lib.Seq.{length-take-le, get_or-take, get_or-drop}
use Rattle.std.proofs.Common.{rules}
use Rattle.scalar.proofs.FromFn.{from_fn_map}
use Rattle.port_circuit.specs.Words.{words_from}
use Rattle.port_circuit.proofs.words_from.Goals as goal

pub returns : goal.returns
unfolding words_from
returns g c =
    let w = c.args.w.now in
    let from = c.args.from in
    let part = take g.row.N (drop from w) in
    from_fn_map (λ (x : ℕ). x) part 0 0
    (length-take-le g.row.N (drop from w) (rw length-drop (omega arith)))
    (λ k y q l r. rw (get_or-take g.row.N (drop from w) k 0 l ∙ get_or-drop from w k 0) (search rules))
    c.from_fn.ensures.items
    ∙ map-id part
