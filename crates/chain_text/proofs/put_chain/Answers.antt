-- The loop goes along the first steps of the list, which are those of the chain.
use mathlib.Core.Path.{◌≡◌}
use Prim.Native.Nat.{◌+◌, ◌*◌, ◌-◌, ◌<◌}
use native.Mathlib.Omega.{arith}
use lib.ListN.{get_or, length-take}
use lib.Seq.{get_or-take}
use Rattle.lines.proofs.Placing.{put_then, joined_more}
use Rattle.chain_text.proofs.Within.{within}
use Rattle.chain_text.proofs.put_chain.Goals as goal

pub shared_ref_as_front-n-items : goal.shared_ref_as_front-n-items
shared_ref_as_front-n-items g c = (within _ _ c.requires).0

pub loop-n-preserved : goal.loop-n-preserved
loop-n-preserved g c =
    let k = c.args.chain.now in
    let i = c.loop-n.n-index in
    let l : i < k.count = let m = length-take k.count k.order in omega arith in
    let n = get_or k.order i 0 in
    let e : 64 * n + 64 - 64 * n ≡ 64 = omega arith in
    rw joined_more (put_then _ _ _ _ c.loop-n.invariant (rw (get_or-take k.count k.order i 0 l, e) at c.put_step.ensures))
