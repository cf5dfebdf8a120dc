use mathlib.Core.Path.{◌≡◌, refl, ap, ◌∙◌}
use Prim.Native.Nat.{◌≤◌, ◌<◌, ◌+◌}
use native.Mathlib.Numerals.{add-one}
use native.Mathlib.Omega.{arith}
use lib.ListN.{length, length-set}
use lib.Seq.{paste-zero}
use lib.Ieee.{binary32, to_bits}
use mathlib.Core.List.{map}
use Rattle.port_state.proofs.Copies.{written_so_far, write-more, write-all}
use Rattle.port_state.proofs.floats_into.Goals as goal

pub loop-i-init : goal.loop-i-init
loop-i-init c =
    let a = c.args in
    (refl, λ h. paste-zero a.w.now a.from (map (to_bits binary32) a.x.now))

pub loop-i-preserved : goal.loop-i-preserved
loop-i-preserved c =
    let a = c.args in
    let v = c.loop-i.invariant in
    let i = c.loop-i.i in
    let h : i < length a.x.now = omega arith in (
      rw length-set v.0,
      λ room. rw (add-one i, c.bits.ensures, v.1 room) (write-more a.w.now a.from a.x.now room i h),
    )

pub shape_of-w : goal.shape_of-w
shape_of-w c = c.loop-i.invariant.0

pub returns : goal.returns
returns c =
    let a = c.args in
    let v = c.loop-i.invariant in
    let e : c.loop-i.i ≡ length a.x.now = omega arith in
    let room : a.from + length a.x.now ≤ length a.w.now = omega arith in
    v.1 room ∙ ap (written_so_far a.w.now a.from a.x.now room) e ∙ write-all a.w.now a.from a.x.now room
