use mathlib.Core.Path.{◌≡◌, refl, ap, ◌∙◌}
use Prim.Native.Nat.{◌≤◌, ◌<◌, ◌+◌}
use native.Mathlib.Numerals.{add-one}
use native.Mathlib.Omega.{arith}
use lib.ListN.{length, length-set}
use Rattle.port_state.proofs.Copies.{read_so_far, read_more, read_all}
use Rattle.port_state.proofs.floats_of.Goals as goal

pub loop-i-init : goal.loop-i-init
loop-i-init c = (omega arith, refl, λ h. refl)

pub loop-i-preserved : goal.loop-i-preserved
loop-i-preserved c =
    let a = c.args in
    let v = c.loop-i.invariant in
    let i = c.loop-i.i in
    let h : i < length a.x.now = omega arith in (
      omega arith,
      rw length-set v.1,
      λ room. rw (add-one i, c.number.ensures, v.2 room) (read_more a.w.now a.from a.x.now room i h),
    )

pub shape_of-x : goal.shape_of-x
shape_of-x c = c.loop-i.invariant.1

pub returns : goal.returns
returns c =
    let a = c.args in
    let v = c.loop-i.invariant in
    let e : c.loop-i.i ≡ length a.x.now = omega arith in
    let room : a.from + length a.x.now ≤ length a.w.now = omega arith in
    v.2 room ∙ ap (read_so_far a.w.now a.from a.x.now room) e ∙ read_all a.w.now a.from a.x.now room
