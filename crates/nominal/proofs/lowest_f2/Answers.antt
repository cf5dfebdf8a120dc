-- A turn's point and F2M3 are those at the place that is reached; the points end first.
use Rattle.std.proofs.Common.{◌≡◌, ap, length, length-append, add-one, arith, refl, rules}
use Rattle.std.proofs.lemmas.Slice.Zip.{zip_turn, zip_end}
use Rattle.std.specs.Float.{nan}
use Rattle.scalar.specs.F32.{at}
use Rattle.layers.specs.declared.LayerParams.{LayerParams}
use Rattle.layers.specs.State.{no_layers}
use Rattle.nominal.specs.Nommuf.{f2muf_of}
use Rattle.nominal.proofs.lowest_f2.Goals as goal

pub loop-p-init : goal.loop-p-init
unfolding f2muf_of
loop-p-init c = refl

pub loop-p-preserved : goal.loop-p-preserved
unfolding f2muf_of
loop-p-preserved c =
    let l = c.loop-p in
    let t = zip_turn c.args.points.now c.args.f2m3.now l.yielded _ l.p-iterator c.next.new.self c.next.result (search rules) (search rules) l.yielded_by _ c.in-Some.is c.next.ensures.steps in
    rw (length-append l.yielded _, add-one (length l.yielded), ← ap (λ (p : LayerParams). at p.fi 2) (t.2 no_layers), ← t.3 nan, ← l.invariant, ← c.f2_at-fmuf.ensures) c.lower-f2muf.ensures.f2

pub returns : goal.returns
returns c =
    let l = c.loop-p in
    let e = zip_end c.args.points.now c.args.f2m3.now l.yielded _ l.p-iterator c.next.new.self c.next.result (search rules) (search rules) l.yielded_by c.in-None.is c.next.ensures.steps in
    let n : length l.yielded ≡ length c.args.points.now = omega (arith, e, c.requires) in
    rw (← n) l.invariant
