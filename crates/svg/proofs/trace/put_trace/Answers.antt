use Rattle.std.proofs.Common.{ℕ, Float, ◌≡◌, ◌∙◌, ap, length, length-append, add-one, arith, rules}
use Rattle.std.proofs.lemmas.Slice.Zip.{zip_turn, zip_end}
use Rattle.lines.proofs.Placing.{put_then, joined_more}
use Rattle.std.specs.Float.{nan}
use Rattle.scalar.specs.F32.{at}
use Rattle.svg.specs.Points.{point_drawn_of}
use Rattle.svg.specs.Trace.{row_point, step_at, before_of, trace_text}
use Rattle.svg.proofs.trace.put_trace.Goals as goal

pub loop-f-preserved : goal.loop-f-preserved
unfolding before_of
loop-f-preserved g c =
    let l = c.loop-f in
    let f = c.args.f.now in
    let h = c.args.h.now in
    let t = zip_turn f h l.yielded _ l.f-iterator c.next.new.self c.next.result (search rules) (search rules) l.yielded_by _ c.in-Some.is c.next.ensures.steps in
    let i : ℕ = length l.yielded in
    let p : c.point_drawn-here.result ≡ row_point f h i = c.point_drawn-here.ensures ∙ ap (λ (x : Float). point_drawn_of x c.in-Some.h.now) (t.2 nan) ∙ ap (point_drawn_of (at f i)) (t.3 nan) in
    let q = put_then _ _ _ _ l.invariant.1 (rw (← p, ← l.invariant.0) c.put_step.ensures) in
    (rw (length-append l.yielded _, add-one i) p, rw (length-append l.yielded _, joined_more (step_at f h) i) q)

pub returns : goal.returns
unfolding trace_text
returns g c =
    let l = c.loop-f in
    let e = zip_end c.args.f.now c.args.h.now l.yielded _ l.f-iterator c.next.new.self c.next.result (search rules) (search rules) l.yielded_by c.in-None.is c.next.ensures.steps in
    let n : length l.yielded ≡ 30 = omega (arith, e) in
    rw (← n) l.invariant.1
