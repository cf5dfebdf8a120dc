-- The counts, then the path; where both pass there are at most five points, and an F2M3 for each.
use Rattle.std.proofs.Common.{◌≡◌, length, arith}
use Rattle.std.proofs.lemmas.List.{length-take-le}
use mathlib.Core.Path.{sym, ◌∙◌}
use borrow.Author.Rules.{rules}
use Rattle.nominal.specs.Nommuf.{nommuf_of}
use Rattle.nominal.proofs.Counts.{agreed}
use Rattle.nominal.proofs.Inputs.{front}
use Rattle.nominal.proofs.nommuf.Goals as goal

pub returns-then-not-counts_agree : goal.returns-then-not-counts_agree
unfolding nommuf_of
returns-then-not-counts_agree c = rw (← c.counts_agree.ensures, c.if-not-counts_agree.true)

pub returns-then-not-path_taken : goal.returns-then-not-path_taken
unfolding nommuf_of
returns-then-not-path_taken c = rw (← c.counts_agree.ensures, c.if-not-counts_agree.false, ← c.path_taken.ensures, c.if-not-path_taken.true)

pub slice_bounds-points-end : goal.slice_bounds-points-end
slice_bounds-points-end c =
    let a = agreed _ _ (sym c.counts_agree.ensures ∙ c.if-not-counts_agree.false) in
    let n : length c.args.points ≡ 5 = search rules in
    omega (arith, a.0)

pub slice_bounds-nominal-end : goal.slice_bounds-nominal-end
slice_bounds-nominal-end c =
    let a = agreed _ _ (sym c.counts_agree.ensures ∙ c.if-not-counts_agree.false) in
    let n : length c.args.points ≡ 5 = search rules in
    sym (length-take-le c.args.count c.args.points (omega (arith, a.0)))

pub slice_bounds-es-end : goal.slice_bounds-es-end
slice_bounds-es-end c =
    let a = agreed _ _ (sym c.counts_agree.ensures ∙ c.if-not-counts_agree.false) in
    let n : length c.args.es ≡ 5 = search rules in
    omega (arith, a.0)

pub slice_bounds-nominal-end-2 : goal.slice_bounds-nominal-end-2
slice_bounds-nominal-end-2 c =
    let a = agreed _ _ (sym c.counts_agree.ensures ∙ c.if-not-counts_agree.false) in
    let n : length c.args.es ≡ 5 = search rules in
    sym (length-take-le c.args.count c.args.es (omega (arith, a.0)))

pub nominal-requires-clause-f2m3s : goal.nominal-requires-clause-f2m3s
nominal-requires-clause-f2m3s c =
    let a = agreed _ _ (sym c.counts_agree.ensures ∙ c.if-not-counts_agree.false) in
    let n : length c.args.points ≡ 5 = search rules in
    rw (length-take-le c.args.count c.args.points (omega (arith, a.0))) a.1

pub returns : goal.returns
unfolding nommuf_of
returns c =
    let a = agreed _ _ (sym c.counts_agree.ensures ∙ c.if-not-counts_agree.false) in
    let n : length c.args.points ≡ 5 = search rules in
    let hour = c.nominal.ensures ∙ front c.args.count c.args.points c.args.f2m3.now c.args.es c.args.gcd c.args.gcdkm (omega (arith, a.0)) in
    rw (← c.counts_agree.ensures, c.if-not-counts_agree.false, ← c.path_taken.ensures, c.if-not-path_taken.false, ← hour)
