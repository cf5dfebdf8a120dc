-- Each is worked out from the quotient at its place. Assumes nothing.
use mathlib.Core.Path.{ap, ◌∙◌}
use mathlib.Core.List.{map, map-map}
use Rattle.std.proofs.Common.{rules}
use lib.Dec.{T}
use lib.Ieee.{Float, nan}
use Rattle.scalar.specs.F32.{◌/f◌, ◌≤f◌}
use Rattle.scalar.specs.Literals.{f0_9999}
use Rattle.scalar.specs.Scalar.{min_of}
use Rattle.scalar.proofs.FromFn.{from_fn_each, from_fn_map}
use Rattle.heights.proofs.integrands.shares.Goals as goal

pub returns-clause-shares : goal.returns-clause-shares
returns-clause-shares c =
    let d = c.args.densities in
    let share = c.from_fn-share.result in
    let f = λ (x : Float). x /f c.args.fr in
    let g = λ (x : Float). min_of x f0_9999 in
    from_fn_map g share nan nan c.from_fn-share.ensures.items.long (λ k y q l r. search rules) c.from_fn.ensures.items
    ∙ ap (map g) (from_fn_map f d nan nan (search rules) (λ k y q l r. search rules) c.from_fn-share.ensures.items)
    ∙ map-map g f d

pub returns-clause-cut : goal.returns-clause-cut
returns-clause-cut c = from_fn_each (λ k y. T (y ≤f f0_9999)) (λ k y q l r. search rules) c.from_fn.ensures.items nan
