-- Each is worked out from what the step before left at its place; what a number of at most 0.9999 leaves of 1 is no NaN, -infinity too. Assumes nothing.
use mathlib.Core.Path.{◌≡◌, sym, ap, ◌∙◌, subst}
use mathlib.Core.Bool.{true, false, not}
use mathlib.Core.List.{map, map-map}
use Rattle.std.proofs.Common.{rules}
use lib.Dec.{T}
use lib.Ieee.{Float, nan, inf, fin, binary32, le, is_nan, of_bits, add, sub, neg}
use Rattle.scalar.specs.F32.{◌-f◌, ◌/f◌, at}
use Rattle.scalar.specs.Literals.{f0_9999, f1}
use Rattle.scalar.specs.Root.{sqrt_of}
use Rattle.scalar.proofs.FromFn.{from_fn_each, from_fn_map}
use Rattle.order.specs.Units.{real}
use Rattle.order.proofs.Sums.{sub-real}
use Rattle.heights.proofs.integrands.integrands.Goals as goal

number-left : (x : Float) → T (le x f0_9999) → T (not (is_nan (f1 -f x)))
number-left nan h = absurd (unfold le in h)
number-left (inf true) h = unfold of_bits sub neg add is_nan in tt
number-left (inf false) h = absurd (unfold le of_bits in h)
number-left (fin s m e) h = number (f1 -f fin s m e) (unfold of_bits in sub-real binary32 f1 (fin s m e) tt tt)
  where
    number : (x : Float) → T (real x) → T (not (is_nan x))
    number nan h = absurd h
    number (inf s) h = unfold is_nan in tt
    number (fin s m e) h = unfold is_nan in tt

pub roots-root-requires : goal.roots-root-requires
roots-root-requires c k l =
    let ysq = c.args.ysq in
    subst (λ (x : Float). T (not (is_nan x))) (sym (from_fn_each (λ k y. y ≡ f1 -f at ysq k) (λ k y q l r. search rules) c.from_fn-rest.ensures.items nan k l)) (number-left (at ysq k) (c.requires k l))

pub returns : goal.returns
returns c =
    let ysq = c.args.ysq in
    let root = c.roots-root.result in
    let f = λ (y : Float). f1 -f y in
    let g = λ (r : Float). f1 /f r in
    from_fn_map g root nan nan (search rules) (λ k y q l r. search rules) c.from_fn.ensures.items
    ∙ ap (map g) (c.roots-root.ensures ∙ ap (map sqrt_of) (from_fn_map f ysq nan nan (search rules) (λ k y q l r. search rules) c.from_fn-rest.ensures.items) ∙ map-map sqrt_of f ysq)
    ∙ map-map g (λ (y : Float). sqrt_of (f1 -f y)) ysq
