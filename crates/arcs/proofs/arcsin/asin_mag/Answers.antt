-- `arcs::arcsin::asin_mag` meets its contract, case by case.
use mathlib.Core.Path.{sym, ap, ◌∙◌, subst}
use Prim.Native.Nat.{ℕ, ◌^◌, ◌<◌, ◌≤◌}
use Rattle.arcs.specs.Asin.{mid_arc}
use Rattle.arcs.proofs.AsinBits.{low-is, mid-is, mid-range}
use Rattle.arcs.proofs.arcsin.asin_mag.Goals as goal

pub returns-then-a-lt1006632960 : goal.returns-then-a-lt1006632960
returns-then-a-lt1006632960 c = c.low_arc.ensures ∙ sym (low-is c.args.a c.if-a-lt1006632960.true)

pub mid_arc-requires : goal.mid_arc-requires
mid_arc-requires c = subst (λ (x : ℕ). (2 ^ 25 ≤ x) × (x < 2 ^ 32)) (sym c.scaled.ensures) (mid-range c.args.a c.if-a-lt1006632960.false c.requires.1)

pub returns : goal.returns
returns c = c.mid_arc.ensures ∙ ap mid_arc c.scaled.ensures ∙ sym (mid-is c.args.a c.if-a-lt1006632960.false)
