-- `arcs::arctan::atan_mag` meets its contract.
use mathlib.Core.Path.{sym, ◌∙◌}
use Rattle.arcs.proofs.Reduce.{low-is, mid-is, high_is}
use Rattle.arcs.proofs.arctan.atan_mag.Goals as goal

pub returns-then-a-lt1006632960 : goal.returns-then-a-lt1006632960
returns-then-a-lt1006632960 c = c.low_angle.ensures ∙ sym (low-is c.args.a c.if-a-lt1006632960.true)

pub returns-then-a-lt1065353216 : goal.returns-then-a-lt1065353216
returns-then-a-lt1065353216 c = c.mid_angle.ensures ∙ sym (mid-is c.args.a c.if-a-lt1006632960.false c.if-a-lt1065353216.true)

pub returns : goal.returns
returns c = c.high_angle.ensures ∙ sym (high_is c.args.a c.if-a-lt1006632960.false c.if-a-lt1065353216.false)
