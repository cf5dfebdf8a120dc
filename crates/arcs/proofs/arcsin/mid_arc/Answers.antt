-- `arcs::arcsin::mid_arc` meets its contract, case by case.
use mathlib.Core.Path.{sym, ◌∙◌}
use Rattle.arcs.proofs.AsinBits.{gentle-is, steep-is}
use Rattle.arcs.proofs.arcsin.mid_arc.Goals as goal

pub returns-then-n-le3037000499 : goal.returns-then-n-le3037000499
returns-then-n-le3037000499 c = c.gentle_arc.ensures ∙ sym (gentle-is c.args.n c.if-n-le3037000499.true)

pub returns : goal.returns
returns c = c.steep_arc.ensures ∙ sym (steep-is c.args.n c.if-n-le3037000499.false)
