-- Past the end nothing is put.
use mathlib.Core.Path.{sym, ◌∙◌}
use native.Mathlib.Omega.{arith}
use Rattle.lines.proofs.Placing.{put_room, put_full}
use Rattle.lines.proofs.Page.put_byte.Goals as goal

pub returns-then-not-is_full : goal.returns-then-not-is_full
returns-then-not-is_full g c = c.push.ensures.items ∙ (rw (← c.self.view_is) (sym (put_room g.row.N c.self.inside.bytes.items c.args.b (grind (arith, c.is_full.ensures.fits, c.is_full.ensures.value, c.if-not-is_full.true)))))

pub returns-else-not-is_full : goal.returns-else-not-is_full
returns-else-not-is_full g c = rw (← c.self.view_is) (sym (put_full g.row.N c.self.inside.bytes.items c.args.b (grind (arith, c.is_full.ensures.fits, c.is_full.ensures.value, c.if-not-is_full.false))))
