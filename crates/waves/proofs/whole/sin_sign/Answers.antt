-- `waves::whole::sin_sign` meets its contract.
use mathlib.Core.Path.{sym}
use Rattle.waves.proofs.Patterns.{sin-sign-kept, sin-sign-turned}
use Rattle.waves.proofs.whole.sin_sign.Goals as goal

pub returns-then-x-le7244019458077122842 : goal.returns-then-x-le7244019458077122842
returns-then-x-le7244019458077122842 c = sym (sin-sign-kept c.args.x c.args.t c.if-x-le7244019458077122842.true)

pub returns : goal.returns
returns c = sym (sin-sign-turned c.args.x c.args.t c.if-x-le7244019458077122842.false)
