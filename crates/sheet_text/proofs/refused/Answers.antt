-- What is said of a refusal has room.
use native.Mathlib.Omega.{arith}
use Rattle.lines.proofs.Placing.{fits}
use Rattle.lines.proofs.Sizes.{refused}
use Rattle.sheet_text.proofs.refused.Goals as goal

pub returns : goal.returns
returns c = rw (c.put_refused.ensures, c.new-page.ensures) (fits 8192 _ (omega (arith, (refused c.args.r).most)))
