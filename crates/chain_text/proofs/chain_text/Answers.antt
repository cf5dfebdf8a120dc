-- The chain's answer decides, and the text fits.
use mathlib.Core.Path.{sym, ◌∙◌}
use native.Mathlib.Omega.{arith}
use Rattle.lines.proofs.Placing.{fits}
use Rattle.lines.proofs.Sizes.{refused}
use Rattle.chain_text.specs.ChainText.{chain_text}
use Rattle.chain_text.proofs.Within.{followed-most}
use Rattle.chain_text.proofs.chain_text.Goals as goal

pub returns-in-Ok : goal.returns-in-Ok
unfolding chain_text
returns-in-Ok c =
    let e = sym c.follow.ensures ∙ c.in-Ok.is in
    rw e (rw c.new-page.ensures at c.put_chain.ensures ∙ fits _ _ (omega (arith, (followed-most _ _ e).most)))

pub returns-in-Err : goal.returns-in-Err
unfolding chain_text
returns-in-Err c =
    rw (← c.follow.ensures, c.in-Err.is) (rw c.new-page.ensures at c.put_refused.ensures ∙ fits _ _ (omega (arith, (refused c.in-Err.r).most)))
