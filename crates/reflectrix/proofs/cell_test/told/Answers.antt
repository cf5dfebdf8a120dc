-- Each test is the definition's.
use mathlib.Core.Path.{◌≡◌, ◌∙◌}
use Prim.Native.Nat.{ℕ, ◌≤◌, ◌<◌}
use borrow.Author.Tests.{le-leb, lt-leb}
use Rattle.reflectrix.specs.Cell.{in_doubt, told_of}
use Rattle.reflectrix.proofs.cell_test.told.Goals.{then-p-low, else-p-low}
use Rattle.reflectrix.proofs.cell_test.told.Goals as goal

passed : (n p q low high : ℕ) → p ≤ low → high ≤ q → n ≡ told_of n p q low high
unfolding told_of
passed n p q low high h k = rw (le-leb high q k, le-leb p low h)

over : (n p q low high : ℕ) → low < p → high ≤ q → in_doubt ≡ told_of n p q low high
unfolding told_of
over n p q low high h k = rw (le-leb high q k, lt-leb p low h)

under : (n p q low high : ℕ) → q < high → in_doubt ≡ told_of n p q low high
unfolding told_of
under n p q low high h = rw (lt-leb high q h)

pub returns-then-high-q : goal.returns-then-high-q
returns-then-high-q c =
    let a = c.args in
    elim c.if-p-low.branch [
      | then-p-low w ↦ w.kept-is ∙ passed a.n a.p a.q a.low a.high w.if-p-low.true c.if-high-q.true
      | else-p-low w ↦ w.kept-is ∙ over a.n a.p a.q a.low a.high w.if-p-low.false c.if-high-q.true
    ]

pub returns-else-high-q : goal.returns-else-high-q
returns-else-high-q c = let a = c.args in under a.n a.p a.q a.low a.high c.if-high-q.false
