use mathlib.Core.Path.{◌≡◌}
use mathlib.Core.Bool.{true}
use Prim.Native.Nat.{ℕ, zero, suc, ◌≤◌, ◌<◌}
use native.Mathlib.Omega.{arith}
use borrow.Author.Tests.{le-leb, lt-leb}
use Rattle.figures.specs.declared.Printed.{Printed}
use Rattle.figures.specs.Figure.{signed_tenths}
use Rattle.figures.proofs.minus.Goals as goal

few : (n : ℕ) → 0 < n → n < 1000 → Printed.Minus n ≡ signed_tenths true n
few zero p h = absurd (omega arith)
few (suc n) p h = rw (le-leb (suc n) 999 (omega arith))

many : (n : ℕ) → 1000 ≤ n → Printed.Stars ≡ signed_tenths true n
many zero h = absurd (omega arith)
many (suc n) h = rw (lt-leb (suc n) 999 (omega arith))

pub returns-then-n-lt1000 : goal.returns-then-n-lt1000
returns-then-n-lt1000 c = few c.args.n (omega arith) (omega arith)

pub returns : goal.returns
returns c = many c.args.n (omega arith)
