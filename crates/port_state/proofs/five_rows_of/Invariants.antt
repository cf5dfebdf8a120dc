-- After k turns the first k rows stand.
use mathlib.Core.Path.{◌≡◌}
use mathlib.Core.List.{◌++◌}
use Prim.Native.Nat.{ℕ, ◌≤◌}
use lib.ListN.{length, drop, replicate}
use Rattle.port_state.specs.Ports.{five_rows_of}
use Rattle.port_state.proofs.five_rows_of.Given as goal

abbrev pub invariant-loop-k : goal.invariant-loop-k
invariant-loop-k g l = (l.k ≤ l.n) × (length l.r-items ≡ l.n) × ((of : ℕ → g.row.T.Denot) → ((k : ℕ) (r : g.row.T.Denot) → goal.F-post g l.row k r → r ≡ of k) → l.r-items ++ drop l.n (replicate 5 l.fn.zero) ≡ five_rows_of of l.fn.zero l.k)
