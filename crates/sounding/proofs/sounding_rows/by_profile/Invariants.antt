-- After i turns the first i rows of the three columns are done.
use mathlib.Core.Path.{◌≡◌}
use Prim.Native.Nat.{◌≤◌, ◌-◌}
use lib.ListN.{replicate}
use Rattle.scalar.specs.Literals.{f0}
use Rattle.heights.specs.GethpWalk.{gethp_read_of}
use Rattle.sounding.specs.Rows.{rows_of}
use Rattle.sounding.proofs.sounding_rows.by_profile.Given as goal

abbrev pub invariant-loop-i : goal.invariant-loop-i
invariant-loop-i l =
    (l.i ≤ 30) × (l.hprim ≡ rows_of (λ f. (gethp_read_of l.exact l.p.rises l.p.htr.now l.p.fnsq.now f).hp) l.fv 0 (replicate 30 f0) l.i) × (l.htrue ≡ rows_of (λ f. (gethp_read_of l.exact l.p.rises l.p.htr.now l.p.fnsq.now f).ht) l.fv 0 (replicate 30 f0) l.i) × (l.segment ≡ rows_of (λ f. (gethp_read_of l.exact l.p.rises l.p.htr.now l.p.fnsq.now f).segment) l.fv 0 (replicate 30 0) l.i)

abbrev pub decreases-loop-i : goal.decreases-loop-i
decreases-loop-i l = 30 - l.i
