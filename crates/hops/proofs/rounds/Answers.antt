use mathlib.Core.Path.{◌≡◌, refl}
use Prim.Native.Nat.{ℕ, suc, ◌<◌, ◌+◌, ◌-◌}
use native.Mathlib.Omega.{arith}
use Rattle.hops.specs.Rounds.{rounds_of, round_of, settled_of, stop_by}
use Rattle.hops.specs.declared.Ray.{Ray}
use Rattle.hops.specs.declared.Round.{Round}
use Rattle.hops.proofs.rounds.Goals as goal

one_more : (p : Ray) (n : ℕ) (t : Round) → n < 5 → rounds_of p (5 - n) t ≡ stop_by (settled_of (round_of p t).fob t.fob) (round_of p t) (rounds_of p (5 - (n + 1)) (round_of p t))
unfolding rounds_of
one_more p n t h = let e : 5 - n ≡ suc (5 - (n + 1)) = omega arith in rw e

none_left : (p : Ray) (t : Round) → rounds_of p 0 t ≡ t
unfolding rounds_of
none_left p t = refl

pub loop-p-init : goal.loop-p-init
loop-p-init c = (omega arith, refl)

pub loop-p-preserved : goal.loop-p-preserved
loop-p-preserved c =
    let q = c.loop-p in (
      omega arith,
      rw (one_more _ _ _ q.invariant.0, ← c.one_round-t.ensures, ← c.settled.ensures, c.if-settled.false) at q.invariant.1,
    )

pub returns-then-settled : goal.returns-then-settled
returns-then-settled c =
    let q = c.loop-p in
    rw (one_more _ _ _ q.invariant.0, ← c.one_round-t.ensures, ← c.settled.ensures, c.if-settled.true) at q.invariant.1

pub returns-then-ntry-gt4 : goal.returns-then-ntry-gt4
returns-then-ntry-gt4 c =
    let q = c.loop-p in
    let e : 5 - (q.ntry + 1) ≡ 0 = omega arith in
    rw (one_more _ _ _ q.invariant.0, ← c.one_round-t.ensures, ← c.settled.ensures, c.if-settled.false, e, none_left) at q.invariant.1
