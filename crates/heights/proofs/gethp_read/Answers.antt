-- Each path is the clause that its tests choose; each call is what its contract says. Where the exact rule is called, the test that it asks for has just passed.
use mathlib.Core.Bool.{Bool, true, false, ◌&&◌}
use mathlib.Core.Path.{◌≡◌, ap, sym, subst, ◌∙◌}
use mathlib.Core.List.{List}
use lib.Ieee.{Float}
use lib.Dec.{T}
use lib.Ieee.Fits.{and_r}
use Rattle.scalar.specs.F32.{◌+f◌, ◌-f◌, ◌*f◌, ◌≤f◌, ◌>f◌, at}
use Rattle.scalar.specs.Literals.{f0}
use Rattle.readings.specs.Scan.{found_of}
use Rattle.readings.specs.declared.Found.{Found}
use Rattle.heights.specs.Exact.{virtual_height_exact_of}
use Rattle.heights.specs.ReadsByWalk.{ysq_read_by, cursor_read_by}
use Rattle.heights.specs.Gethp.{heights_by}
use Rattle.heights.specs.GethpWalk.{gethp_read_of}
use Rattle.heights.specs.declared.Heights.{Heights}
use Rattle.heights.proofs.gethp_read.Goals as goal

-- the heights by the rule, and by the densities, of what the search found
module _ (exact rises used : Bool) (htr fnsq : List Float) (fxx : Float) (found : Found) (past : (fxx *f fxx -f at fnsq 0 ≤f f0) ≡ false)
    (is : found ≡ found_of fnsq htr (fxx *f fxx)) (asked : used ≡ (exact && (found.value -f at htr 0 >f f0)))
  where
    ruled : (rise : Float) → used ≡ true → rise ≡ virtual_height_exact_of htr fnsq (fxx *f fxx) (found.value -f at htr 0)
        → ◌≡◌ {A = Heights} (record { hp = at htr 0 +f rise; ht = at htr 0 +f (found.value -f at htr 0); cursor = 0; segment = found.segment }) (gethp_read_of exact rises htr fnsq fxx)
    unfolding gethp_read_of
    ruled rise u e = rw (past, e, is, ← ap (λ (f : Found). exact && (f.value -f at htr 0 >f f0)) is, ← asked, u)

    summed : (r : Heights) → used ≡ false
        → r ≡ heights_by false htr fnsq (fxx *f fxx) (found.value -f at htr 0) found.segment (ysq_read_by rises htr fnsq (found.value -f at htr 0) (fxx *f fxx)) (cursor_read_by rises htr fnsq (found.value -f at htr 0))
        → r ≡ gethp_read_of exact rises htr fnsq fxx
    unfolding gethp_read_of
    summed r u e = rw (past, e, is, ← ap (λ (f : Found). exact && (f.value -f at htr 0 >f f0)) is, ← asked, u)

pub returns-then-fr-fnsq : goal.returns-then-fr-fnsq
unfolding gethp_read_of
returns-then-fr-fnsq c = rw c.if-fr-fnsq.true

pub virtual_height_exact-rise-requires : goal.virtual_height_exact-rise-requires
virtual_height_exact-rise-requires c =
    let a = c.args in
    let found = c.profile_interpolate-found.result in
    and_r a.exact (found.value -f at a.p.htr.now 0 >f f0) (subst (λ (b : Bool). T b) (sym c.if-rule_used.true ∙ c.rule_used.ensures) tt)

pub returns-then-rule_used : goal.returns-then-rule_used
returns-then-rule_used c =
    let a = c.args in
    let p = c.profile_interpolate-found in
    ruled a.exact a.p.rises c.rule_used.result a.p.htr.now a.p.fnsq.now a.fxx p.result c.if-fr-fnsq.false p.ensures c.rule_used.ensures c.virtual_height_exact-rise.result c.if-rule_used.true c.virtual_height_exact-rise.ensures

pub returns : goal.returns
returns c =
    let a = c.args in
    let p = c.profile_interpolate-found in
    summed a.exact a.p.rises c.rule_used.result a.p.htr.now a.p.fnsq.now a.fxx p.result c.if-fr-fnsq.false p.ensures c.rule_used.ensures c.by_densities.result c.if-rule_used.false c.by_densities.ensures
