-- Each return is one case of the definition.
use mathlib.Core.Path.{sym, ap, ◌∙◌, subst}
use Prim.Native.Nat.{ℕ, ◌+◌, ◌-◌, ◌*◌, ◌/◌, ◌%◌, ◌^◌, ◌<◌, ◌≤◌}
use native.Mathlib.Omega.{arith}
use Rattle.fixed.specs.Fixed.{pick}
use lib.Dec.{ltb}
use Rattle.exponential.specs.Exp.{grown, shrunk}
use Rattle.exponential.proofs.ExpCases.{at-nan, at-tiny, at-past, at-signed, limit-le, in-range}
use Rattle.exponential.proofs.exp_bits.Goals as goal

field-le : (a v : ℕ) → a < v → v ≤ 0x42d0_0000 → a / 2 ^ 23 ≤ 133
field-le a v h k = omega arith

pub returns-then-a-gt2139095040 : goal.returns-then-a-gt2139095040
returns-then-a-gt2139095040 c = sym (at-nan c.args.b c.if-a-gt2139095040.true)

pub returns-then-a-lt855638016 : goal.returns-then-a-lt855638016
returns-then-a-lt855638016 c = sym (at-tiny c.args.b c.if-a-lt855638016.true)

pub returns-then-either-a : goal.returns-then-either-a
returns-then-either-a c = let s = c in at-past s.args.b c.either.result c.either.ensures c.either-then-either-a.result c.if-a-gt2139095040.false c.if-either-a.true c.either-then-either-a.ensures

pub scaled-requires : goal.scaled-requires
scaled-requires c = let s = c in (omega arith, field-le (s.args.b % 2 ^ 31) c.either.result c.if-either-a.false (limit-le s.args.b c.either.result c.either.ensures))

pub signed-requires : goal.signed-requires
signed-requires c = let s = c in (omega arith, subst (λ (x : ℕ). x + (1 - s.args.b / 2 ^ 31) * (0x1e_8de9 * 2 ^ 39) ≤ 104 * 2 ^ 56) (sym c.scaled.ensures) (in-range s.args.b c.either.result c.either.ensures c.if-either-a.false))

pub returns : goal.returns
returns c = let s = c in at-signed s.args.b c.either.result c.either.ensures c.signed.result c.if-a-lt855638016.false c.if-either-a.false (c.signed.ensures ∙ ap (λ (x : ℕ). pick (ltb (s.args.b / 2 ^ 31) 1) (grown x) (shrunk x)) c.scaled.ensures)
