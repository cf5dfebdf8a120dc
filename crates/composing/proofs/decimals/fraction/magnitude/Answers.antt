-- The quotient has 24 digits by 2 ^ 8 d or by 2 ^ 9 d, and what is rounded to 24 digits is the pattern.
use native.Mathlib.Omega.{arith}
use lib.Count.{count_leading_zeros, leading_le}
use Rattle.composing.proofs.decimals.Scaled.{Scaled, scaled}
use Rattle.composing.proofs.decimals.Magnitude.{room, under, over, first, second}
use Rattle.composing.proofs.decimals.fraction.magnitude.Goals.{Start}
use Rattle.composing.proofs.decimals.fraction.magnitude.Goals as goal

shift : (c : Start) → Scaled c.args.n c.args.d (count_leading_zeros 64 c.args.n) (count_leading_zeros 64 c.args.d)
shift c = scaled _ _ c.requires.0 c.requires.1 c.requires.2 c.requires.3

pub overflow_add-z : goal.overflow_add-z
overflow_add-z c = omega (arith, leading_le 64 c.args.n)

pub overflow_sub-z : goal.overflow_sub-z
overflow_sub-z c = (shift (goal.at.overflow_sub-z c).Start).less

pub power-requires : goal.power-requires
power-requires c = (shift (goal.at.power-requires c).Start).places

pub overflow_mul-a : goal.overflow_mul-a
overflow_mul-a c = record { fits = room _ _ _ _ _ c.requires.2 (shift (goal.at.overflow_mul-a c).Start) c.power.ensures }

pub overflow_add-y : goal.overflow_add-y
overflow_add-y c = omega (arith, leading_le 64 c.args.d)

pub overflow_sub-y : goal.overflow_sub-y
overflow_sub-y c = (shift (goal.at.overflow_sub-y c).Start).first

pub packed-requires : goal.packed-requires
packed-requires c =
    let a = c in
    let s = shift (goal.at.packed-requires c).Start in
    let f = s.field in
    let u = under _ _ _ _ _ a.requires.2 s c.power.ensures c.if-a-c.true in
    (omega arith, omega arith, omega arith, u)

pub returns-then-a-c : goal.returns-then-a-c
returns-then-a-c c =
    let a = c in
    first _ _ _ _ _ a.requires.2 (shift (goal.at.returns-then-a-c c).Start) c.power.ensures _ c.if-a-c.true c.packed.ensures

pub overflow_add-y-2 : goal.overflow_add-y-2
overflow_add-y-2 c = omega (arith, leading_le 64 c.args.d)

pub overflow_sub-y-2 : goal.overflow_sub-y-2
overflow_sub-y-2 c = let f = (shift (goal.at.overflow_sub-y-2 c).Start).first in omega arith

pub packed-requires-2 : goal.packed-requires-2
packed-requires-2 c =
    let a = c in
    let s = shift (goal.at.packed-requires-2 c).Start in
    let f = s.field in
    let o = over _ _ _ _ _ a.requires.2 s c.power.ensures c.if-a-c.false in
    (omega arith, omega arith, omega arith, o)

pub returns : goal.returns
returns c =
    let a = c in
    second _ _ _ _ _ a.requires.2 (shift (goal.at.returns c).Start) c.power.ensures _ c.if-a-c.false c.packed-2.ensures
