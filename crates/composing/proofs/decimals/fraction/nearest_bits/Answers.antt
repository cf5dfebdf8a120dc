-- A zero has its sign alone; any other number its magnitude, with the sign added.
use Rattle.std.proofs.Common.{rules}
use mathlib.Core.Path.{◌≡◌, sym}
use mathlib.Core.Bool.{Bool, true, false, cond}
use Prim.Native.Nat.{ℕ, ◌^◌, ◌≤◌, ◌<◌}
use native.Mathlib.Nat.{pow-le-pow_right}
use native.Mathlib.Omega.{arith}
use Rattle.composing.proofs.decimals.Rounded.{zero_is}
use Rattle.composing.proofs.decimals.fraction.nearest_bits.Goals as goal

ten-range : (k : ℕ) → k ≤ 9 → (0 < 10 ^ k) × (10 ^ k < 2 ^ 32)
ten-range k h =
    let a = pow-le-pow_right {n = 10} (omega arith) {i = 0} {j = k} (omega arith) in
    let b = pow-le-pow_right {n = 10} (omega arith) {i = k} {j = 9} h in
    (omega arith, omega arith)

sign-most : (s : Bool) → cond s (2 ^ 31) 0 ≤ 2 ^ 31
sign-most true = omega arith
sign-most false = omega arith

pub returns-then-n-eq0 : goal.returns-then-n-eq0
returns-then-n-eq0 c =
    let a = c in
    rw (c.sign-s.ensures, c.if-n-eq0.true) (zero_is a.args.minus (10 ^ a.args.places) (ten-range a.args.places a.requires).0)

pub magnitude-requires : goal.magnitude-requires
magnitude-requires c =
    let a = c in
    let t = ten-range a.args.places a.requires in
    (omega arith, omega arith, omega (arith, t, c.pow.ensures), omega (arith, t, c.pow.ensures))

pub overflow_add-result : goal.overflow_add-result
overflow_add-result c = omega (arith, c.magnitude.ensures.0, c.sign-s.ensures, sign-most c.args.minus)

pub returns : goal.returns
returns c =
    let e : c.from.result ≡ c.args.n = search rules in
    rw (c.sign-s.ensures, ← c.pow.ensures, ← e) (sym (c.magnitude.ensures.1 _))
