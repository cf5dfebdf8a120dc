-- `scalar::root::normal_root` meets its contract: the root is that of the normalised significand. Assumes nothing.
use mathlib.Core.Path.{◌≡◌, sym, ap, ◌∙◌, subst}
use Prim.Native.Nat.{ℕ, ◌+◌, ◌-◌, ◌*◌, ◌/◌, ◌%◌, ◌^◌, ◌<◌}
use native.Mathlib.Omega.{arith}
use lib.Ieee.{binary32, of_bits}
use Rattle.scalar.proofs.Patterns.{sqrt-normal}
use Rattle.scalar.proofs.Normalise.{Rooted, rooted, taken-apart}
use Rattle.scalar.proofs.root.normal_root.Goals.{After-spare_zeros-z}
use Rattle.scalar.proofs.root.normal_root.Goals as goal

abbrev digits : ℕ → ℕ
digits b = 2 ^ 23 + b % 2 ^ 23

abbrev m : After-spare_zeros-z → ℕ
m c = digits c.args.b * 2 ^ c.spare_zeros-z.result % 2 ^ 32

abbrev h : After-spare_zeros-z → ℕ
h c = c.args.b / 2 ^ 23 + 125 - c.spare_zeros-z.result

known : (c : After-spare_zeros-z) → Rooted (digits c.args.b) (c.args.b / 2 ^ 23 - 1) (m c) (h c)
known c =
    let b = c.args.b in
    let z = c.spare_zeros-z.result in
    let e : b / 2 ^ 23 - 1 + 126 - z ≡ h c = omega arith in
    subst (λ (x : ℕ). Rooted (digits b) (b / 2 ^ 23 - 1) (m c) x) e (rooted (digits b) (b / 2 ^ 23 - 1) z (omega arith) (omega arith) (omega arith) c.spare_zeros-z.ensures.0)

pub overflow_shl-digits : goal.overflow_shl-digits
overflow_shl-digits c = omega (arith, c.spare_zeros-z.ensures.1)

pub overflow_sub-z : goal.overflow_sub-z
overflow_sub-z c = omega (arith, c.spare_zeros-z.ensures.1)

pub returns : goal.returns
returns c =
    let k = known (goal.at.returns c).After-spare_zeros-z in
    let b = c.args.b in
    let s = (goal.at.returns c).After-spare_zeros-z in
    let e = c.root_pattern.ensures ∙ taken-apart (m s) (h s) (b / 2 ^ 23 * 2 ^ 23 + m s % 2 ^ 23 + (125 - c.spare_zeros-z.result) * 2 ^ 23) k.low k.high (omega (arith, c.spare_zeros-z.ensures.1)) in
    (ap (of_bits binary32) e ∙ k.is ∙ sym (sqrt-normal b (omega arith) (omega arith)), subst (λ (x : ℕ). x < 0x7f80_0000) (sym e) k.finite)
