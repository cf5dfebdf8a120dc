-- `scalar::root::subnormal_root` meets its contract: the root is that of the normalised significand. Assumes nothing.
use mathlib.Core.Path.{sym, ap, ◌∙◌, subst}
use Prim.Native.Nat.{ℕ, ◌-◌, ◌*◌, ◌%◌, ◌^◌, ◌<◌}
use native.Mathlib.Nat.{mul-one}
use native.Mathlib.Omega.{arith}
use lib.Ieee.{binary32, of_bits}
use Rattle.scalar.specs.Root.{root_of_units}
use Rattle.scalar.proofs.Patterns.{sqrt-subnormal}
use Rattle.scalar.proofs.Normalise.{Rooted, rooted, taken-apart}
use Rattle.scalar.proofs.root.subnormal_root.Goals.{After-spare_zeros-z}
use Rattle.scalar.proofs.root.subnormal_root.Goals as goal

abbrev m : After-spare_zeros-z → ℕ
m c = c.args.b * 2 ^ c.spare_zeros-z.result % 2 ^ 32

known : (c : After-spare_zeros-z) → Rooted c.args.b 0 (m c) (126 - c.spare_zeros-z.result)
known c = rooted c.args.b 0 c.spare_zeros-z.result (omega arith) (omega arith) (omega arith) c.spare_zeros-z.ensures.0

pub overflow_shl-b : goal.overflow_shl-b
overflow_shl-b c = omega (arith, c.spare_zeros-z.ensures.1)

pub overflow_sub-z : goal.overflow_sub-z
overflow_sub-z c = omega (arith, c.spare_zeros-z.ensures.1)

pub returns : goal.returns
returns c =
    let k = known (goal.at.returns c).After-spare_zeros-z in
    let b = c.args.b in
    let s = (goal.at.returns c).After-spare_zeros-z in
    let e = c.root_pattern.ensures ∙ taken-apart (m s) (126 - c.spare_zeros-z.result) _ k.low k.high (omega (arith, c.spare_zeros-z.ensures.1)) in
    (ap (of_bits binary32) e ∙ k.is ∙ ap root_of_units (mul-one b) ∙ sym (sqrt-subnormal b (omega arith) (omega arith) (omega arith)), subst (λ (x : ℕ). x < 0x7f80_0000) (sym e) k.finite)
