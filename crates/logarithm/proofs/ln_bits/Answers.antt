-- Each return is one case of the definition; a subnormal is first shifted up to 24 digits.
use mathlib.Core.Path.{◌≡◌, sym, ap, ◌∙◌, subst}
use Prim.Native.Nat.{ℕ, ◌+◌, ◌-◌, ◌*◌, ◌%◌, ◌^◌, ◌<◌, ◌≤◌}
use native.Mathlib.Omega.{arith}
use native.Mathlib.Nat.{le_trans, le_of_eq, lt_of_lt_of_le, mod-eq_of_lt}
use lib.Dec.{lit≤}
use lib.Count.{count_leading_zeros}
use Rattle.cases.proofs.Cases.{split}
use Rattle.logarithm.specs.Ln.{below}
use Rattle.logarithm.proofs.LnCases.{ln-zero, ln-none, ln-inf, ln-1, ln-up, ln-down, ln-deep, Shifted, shifted}
use Rattle.logarithm.proofs.ln_bits.Goals.{Else-b-ge8388608}
use Rattle.logarithm.proofs.ln_bits.Goals as goal

positive : (b : ℕ) → (b % 2 ^ 31 ≡ 0 → ⊥) → 0 < b
positive b z = split 0 b (λ l. l) (λ l. absurd (z (omega arith)))

less : (b d : ℕ) → b ≤ d → (b ≡ d → ⊥) → b < d
less b d h n = split b d (λ l. l) (λ l. absurd (n (omega arith)))

more : (b d : ℕ) → d ≤ b → (b ≡ d → ⊥) → d < b
more b d h n = split d b (λ l. l) (λ l. absurd (n (omega arith)))

deep : (c : Else-b-ge8388608) → Shifted c.args.b
deep c = shifted c.args.b (positive c.args.b c.if-b-eq0.false) c.if-b-ge8388608.false

m-is : (c : Else-b-ge8388608) → let b = c.args.b in b * 2 ^ (count_leading_zeros 32 b - 8) % 0x1_0000_0000 ≡ b * 2 ^ (count_leading_zeros 32 b - 8)
m-is c = mod-eq_of_lt (lt_of_lt_of_le (deep c).below (lit≤ tt))

pub returns-then-b-eq0 : goal.returns-then-b-eq0
returns-then-b-eq0 c = sym (ln-zero c.args.b c.if-b-eq0.true)

pub returns-then-b-gt2139095040 : goal.returns-then-b-gt2139095040
returns-then-b-gt2139095040 c = sym (ln-none c.args.b c.if-b-eq0.false c.if-b-gt2139095040.true)

pub returns-then-b-eq2139095040 : goal.returns-then-b-eq2139095040
returns-then-b-eq2139095040 c = sym (ln-inf c.args.b c.if-b-eq2139095040.true)

pub returns-then-b-eq1065353216 : goal.returns-then-b-eq1065353216
returns-then-b-eq1065353216 c = sym (ln-1 c.args.b c.if-b-eq1065353216.true)

pub above_bits-requires : goal.above_bits-requires
above_bits-requires c = let b = c.args.b in let g = less b 0x7f80_0000 c.if-b-gt2139095040.false c.if-b-eq2139095040.false in let f = more b 0x3f80_0000 c.if-b-ge1065353216.true c.if-b-eq1065353216.false in (omega arith, omega arith, omega arith, omega arith)

pub returns-then-b-ge1065353216 : goal.returns-then-b-ge1065353216
returns-then-b-ge1065353216 c = let b = c.args.b in c.above_bits.ensures ∙ sym (ln-up b (more b 0x3f80_0000 c.if-b-ge1065353216.true c.if-b-eq1065353216.false) (less b 0x7f80_0000 c.if-b-gt2139095040.false c.if-b-eq2139095040.false))

pub returns-then-b-ge8388608 : goal.returns-then-b-ge8388608
returns-then-b-ge8388608 c = let b = c.args.b in c.below_bits.ensures ∙ sym (ln-down b c.if-b-ge8388608.true c.if-b-ge1065353216.false)

pub overflow_sub-z : goal.overflow_sub-z
overflow_sub-z c = omega (arith, (deep (goal.at.overflow_sub-z c).Else-b-ge8388608).zeros)

pub overflow_shl-b : goal.overflow_shl-b
overflow_shl-b c = omega (arith, (deep (goal.at.overflow_shl-b c).Else-b-ge8388608).most)

pub overflow_add-z : goal.overflow_add-z
overflow_add-z c = omega (arith, (deep (goal.at.overflow_add-z c).Else-b-ge8388608).most)

pub overflow_cast-z : goal.overflow_cast-z
overflow_cast-z c = omega (arith, (deep (goal.at.overflow_cast-z c).Else-b-ge8388608).most)

pub below_bits-requires-2 : goal.below_bits-requires-2
below_bits-requires-2 c = (le_trans (deep (goal.at.below_bits-requires-2 c).Else-b-ge8388608).least (le_of_eq (sym (m-is (goal.at.below_bits-requires-2 c).Else-b-ge8388608))), subst (λ (y : ℕ). y < 2 ^ 24) (sym (m-is (goal.at.below_bits-requires-2 c).Else-b-ge8388608)) (deep (goal.at.below_bits-requires-2 c).Else-b-ge8388608).below, omega arith, omega (arith, (deep (goal.at.below_bits-requires-2 c).Else-b-ge8388608).most))

pub returns : goal.returns
returns c = let b = c.args.b in c.below_bits-2.ensures ∙ ap (λ (y : ℕ). below y (118 + count_leading_zeros 32 b)) (m-is (goal.at.returns c).Else-b-ge8388608) ∙ sym (ln-deep b (positive b c.if-b-eq0.false) c.if-b-ge8388608.false)
