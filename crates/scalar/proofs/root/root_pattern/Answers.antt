-- `scalar::root::root_pattern` meets its contract: four times what is rooted is the radicand. Assumes nothing.
use mathlib.Core.Path.{◌≡◌, sym, ap, ap₂, ◌∙◌, subst}
use Prim.Native.Nat.{ℕ, ◌+◌, ◌*◌, ◌/◌, ◌%◌, ◌^◌, ◌≤◌, ◌<◌}
use native.Mathlib.Nat.{lt_trans, le-add_right}
use native.Mathlib.Omega.{arith}
use lib.Dec.{lit<}
use Rattle.scalar.specs.Root.{root}
use Rattle.scalar.specs.RootPattern.{radicand, root_digits}
use Rattle.scalar.proofs.RootDigits.{digits_lt, span, fourfold}
use Rattle.scalar.proofs.RootPattern.{digits_in}
use Rattle.scalar.proofs.root.root_pattern.Goals.{After-rounded_root-digits}
use Rattle.scalar.proofs.root.root_pattern.Goals as goal

-- m and h in e
abbrev m : ℕ → ℕ
m e = 2 ^ 23 + e % 2 ^ 23

abbrev h : ℕ → ℕ
h e = e / 2 ^ 23

-- what is rooted: a fourth of the radicand
abbrev rooted : ℕ → ℕ
rooted e = m e * (2 ^ 23 + h e % 2 * 2 ^ 23)

rooted-in : (e : ℕ) → (0 < rooted e) × (rooted e < 2 ^ 48)
rooted-in e = let s = span (m e) (h e) (le-add_right (2 ^ 23) (e % 2 ^ 23)) (digits_lt e) in within (rooted e) (radicand (m e) (h e)) (fourfold (m e) (h e)) s.0 s.1
  where
    within : (n A : ℕ) → 4 * n ≡ A → 2 ^ 48 ≤ A → A < 2 ^ 50 → (0 < n) × (n < 2 ^ 48)
    within n A f a b = (omega arith, omega arith)

-- the callee's result
result-is : (c : After-rounded_root-digits) → c.rounded_root-digits.result ≡ root_digits (m c.args.e) (h c.args.e)
result-is c = c.rounded_root-digits.ensures ∙ ap (λ (x : ℕ). (root x + 1) / 2) (fourfold (m c.args.e) (h c.args.e))

result-le : (c : After-rounded_root-digits) → c.rounded_root-digits.result ≤ 2 ^ 24
result-le c = let e = c.args.e in subst (λ (x : ℕ). x ≤ 2 ^ 24) (sym (result-is c)) (digits_in (m e) (h e) (le-add_right (2 ^ 23) (e % 2 ^ 23)) (digits_lt e)).1

pub overflow_mul-n : goal.overflow_mul-n
overflow_mul-n c = record { fits = lt_trans (rooted-in c.args.e).1 (lit< tt) }

pub near_root-requires : goal.near_root-requires
near_root-requires c = omega arith

pub rounded_root-digits-requires : goal.rounded_root-digits-requires
rounded_root-digits-requires c = ((rooted-in c.args.e).0, (rooted-in c.args.e).1, subst (λ (x : ℕ). x < 2 ^ 25) (sym c.from.ensures) c.near_root.ensures)

pub overflow_cast-result : goal.overflow_cast-result
overflow_cast-result c = omega (arith, result-le (goal.at.overflow_cast-result c).After-rounded_root-digits)

pub overflow_add-result : goal.overflow_add-result
overflow_add-result c = omega (arith, result-le (goal.at.overflow_add-result c).After-rounded_root-digits)

pub returns : goal.returns
returns c = let e = c.args.e in ap₂ (λ (x y : ℕ). x * 2 ^ 23 + y) (halved e) (result-is (goal.at.returns c).After-rounded_root-digits)
  where
    halved : (e : ℕ) → e / 2 ^ 24 ≡ e / 2 ^ 23 / 2
    halved e = omega arith
