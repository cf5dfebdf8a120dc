-- A guess at the digits that passes its test gives the pattern of the root. Assumes nothing.
use mathlib.Core.Path.{◌≡◌, sym, ap, ap₂, ◌∙◌, subst}
use Prim.Native.Nat.{ℕ, ◌+◌, ◌-◌, ◌*◌, ◌/◌, ◌%◌, ◌^◌, ◌≤◌, ◌<◌}
use native.Mathlib.Nat.{le-add_right, mul_assoc}
use native.Mathlib.Omega.{arith}
use lib.Pow.{pow-add}
use lib.Ieee.{binary32, of_bits}
use Rattle.scalar.specs.Root.{root, sqrt_of}
use Rattle.scalar.specs.RootPattern.{radicand, root_digits, root_pattern}
use Rattle.scalar.proofs.RootDigits.{digits_lt, fourfold}
use Rattle.scalar.proofs.RoundedRoot.{rounded}
use Rattle.scalar.proofs.RootPattern.{root-pattern}
use Rattle.scalar.proofs.Normalise.{pattern_lt}
use Rattle.scalar.proofs.Patterns.{sqrt-normal}
use Rattle.heights.specs.Guess.{Normal, Right, rooted}

-- the 24 digits, and the exponent that goes with them
abbrev m : ℕ → ℕ
m b = 2 ^ 23 + b % 2 ^ 23

abbrev h : ℕ → ℕ
h b = b / 2 ^ 23 + 125

-- what is rooted is a fourth of the radicand
rooted-is : (b : ℕ) → 4 * rooted b ≡ radicand (m b) (h b)
rooted-is b = ap (λ (odd : ℕ). 4 * (m b * (2 ^ 23 + odd * 2 ^ 23))) (same (b / 2 ^ 23)) ∙ fourfold (m b) (h b)
  where
    same : (x : ℕ) → (x + 1) % 2 ≡ (x + 125) % 2
    same x = omega arith

digits_are : (b r : ℕ) → Right b r → r ≡ root_digits (m b) (h b)
digits_are b r p = rounded (rooted b) r p.0 p.1 ∙ ap (λ (x : ℕ). (root x + 1) / 2) (rooted-is b)

abbrev pub packed_pattern : ℕ → ℕ → ℕ
packed_pattern b r = (b + 0x3e80_0000) / 2 ^ 24 * 2 ^ 23 + r

pattern-is : (b r : ℕ) → Right b r → packed_pattern b r ≡ root_pattern (m b) (h b)
pattern-is b r p = ap₂ (λ (x y : ℕ). x * 2 ^ 23 + y) (halved b) (digits_are b r p)
  where
    halved : (b : ℕ) → (b + 0x3e80_0000) / 2 ^ 24 ≡ (b / 2 ^ 23 + 125) / 2
    halved b = omega arith

-- the float is m * 2 ^ (x - 1) units, x its exponent's field
units : (m x : ℕ) → 0 < x → m * 2 ^ (x - 1) * 2 ^ 149 ≡ m * 2 ^ (x + 125 + 23)
units m x p = mul_assoc m (2 ^ (x - 1)) (2 ^ 149) ∙ ap (λ (y : ℕ). m * y) (sym (pow-add 2 (x - 1) 149) ∙ ap (λ (y : ℕ). 2 ^ y) (all x p))
  where
    all : (x : ℕ) → 0 < x → x - 1 + 149 ≡ x + 125 + 23
    all x p = omega arith

field_in : (b : ℕ) → Normal b → (0 < b / 2 ^ 23) × (b / 2 ^ 23 + 125 ≤ 400)
field_in b n = (omega arith, omega arith)

pub right-is-root : (b r : ℕ) → Normal b → Right b r → of_bits binary32 (packed_pattern b r) ≡ sqrt_of (of_bits binary32 b)
right-is-root b r n p =
    let f = field_in b n in
    ap (of_bits binary32) (pattern-is b r p)
    ∙ sym (root-pattern (m b * 2 ^ (b / 2 ^ 23 - 1)) (m b) (h b) (le-add_right (2 ^ 23) (b % 2 ^ 23)) (digits_lt b) (omega arith) f.1 (units (m b) (b / 2 ^ 23) f.0))
    ∙ sym (sqrt-normal b n.1 f.0)

pub right-finite : (b r : ℕ) → Normal b → Right b r → packed_pattern b r < 0x7f80_0000
right-finite b r n p = subst (λ (x : ℕ). x < 0x7f80_0000) (sym (pattern-is b r p)) (pattern_lt (m b) (h b) (le-add_right (2 ^ 23) (b % 2 ^ 23)) (digits_lt b) (field_in b n).1)

-- ---- the test by quotients: with S for r * r and n for what is rooted
pub test-small : (S n r : ℕ) → S < 2 ^ 50 → n < 2 ^ 49 → r < 2 ^ 25 → (S + 2 ^ 62 - n + r) / 2 ^ 62 - (S + 2 ^ 62 - n - r) / 2 ^ 62 ≤ 1
test-small S n r s l g = omega arith

pub test-right : (S n r : ℕ) → S < 2 ^ 50 → n < 2 ^ 49 → r < 2 ^ 25 → (S + 2 ^ 62 - n + r) / 2 ^ 62 - (S + 2 ^ 62 - n - r) / 2 ^ 62 ≡ 1 → (S < n + r) × (n ≤ S + r)
test-right S n r s l g e = (omega arith, omega arith)
