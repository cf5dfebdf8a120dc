-- The fewest digits that hold a number are the digits with no zero in front, and eight hexadecimal digits hold every number below 2 ^ 32.
use mathlib.Core.Path.{◌≡◌, refl, ◌∙◌}
use mathlib.Core.Bool.{Bool, true, false}
use mathlib.Core.List.{List, [], ◌∷◌}
use Prim.Native.Nat.{ℕ, zero, suc, ◌-◌, ◌*◌, ◌/◌, ◌%◌, ◌^◌, ◌≤◌, ◌<◌}
use native.Mathlib.Nat.{pow-succ', pow-le-pow_right}
use native.Mathlib.Numerals.{unary_clauses}
use native.Mathlib.Omega.{arith}
use borrow.Author.Tests.{lt-ltb, le-ltb, ltb-true, ltb-false}
use lib.Dec.{ltb}
use lib.ListN.{length, length-append}
use Rattle.io.specs.Digits.{hex_digit_ascii, last_digits, IsDigitCount}
use Rattle.lines.specs.Text.{tens_by, decimal_in, decimal_of}

pub length_digits : (b k n : ℕ) → length (last_digits b k n) ≡ k
length_digits b zero n = refl
length_digits b (suc k) n = length-append (last_digits b k (n / b)) (hex_digit_ascii (n % b) ∷ []) ∙ omega (arith, length_digits b k (n / b))

fewest-in : (most k n : ℕ) → k ≤ most → IsDigitCount 10 1 n k → last_digits 10 k n ≡ decimal_in most n
unfolding decimal_in
fewest-in most zero n h f = absurd (omega arith)
fewest-in zero (suc k) n h f = absurd (omega arith)
fewest-in (suc most) (suc zero) n h f = rw (lt-ltb n 10 f.1)
fewest-in (suc most) (suc (suc k)) n h f =
    let e : 10 ^ suc (suc k) ≡ 10 * 10 ^ suc k = pow-succ' 10 (suc k) in
    let l : 10 ^ k * 10 ≤ n = simp unary_clauses at (f.2 (omega arith)) in
    let one : 1 ≤ 10 ^ k = pow-le-pow_right (omega arith) {i = 0} {j = k} (omega arith) in
    let e₁ : 10 ^ suc k ≡ 10 * 10 ^ k = pow-succ' 10 k in
    let g : IsDigitCount 10 1 (n / 10) (suc k) = (omega arith, omega arith, λ _. simp unary_clauses (omega arith)) in
    rw (le-ltb n 10 (omega arith), fewest-in most (suc k) (n / 10) (omega arith) g)

-- k digits with none to spare, of a number below b ^ m, are at most m
no_more : (b m k n least : ℕ) → 0 < b → least ≤ m → n < b ^ m → IsDigitCount b least n k → (t : Bool) → ltb m k ≡ t → k ≤ m
no_more b m k n least pos h f g true t =
    let more : m < k = ltb-true m k t in
    let up : b ^ m ≤ b ^ (k - 1) = pow-le-pow_right pos {i = m} {j = k - 1} (omega arith) in
    absurd (omega (arith, g.2 (omega arith)))
no_more b m k n least pos h f g false t = ltb-false m k t

pub fewest-decimal : (k n : ℕ) → n < 2 ^ 64 → IsDigitCount 10 1 n k → last_digits 10 k n ≡ decimal_of n
unfolding decimal_of
fewest-decimal k n h f = fewest-in 20 k n (no_more 10 20 k n 1 (omega arith) (omega arith) (omega arith) f (ltb 20 k) refl) f

pub fewest-hex : (k n : ℕ) → n < 2 ^ 32 → IsDigitCount 16 8 n k → k ≡ 8
fewest-hex k n h f = omega (arith, no_more 16 8 k n 8 (omega arith) (omega arith) (omega arith) f (ltb 8 k) refl)

short : (b : Bool) (l : List ℕ) (n : ℕ) → length l ≤ n → length (tens_by b l) ≤ n
short true l n h = omega arith
short false l n h = h

length-in : (places n : ℕ) → length (decimal_in places n) ≤ places
unfolding decimal_in
length-in zero n = omega arith
length-in (suc places) n =
    let t = tens_by (ltb n 10) (decimal_in places (n / 10)) in
    omega (arith, length-append t (hex_digit_ascii (n % 10) ∷ []), short (ltb n 10) (decimal_in places (n / 10)) places (length-in places (n / 10)))

pub length-decimal : (n : ℕ) → length (decimal_of n) ≤ 20
unfolding decimal_of
length-decimal n = length-in 20 n

-- a number below 10 ^ k has at most k digits, and one has one
below_by : (t : Bool) (places k n : ℕ) → ltb n 10 ≡ t → n < 10 ^ suc k → length (decimal_in places n) ≤ suc k
unfolding decimal_in
below_by t zero k n e h = omega arith
below_by true (suc places) k n e h = rw e (omega arith)
below_by false (suc places) zero n e h = let l = ltb-false n 10 e in absurd (omega arith)
below_by false (suc places) (suc k) n e h =
    let p : 10 ^ suc (suc k) ≡ 10 * 10 ^ suc k = pow-succ' 10 (suc k) in
    let r = below_by (ltb (n / 10) 10) places k (n / 10) refl (omega arith) in
    rw e (omega (arith, r, length-append (decimal_in places (n / 10)) (hex_digit_ascii (n % 10) ∷ [])))

pub length-below : (k n : ℕ) → n < 10 ^ suc k → length (decimal_of n) ≤ suc k
unfolding decimal_of
length-below k n h = below_by (ltb n 10) 20 k n refl h
