-- The digits of a number from the left, and how many there are at least.
use Prim.Native.Nat.{ℕ, zero, suc, ◌+◌, ◌-◌, ◌*◌, ◌/◌, ◌%◌, ◌^◌, ◌≤◌, ◌<◌}
use mathlib.Core.Path.{◌≡◌, ◌∙◌}
use mathlib.Core.List.{List, [], ◌∷◌}
use native.Mathlib.Nat.{pow-suc, pow-le-pow_right, div-div-eq-div-mul}
use native.Mathlib.Omega.{arith}
use borrow.Author.Tests.{lt-ltb, le-ltb}
use lib.Dec.{ltb}
use lib.ListN.{length, length-append}
use Rattle.io.specs.Digits.{hex_digit_ascii, last_digits}
use Rattle.lines.specs.Text.{tens_by, decimal_in, decimal_of, with_text}
use Rattle.lines.proofs.Placing.{put_then}

pub some : (k : ℕ) → 0 < 10 ^ k
some k = pow-le-pow_right (omega arith) {i = 0} {j = k} (omega arith)

pub glyph-digit : (n : ℕ) → 48 + n % 10 ≡ hex_digit_ascii (n % 10)
glyph-digit n = rw (lt-ltb (n % 10) 10 (omega arith))

-- a number from 10 ^ k on has more than k digits
long-in : (most k n : ℕ) → k < most → 10 ^ k ≤ n → suc k ≤ length (decimal_in most n)
unfolding decimal_in
long-in zero k n h l = absurd (omega arith)
long-in (suc most) zero n h l = omega (arith, length-append (tens_by (ltb n 10) (decimal_in most (n / 10))) (hex_digit_ascii (n % 10) ∷ []))
long-in (suc most) (suc k) n h l =
    let e : 10 ^ suc k ≡ 10 ^ k * 10 = pow-suc 10 k in
    let one = some k in
    rw (le-ltb n 10 (omega arith)) (omega (arith, long-in most k (n / 10) (omega arith) (omega arith), length-append (decimal_in most (n / 10)) (hex_digit_ascii (n % 10) ∷ [])))

pub long : (k n : ℕ) → k < 20 → 10 ^ k ≤ n → suc k ≤ length (decimal_of n)
unfolding decimal_of
long k n h l = long-in 20 k n h l

-- one more digit, from the left: that which i others follow
pub next-digit : (j i h n d m : ℕ) (page : List ℕ) {page' page'' : List ℕ} → h ≡ suc i → d ≡ hex_digit_ascii (n / 10 ^ i % 10)
    → page' ≡ with_text m page (last_digits 10 j (n / 10 ^ h)) → page'' ≡ with_text m page' (d ∷ []) → page'' ≡ with_text m page (last_digits 10 (suc j) (n / 10 ^ i))
next-digit j i h n d m page f e p q =
    let b : n / 10 ^ i / 10 ≡ n / 10 ^ h = div-div-eq-div-mul n (10 ^ i) 10 ∙ rw (f, pow-suc 10 i) in
    rw (b, ← e) (put_then m page _ (d ∷ []) p q)

-- all k of them
pub all_digits : (k n : ℕ) → last_digits 10 (k - 0) (n / 10 ^ 0) ≡ last_digits 10 k n
all_digits k n =
    let f : k - 0 ≡ k = omega arith in
    let g : n / 10 ^ 0 ≡ n = omega arith in
    rw (f, g)
