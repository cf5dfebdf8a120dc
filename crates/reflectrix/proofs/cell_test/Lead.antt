-- 2^23 and n, of whose pattern n is the end, less 2^23 are n.
use mathlib.Core.Path.{◌≡◌, refl, sym, ap, ◌∙◌, subst}
use mathlib.Core.Bool.{true, false, true≢false}
use Prim.Native.Nat.{ℕ, ◌+◌, ◌-◌, ◌*◌, ◌/◌, ◌%◌, ◌^◌, ◌≤◌, ◌<◌}
use native.Mathlib.Nat.{zero-lt-suc, mul-pos, mul_right_comm, not-le_of_lt, eq_of_mul-eq-mul_right}
use native.Mathlib.Omega.{arith}
use lib.IntN.{pos}
use lib.Dec.{ltb, ltb→lt, not_T, lit<}
use lib.Pow.{pow_pos}
use lib.Ieee.{Float, nan, inf, fin, binary32, up, down, round, neg, sum, add, sub, of_int, of_bits, of_fields}
use lib.Ieee.Bits.{cond_no}
use lib.Ieee.Fits.{down_pos}
use lib.Ieee.Exact.{HasValue}
use lib.Ieee.Scale.{round_same}
use Rattle.scalar.proofs.Patterns.{plain, fields-mid}

lead : of_bits binary32 0x4b00_0000 ≡ fin false 1 (pos 23)
unfolding of_bits
lead = refl

less-lead : (x : Float) (n : ℕ) → HasValue x false ((2 ^ 23 + n) * 2 ^ 149) (2 ^ 149) → sub binary32 x (fin false 1 (pos 23)) ≡ round binary32 false n 1
unfolding sub add neg sum
less-lead nan n h = absurd h
less-lead (inf s) n h = absurd h
less-lead (fin true m e) n h = absurd (true≢false h.0)
less-lead (fin false m e) n h =
    let k = eq_of_mul-eq-mul_right (2 ^ 149) (pow_pos 149) (m * up e) ((2 ^ 23 + n) * down e) (h.1 ∙ mul_right_comm (2 ^ 23 + n) (2 ^ 149) (down e)) in
    let a = m * up e * 1 in
    let b = 1 * 2 ^ 23 * down e in
    let c = down e * 1 in
    cond_no (ltb a b) (round binary32 true (b - a) c) (round binary32 false (a - b) c) (not_T (ltb a b) (λ u. not-le_of_lt (ltb→lt a b u) (more (m * up e) n (down e) k)))
    ∙ round_same binary32 false (a - b) c n 1 (mul-pos (down_pos e) (zero-lt-suc 0)) (zero-lt-suc 0) (left (m * up e) n (down e) k)
  where
    more : (M n D : ℕ) → M ≡ (2 ^ 23 + n) * D → 1 * 2 ^ 23 * D ≤ M * 1
    more M n D e = omega (arith, e)

    left : (M n D : ℕ) → M ≡ (2 ^ 23 + n) * D → (M * 1 - 1 * 2 ^ 23 * D) * 1 ≡ n * (D * 1)
    left M n D e = omega (arith, e)

pub whole-is : (n : ℕ) → n < 2 ^ 23 → sub binary32 (of_bits binary32 (0x4b00_0000 + n)) (of_bits binary32 0x4b00_0000) ≡ of_int binary32 (pos n)
unfolding of_int
whole-is n h =
    let b = 0x4b00_0000 + n in
    let e = plain b (word n h) ∙ ap (λ (x : ℕ). of_fields binary32 false x (b % 2 ^ 23)) (field n h) ∙ ap (λ (x : ℕ). of_fields binary32 false 150 x) (end n h) in
    ap (λ (y : Float). sub binary32 (of_bits binary32 b) y) lead
    ∙ less-lead (of_bits binary32 b) n (subst (λ (v : Float). HasValue v false ((2 ^ 23 + n) * 2 ^ 149) (2 ^ 149)) (sym e) (fields-mid false 149 n (lit< tt)))
  where
    word : (n : ℕ) → n < 2 ^ 23 → 0x4b00_0000 + n < 2 ^ 31
    word n h = omega arith

    field : (n : ℕ) → n < 2 ^ 23 → (0x4b00_0000 + n) / 2 ^ 23 ≡ 150
    field n h = omega arith

    end : (n : ℕ) → n < 2 ^ 23 → (0x4b00_0000 + n) % 2 ^ 23 ≡ n
    end n h = omega arith
