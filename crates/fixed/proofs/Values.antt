-- What a bit pattern stands for, and the unit of the last place of a value: the exponent field moves the significand up, and a significand of 2 ^ 24 carries into it.
use mathlib.Core.Path.{◌≡◌, refl, sym, ap, ap₂, ◌∙◌, subst, subst₂}
use mathlib.Core.Bool.{Bool, true, cond}
use Prim.Native.Nat.{ℕ, suc, ◌+◌, ◌-◌, ◌*◌, ◌/◌, ◌%◌, ◌^◌, ◌≤◌, ◌<◌}
use native.Mathlib.Nat.{le_trans, le_of_eq, le_of_lt, lt_of_not-le, lt_of_le_of_lt, lt_of_lt_of_le, not-le_of_lt, mul-one, mul-le-mul, mul-le-mul_right, mul-lt-mul_of_pos_right}
use native.Mathlib.Omega.{arith}
use lib.Dec.{leb, eqb, lit<, lit≤}
use lib.Pow.{pow_pos, pow_mono, pow-add}
use lib.Ieee.{Float, nan, inf, binary32, size, of_fields, of_bits, is_nan}
use lib.Ieee.Digits.{size-lt, size-le}
use lib.Ieee.Exact.{HasValue}
use borrow.Author.Tests.{le-leb, lt-leb}
use lib.Count.{count_leading_zeros}
use Rattle.scalar.proofs.Nan.{nan_pattern}
use Rattle.scalar.proofs.Patterns.{of_bits_is, fields-low, fields-mid}
use Rattle.cases.proofs.Cases.{split}
use Rattle.fixed.specs.Fixed.{digits, mant, pattern}
use Rattle.fixed.proofs.Round.{rounded, place, pattern_lt}

-- ---- what a bit pattern stands for
-- from the fields of a pattern to its value
value-at : (b f x t : ℕ) → b % 2 ^ 31 / 2 ^ 23 ≡ suc x → b % 2 ^ 23 ≡ t → suc x < 255 → (2 ^ 23 + t) * 2 ^ x ≡ f → HasValue (of_bits binary32 b) (leb (2 ^ 31) b) f (2 ^ 149)
value-at b f x t p q r v =
    subst₂ (λ (z : Float) (y : ℕ). HasValue z (leb (2 ^ 31) b) y (2 ^ 149))
    (sym (of_bits_is b ∙ ap₂ (λ (y z : ℕ). of_fields binary32 (leb (2 ^ 31) b) y z) p q)) v (fields-mid (leb (2 ^ 31) b) x t r)

-- with a significand m and an exponent's field e + 1
pub value-normal : (b e m : ℕ) → b % 2 ^ 31 ≡ e * 2 ^ 23 + m → 2 ^ 23 ≤ m → m < 2 ^ 24 → e < 254 → HasValue (of_bits binary32 b) (leb (2 ^ 31) b) (m * 2 ^ e) (2 ^ 149)
value-normal b e m h l u k = value-at b (m * 2 ^ e) e (m - 2 ^ 23) (omega arith) (omega arith) (omega arith) (ap (λ (x : ℕ). x * 2 ^ e) (omega arith))

-- m may be 2 ^ 24, which carries into the exponent
pub value : (b e m : ℕ) → b % 2 ^ 31 ≡ e * 2 ^ 23 + m → 2 ^ 23 ≤ m → m ≤ 2 ^ 24 → e < 253 → HasValue (of_bits binary32 b) (leb (2 ^ 31) b) (m * 2 ^ e) (2 ^ 149)
value b e m h l u k = split m (2 ^ 24) (λ g. value-normal b e m h l g (omega arith)) (λ g. carried (omega arith))
  where
    carried : m ≡ 2 ^ 24 → HasValue (of_bits binary32 b) (leb (2 ^ 31) b) (m * 2 ^ e) (2 ^ 149)
    carried g = value-at b (m * 2 ^ e) (suc e) 0 (omega arith) (omega arith) (omega arith) (omega (arith, ap (λ (x : ℕ). x * 2 ^ e) g))

-- an exponent's field of 255
pub bits-255 : (b : ℕ) → b % 2 ^ 31 / 2 ^ 23 ≡ 255 → of_bits binary32 b ≡ cond (eqb (b % 2 ^ 23) 0) (inf (leb (2 ^ 31) b)) nan
unfolding of_fields
bits-255 b h = of_bits_is b ∙ ap (λ (y : ℕ). of_fields binary32 (leb (2 ^ 31) b) y (b % 2 ^ 23)) h ∙ fields-255 (leb (2 ^ 31) b) (b % 2 ^ 23)
  where
    fields-255 : (s : Bool) (t : ℕ) → of_fields binary32 s 255 t ≡ cond (eqb t 0) (inf s) nan
    fields-255 s t = refl

pub is-nan : (b : ℕ) → 0x7f80_0000 < b % 2 ^ 31 → is_nan (of_bits binary32 b) ≡ true
unfolding is_nan
is-nan b h = ap is_nan (nan_pattern b h)

pub is-inf : (b : ℕ) → b % 2 ^ 31 ≡ 0x7f80_0000 → of_bits binary32 b ≡ inf (leb (2 ^ 31) b)
is-inf b e = bits-255 b (omega arith) ∙ ap (λ (t : ℕ). cond (eqb t 0) (inf (leb (2 ^ 31) b)) nan) (zero_rest e)
  where
    zero_rest : b % 2 ^ 31 ≡ 0x7f80_0000 → b % 2 ^ 23 ≡ 0
    zero_rest e = omega arith

pub subnormal : (b : ℕ) → b % 2 ^ 31 < 2 ^ 23 → HasValue (of_bits binary32 b) (leb (2 ^ 31) b) (b % 2 ^ 23 * 1) (2 ^ 149)
subnormal b h =
    subst₂ (λ (z : Float) (y : ℕ). HasValue z (leb (2 ^ 31) b) y (2 ^ 149))
    (sym (of_bits_is b ∙ ap (λ (y : ℕ). of_fields binary32 (leb (2 ^ 31) b) y (b % 2 ^ 23)) (omega arith))) (sym (mul-one (b % 2 ^ 23)))
    (fields-low (leb (2 ^ 31) b) (b % 2 ^ 23))

-- ---- the unit of the last place of m * 2 ^ e
pub ulp-ge : (m e : ℕ) → 2 ^ 23 ≤ m → 2 ^ e ≤ 2 ^ (size (m * 2 ^ e) - 24)
ulp-ge m e h = pow_mono (go (size (m * 2 ^ e)) (lt_of_not-le (λ (g : size (m * 2 ^ e) ≤ 23 + e). not-le_of_lt (size-lt (m * 2 ^ e)) (le_trans (pow_mono g) (le_trans (le_of_eq (pow-add 2 23 e)) (mul-le-mul_right (2 ^ e) h))))))
  where
    go : (z : ℕ) → 23 + e < z → e ≤ z - 24
    go z k = omega arith

-- v is below 2 ^ 24 of its ulps
pub ulps : (v : ℕ) → v ≤ 2 ^ (size v - 24) * 2 ^ 24
ulps v = le_trans (le_of_lt (size-lt v)) (le_trans (pow_mono (go (size v))) (le_of_eq (pow-add 2 (size v - 24) 24)))
  where
    go : (z : ℕ) → z ≤ z - 24 + 24
    go z = omega arith

-- the exponent of the unit of m * 2 ^ e: e, or one more where m is 2 ^ 24
pub ulp-exp : (m e : ℕ) → 2 ^ 23 ≤ m → m ≤ 2 ^ 24 → (e ≤ size (m * 2 ^ e) - 24) × (size (m * 2 ^ e) - 24 ≤ e + 1)
ulp-exp m e h k = (go (size (m * 2 ^ e)) (lt_of_not-le (λ (g : size (m * 2 ^ e) ≤ 23 + e). not-le_of_lt (size-lt (m * 2 ^ e)) (le_trans (pow_mono g) (le_trans (le_of_eq (pow-add 2 23 e)) (mul-le-mul_right (2 ^ e) h))))), up (size (m * 2 ^ e)) (size-le (m * 2 ^ e) (25 + e) small))
  where
    go : (z : ℕ) → 23 + e < z → e ≤ z - 24
    go z k = omega arith

    up : (z : ℕ) → z ≤ 25 + e → z - 24 ≤ e + 1
    up z k = omega arith

    small : m * 2 ^ e < 2 ^ (25 + e)
    small = lt_of_le_of_lt (mul-le-mul_right (2 ^ e) k) (lt_of_lt_of_le (mul-lt-mul_of_pos_right (lit< tt) (pow_pos e)) (le_of_eq (sym (pow-add 2 25 e))))

-- below 2 ^ -12
pub v-small : (b : ℕ) → b % 2 ^ 31 < 0x3980_0000 → (v : ℕ) × HasValue (of_bits binary32 b) (leb (2 ^ 31) b) v (2 ^ 149) × (v ≤ 2 ^ 137)
v-small b h =
    split (b % 2 ^ 31) (2 ^ 23)
    (λ l. (b % 2 ^ 23 * 1, subnormal b l, le_trans (tiny b) (lit≤ tt)))
    (λ l.
    let a = b % 2 ^ 31 in
    let m = 2 ^ 23 + a % 2 ^ 23 in
    let e = a / 2 ^ 23 - 1 in
    (m * 2 ^ e, value b e m (omega arith) (omega arith) (omega arith) (omega arith), le_trans (mul-le-mul (up_to a) (pow_mono {i = e} {j = 113} (omega arith))) (lit≤ tt)))
  where
    tiny : (b : ℕ) → b % 2 ^ 23 * 1 ≤ 2 ^ 23
    tiny b = omega arith

    up_to : (a : ℕ) → 2 ^ 23 + a % 2 ^ 23 ≤ 2 ^ 24
    up_to a = omega arith

-- ---- a sign and a pattern without one
pub sign-plus : (b p : ℕ) → p < 255 * 2 ^ 23 → leb (2 ^ 31) (b / 2 ^ 31 * 2 ^ 31 + p) ≡ leb (2 ^ 31) b
sign-plus b p h = split b (2 ^ 31) (λ l. lt-leb (2 ^ 31) (b / 2 ^ 31 * 2 ^ 31 + p) (omega arith) ∙ sym (lt-leb (2 ^ 31) b l)) (λ l. le-leb (2 ^ 31) (b / 2 ^ 31 * 2 ^ 31 + p) (omega arith) ∙ sym (le-leb (2 ^ 31) b l))

-- the value of a rounded s * 2 ^ -56 with the sign t
pub packed-value : (c s t : ℕ) → c ≡ t * 2 ^ 31 + pattern s → 2 ^ 30 ≤ s → s < 2 ^ 64 → HasValue (of_bits binary32 c) (leb (2 ^ 31) (t * 2 ^ 31 + pattern s)) (mant s * place s) (2 ^ 149)
packed-value c s t e l h =
    let R = rounded s l h in
    subst (λ (x : ℕ). HasValue (of_bits binary32 x) (leb (2 ^ 31) (t * 2 ^ 31 + pattern s)) (mant s * place s) (2 ^ 149)) (sym e)
    (value (t * 2 ^ 31 + pattern s) (133 - count_leading_zeros 64 s) (mant s) (rest t (pattern s) (pattern_lt s l h)) R.least R.most (fine (count_leading_zeros 64 s)))
  where
    rest : (t p : ℕ) → p < 255 * 2 ^ 23 → (t * 2 ^ 31 + p) % 2 ^ 31 ≡ p
    rest t p k = omega arith

    fine : (n : ℕ) → 133 - n < 253
    fine n = omega arith

-- the value of a normal pattern
pub normal-value : (b : ℕ) → 0x0080_0000 ≤ b % 2 ^ 31 → b % 2 ^ 31 < 0x7f80_0000 → HasValue (of_bits binary32 b) (leb (2 ^ 31) b) (digits (b % 2 ^ 31) * 2 ^ (b % 2 ^ 31 / 2 ^ 23 - 1)) (2 ^ 149)
normal-value b l h = value-normal b (b % 2 ^ 31 / 2 ^ 23 - 1) (digits (b % 2 ^ 31)) (omega arith) (omega arith) (omega arith) (omega arith)
