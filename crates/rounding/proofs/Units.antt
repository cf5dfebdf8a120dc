-- Values and distances in units of the format's smallest value: a value's size is a whole number of units, its pattern follows from that number, and distances as fractions compare as distances in units do. Assumes nothing.
use mathlib.Core.Path.{◌≡◌, refl, sym, ap, ◌∙◌}
use mathlib.Core.Bool.{Bool, true, false, ◌&&◌, beq, cond}
use Prim.Native.Nat.{ℕ, zero, suc, ◌+◌, ◌-◌, ◌*◌, ◌/◌, ◌%◌, ◌^◌, ◌≤◌, ◌<◌}
use native.Mathlib.Nat.{le_trans, le_of_eq, lt_of_lt_of_le, le_of_suc-le-suc, lt_of_not-le, lt_irrefl, zero-mul, mul-one, mul_assoc, mul_comm, mul_right_comm, add-mul, mul-sub, mul-le-mul_right, le_of_mul-le-mul_right, eq_of_mul-eq-mul_right, mul-div_cancel}
use lib.IntN.{ℤ, pos, negsuc}
use lib.Dec.{T, leb, ltb, eqb, ltb→lt, leb→le}
use lib.Pow.{pow-add, pow_pos, pow-lt}
use lib.Ieee.{Float, nan, inf, fin, Format, prec, emax, low, up, down, size, fits, hid, top, to_bits, of_bits}
use lib.Ieee.Exact.{HasValue}
use lib.Ieee.Digits.{back}
use lib.Ieee.Fits.{down_pos, and_l, and_r}
use lib.Ieee.Bits.{of_bits-to_bits}
use Rattle.rounding.specs.TiesToEven.{gap, off}

-- ---- distances in units
pub gap-mul : (x y z : ℕ) → gap (x * z) (y * z) ≡ gap x y * z
gap-mul x y z = sym (add-mul (x - y) (y - x) z ∙ ap (λ (a : ℕ). a + (y - x) * z) (one x y) ∙ ap (λ (a : ℕ). x * z - y * z + a) (one y x))
  where
    one : (x y : ℕ) → (x - y) * z ≡ x * z - y * z
    one x y = mul_comm (x - y) z ∙ mul-sub z x y ∙ ap (λ (a : ℕ). a - z * y) (mul_comm z x) ∙ ap (λ (a : ℕ). x * z - a) (mul_comm z y)

-- M units, with the sign t, from n / c units with the sign s
abbrev pub dist : Bool → Bool → ℕ → ℕ → ℕ → ℕ
dist s t M c n = cond (beq s t) (gap (M * c) n) (M * c + n)

abbrev pub same_sign : (s : Bool) → beq s s ≡ true
same_sign true = refl
same_sign false = refl

pub own-dist : (s : Bool) (M c n : ℕ) → dist s s M c n ≡ gap (M * c) n
own-dist s M c n = ap (λ (b : Bool). cond b (gap (M * c) n) (M * c + n)) (same_sign s)

pub in-units : (s t : Bool) (a c m : ℕ) (e : ℤ) (M L : ℕ) → m * up e * L ≡ M * down e → off s a c (fin t m e) * L ≡ dist s t M c (a * L) * down e
in-units s t a c m e M L v = go (beq s t)
  where
    x : m * up e * c * L ≡ M * c * down e
    x = mul_right_comm (m * up e) c L ∙ ap (λ (z : ℕ). z * c) v ∙ mul_right_comm M (down e) c

    y : a * down e * L ≡ a * L * down e
    y = mul_right_comm a (down e) L

    go : (b : Bool) → cond b (gap (m * up e * c) (a * down e)) (m * up e * c + a * down e) * L ≡ cond b (gap (M * c) (a * L)) (M * c + a * L) * down e
    go true = sym (gap-mul (m * up e * c) (a * down e) L) ∙ ap (λ (z : ℕ). gap z (a * down e * L)) x ∙ ap (λ (z : ℕ). gap (M * c * down e) z) y ∙ gap-mul (M * c) (a * L) (down e)
    go false = add-mul (m * up e * c) (a * down e) L ∙ ap (λ (z : ℕ). z + a * down e * L) x ∙ ap (λ (z : ℕ). M * c * down e + z) y ∙ sym (add-mul (M * c) (a * L) (down e))

-- ---- a finite value that the format holds, in units: q * 2 ^ j with q below 2 ^ prec
abbrev pub OnGrid : Format → Bool → ℕ → ℤ → Type 0
OnGrid f t m e = (q : ℕ) × (j : ℕ) × (q < 2 ^ prec f) × (m * up e * 2 ^ low f ≡ q * 2 ^ j * down e)

pow_le_back : (a l : ℕ) → 2 ^ a ≤ 2 ^ l → a ≤ l
pow_le_back a l h = le_of_suc-le-suc (lt_of_not-le (λ (g : suc l ≤ a). lt_irrefl (2 ^ l) (lt_of_lt_of_le (pow-lt g) h)))

place : (l m : ℕ) (e : ℤ) → down e ≤ 2 ^ l → (j : ℕ) × (m * up e * 2 ^ l ≡ m * 2 ^ j * down e)
place l m (pos a) h = (a + l, mul_assoc m (2 ^ a) (2 ^ l) ∙ ap (λ (x : ℕ). m * x) (sym (pow-add 2 a l)) ∙ sym (mul-one (m * 2 ^ (a + l))))
place l m (negsuc a) h =
    let d : suc a ≤ l = pow_le_back (suc a) l h in
    (l - suc a, ap (λ (x : ℕ). x * 2 ^ l) (mul-one m) ∙ ap (λ (x : ℕ). m * x) (ap (λ (x : ℕ). 2 ^ x) (sym (back l (suc a) d)) ∙ pow-add 2 (l - suc a) (suc a)) ∙ sym (mul_assoc m (2 ^ (l - suc a)) (2 ^ suc a)))

pub on-grid : (f : Format) (t : Bool) (m : ℕ) (e : ℤ) → T (fits f (fin t m e)) → OnGrid f t m e
unfolding fits
on-grid f t zero e h = (0, 0, pow_pos (prec f), ap (λ (x : ℕ). x * 2 ^ low f) (zero-mul (up e)) ∙ zero-mul (2 ^ low f) ∙ sym (zero-mul (down e)))
on-grid f t (suc m) e h =
    let A = eqb (suc m % 2) 1 in
    let B = ltb (suc m) (2 ^ prec f) in
    let C = leb (down e) (2 ^ low f) in
    let D = ltb (suc m * up e) (2 ^ suc (emax f) * down e) in
    let p = place (low f) (suc m) e (leb→le (down e) (2 ^ low f) (and_r (A && B) C (and_l (A && B && C) D h))) in
    (suc m, p.0, ltb→lt (suc m) (2 ^ prec f) (and_r A B (and_l (A && B) C (and_l (A && B && C) D h))), p.1)

-- from units to fractions and back: d and e are the two values' own denominators
pub fractions : (x y L d e g h : ℕ) → 0 < L → x * L ≡ g * e → y * L ≡ h * d → g ≤ h → x * d ≤ y * e
fractions x y L d e g h P p q l =
    le_of_mul-le-mul_right
    (le_trans (le_of_eq (mul_right_comm x d L ∙ ap (λ (z : ℕ). z * d) p ∙ mul_right_comm g e d))
    (le_trans (mul-le-mul_right e (mul-le-mul_right d l)) (le_of_eq (ap (λ (z : ℕ). z * e) (sym q) ∙ mul_right_comm y L e))))
    P

pub units_of : (x y L d e g h : ℕ) → 0 < d → 0 < e → x * L ≡ g * e → y * L ≡ h * d → x * d ≡ y * e → g ≡ h
units_of x y L d e g h D E p q l =
    eq_of_mul-eq-mul_right d D g h (eq_of_mul-eq-mul_right e E (g * d) (h * d)
    (mul_right_comm g d e ∙ ap (λ (z : ℕ). z * d) (sym p) ∙ mul_right_comm x L d ∙ ap (λ (z : ℕ). z * L) l ∙ mul_right_comm y e L ∙ ap (λ (z : ℕ). z * e) q))

-- ---- the bits of a finite value, by its size in units
abbrev pub pattern_of : Format → Bool → ℕ → ℕ
pattern_of f s N = cond s (top f) 0 + (size N - prec f) * hid f + N / 2 ^ (size N - prec f)

pub bits_of : (f : Format) (s : Bool) (m : ℕ) (e : ℤ) (N : ℕ) → m * up e * 2 ^ low f ≡ N * down e → to_bits f (fin s m e) ≡ pattern_of f s N
unfolding to_bits
bits_of f s m e N v = ap (λ (n : ℕ). pattern_of f s n) (ap (λ (x : ℕ). x / down e) v ∙ mul-div_cancel N (down_pos e))

pub value-bits : (f : Format) (v : Float) (s : Bool) (N : ℕ) → HasValue v s N (2 ^ low f) → to_bits f v ≡ pattern_of f s N
value-bits f nan s N h = elim h [ ]
value-bits f (inf _) s N h = elim h [ ]
value-bits f (fin t m e) s N h = bits_of f t m e N h.1 ∙ ap (λ (b : Bool). pattern_of f b N) h.0

-- two values that a format holds, of the same sign and size
pub same-value : (f : Format) (s t : Bool) (m : ℕ) (e : ℤ) (n : ℕ) (d : ℤ) (N : ℕ) → T (fits f (fin s m e)) → T (fits f (fin t n d)) → s ≡ t
    → m * up e * 2 ^ low f ≡ N * down e → n * up d * 2 ^ low f ≡ N * down d → fin s m e ≡ fin t n d
same-value f s t m e n d N h k i v w =
    sym (of_bits-to_bits f (fin s m e) h)
    ∙ ap (λ (x : ℕ). of_bits f x) (bits_of f s m e N v ∙ ap (λ (x : Bool). pattern_of f x N) i ∙ sym (bits_of f t n d N w))
    ∙ of_bits-to_bits f (fin t n d) k
