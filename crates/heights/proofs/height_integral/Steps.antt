-- Values of a format as whole numbers of its smallest value, q * 2 ^ j with q of no more digits than the format keeps. Between two of them, m below x, there is a step n that is such a value itself and leads from m to one, not past x;
-- and down from m to x likewise. Upwards n is the lesser of the two powers of two. Downwards it is m's own power where that is the lesser; else half of m where x is at most that, and m - x, which is at most x, where it is not.
use mathlib.Core.Path.{◌≡◌, refl, sym, ap, ◌∙◌, subst}
use mathlib.Core.Logic.{◌⊎◌, inl, inr}
use Prim.Native.Nat.{ℕ, zero, suc, ◌+◌, ◌-◌, ◌*◌, ◌^◌, ◌≤◌, ◌<◌}
use native.Mathlib.Nat.{le_trans, le_of_eq, le_of_lt, le-add_left, sub-le, suc-mul, lt_of_lt_of_le, lt_of_le_of_lt, eq-or-lt_of_le, mul_comm, mul_assoc, one-mul, mul-sub, mul-le-mul_right, lt_of_mul-lt-mul_right}
use native.Mathlib.Omega.{arith}
use mathlib.Core.Bool.{Bool, false}
use lib.IntN.{ℤ}
use lib.Dec.{T}
use lib.Pow.{pow-add, pow_pos}
use Rattle.std.proofs.lemmas.Bool.{cases_lt}
use lib.Ieee.{fin, Format, prec, low, fits, round}
use lib.Ieee.Scale.{overflow}
use lib.Ieee.Exact.{round_exact}
use Rattle.rounding.proofs.Units.{on-grid}
use Rattle.order.specs.Units.{mag, rounded}
use Rattle.order.proofs.Keys.{mag_of, mag-lt}
use Rattle.order.proofs.Sums.{sized, round-as, more-digits}

-- n units are a value of the format
abbrev pub Value : Format → ℕ → Type 0
Value f n = (q : ℕ) × (j : ℕ) × (q < 2 ^ prec f) × (n ≡ q * 2 ^ j) × (n < overflow f)

pub value_of : (f : Format) (s : Bool) (m : ℕ) (e : ℤ) → T (fits f (fin s m e)) → Value f (mag f (fin s m e))
value_of f s m e t = let g = on-grid f s m e t in (g.0, g.1, g.2, mag_of f s m e (g.0 * 2 ^ g.1) g.3, mag-lt f s m e t)

-- rounding does not move it
pub rounded-value : (f : Format) (n : ℕ) → Value f n → rounded f n (2 ^ low f) ≡ n
rounded-value f n v =
    sym (round-as f false n (2 ^ low f)).0
    ∙ (sized f (round f false n (2 ^ low f)) false n (round_exact f false n (2 ^ low f) v.0 v.1 (pow_pos (low f)) v.2 (subst (λ (z : ℕ). z < overflow f) v.3 v.4) (ap (λ (z : ℕ). z * 2 ^ low f) v.3))).0

pub power-value : (f : Format) (k : ℕ) → 2 ^ k < overflow f → Value f (2 ^ k)
power-value f k h = (1, k, more-digits f, sym (one-mul (2 ^ k)), h)

-- one digit more than fits, where it is a power of two
pub upto-value : (f : Format) (q k : ℕ) → q ≤ 2 ^ prec f → q * 2 ^ k < overflow f → Value f (q * 2 ^ k)
upto-value f q k h l =
    elim (eq-or-lt_of_le h) [
      | inl e ↦ let p : 2 ^ (prec f + k) ≡ q * 2 ^ k = pow-add 2 (prec f) k ∙ ap (λ (z : ℕ). z * 2 ^ k) (sym e) in subst (Value f) p (power-value f (prec f + k) (subst (λ (z : ℕ). z < overflow f) (sym p) l))
      | inr g ↦ (q, k, g, refl, l)
    ]

-- ---- a step up from m
abbrev pub Up : Format → ℕ → ℕ → Type 0
Up f m x = (n : ℕ) × (0 < n) × (m + n ≤ x) × Value f n × Value f (m + n)

next : (a b K : ℕ) → a < b → a * K + K ≤ b * K
next a b K h = le_trans (le_of_eq (sym (suc-mul a K))) (mul-le-mul_right K h)

up_at : (f : Format) (a b k m x : ℕ) → m ≡ a * 2 ^ k → x ≡ b * 2 ^ k → m < x → a < 2 ^ prec f ⊎ b < 2 ^ prec f → x < overflow f → Up f m x
up_at f a b k m x em ex h d l =
    let K = 2 ^ k in
    let ab : a < b = lt_of_mul-lt-mul_right K (subst (λ (z : ℕ). z < b * K) em (subst (λ (z : ℕ). m < z) ex h)) in
    let over : m + K ≤ x = subst (λ (z : ℕ). m + K ≤ z) (sym ex) (subst (λ (z : ℕ). z + K ≤ b * K) (sym em) (next a b K ab)) in
    let e : suc a * K ≡ m + K = omega (arith, em) in (
      K,
      pow_pos k,
      over,
      power-value f k (lt_of_le_of_lt (le_trans (le-add_left K m) over) l),
      subst (Value f) e (upto-value f (suc a) k (few d ab) (subst (λ (z : ℕ). z < overflow f) (sym e) (lt_of_le_of_lt over l))),
    )
  where
    few : a < 2 ^ prec f ⊎ b < 2 ^ prec f → a < b → suc a ≤ 2 ^ prec f
    few (inl g) ab = g
    few (inr g) ab = le_trans ab (le_of_lt g)

-- j and k against one another
apart : (j k : ℕ) → ((t : ℕ) × (k ≡ t + j)) ⊎ ((t : ℕ) × (j ≡ suc t + k))
apart j k = elim (cases_lt k j) [ inl l ↦ inr (j - suc k, omega arith) | inr l ↦ inl (k - j, omega arith) ]

-- arcs has it too, and neither stands on the other
shifted : (q t j k : ℕ) → k ≡ t + j → q * 2 ^ k ≡ q * 2 ^ t * 2 ^ j
shifted q t j k e = ap (λ (z : ℕ). q * 2 ^ z) e ∙ ap (λ (z : ℕ). q * z) (pow-add 2 t j) ∙ sym (mul_assoc q (2 ^ t) (2 ^ j))

pub step-up : (f : Format) (m x : ℕ) → Value f m → Value f x → m < x → Up f m x
step-up f m x v w h =
    elim (apart v.1 w.1) [
      | inl e ↦ up_at f v.0 (w.0 * 2 ^ e.0) v.1 m x v.3 (w.3 ∙ shifted w.0 e.0 v.1 w.1 e.1) h (inl v.2) w.4
      | inr e ↦ up_at f (v.0 * 2 ^ suc e.0) w.0 w.1 m x (v.3 ∙ shifted v.0 (suc e.0) w.1 v.1 e.1) w.3 h (inr w.2) w.4
    ]

-- ---- a step down from m
abbrev pub Down : Format → ℕ → ℕ → Type 0
Down f m x = (n : ℕ) × (0 < n) × (x + n ≤ m) × Value f n × Value f (m - n)

-- by m's own power of two
down-own : (f : Format) (a b k m x : ℕ) → m ≡ a * 2 ^ k → x ≡ b * 2 ^ k → x < m → a < 2 ^ prec f → m < overflow f → Down f m x
down-own f zero b k m x em ex h d l = absurd (none m x (em ∙ zero-times (2 ^ k)) h)
  where
    zero-times : (K : ℕ) → 0 * K ≡ 0
    zero-times K = omega arith

    none : (m x : ℕ) → m ≡ 0 → x < m → ⊥
    none m x e h = omega arith
down-own f (suc a) b k m x em ex h d l =
    let K = 2 ^ k in
    let ba : b < suc a = lt_of_mul-lt-mul_right K (subst (λ (z : ℕ). z < suc a * K) ex (subst (λ (z : ℕ). x < z) em h)) in
    let over : x + K ≤ m = subst (λ (z : ℕ). x + K ≤ z) (sym em) (subst (λ (z : ℕ). z + K ≤ suc a * K) (sym ex) (next b (suc a) K ba)) in
    let e : a * K ≡ m - K = omega (arith, em) in (
      K,
      pow_pos k,
      over,
      power-value f k (lt_of_le_of_lt (le_trans (le-add_left K x) over) l),
      subst (Value f) e (upto-value f a k (le_of_lt (lt_of_lt_of_le (small a) d)) (subst (λ (z : ℕ). z < overflow f) (sym e) (lt_of_le_of_lt (sub-le m K) l))),
    )
  where
    small : (a : ℕ) → a < suc (suc a)
    small a = omega arith

-- by half of m, which is h
down-half : (f : Format) (q j m x : ℕ) → q < 2 ^ prec f → m ≡ 2 * (q * 2 ^ j) → 0 < m → x ≤ q * 2 ^ j → m < overflow f → Down f m x
down-half f q j m x d e p l o = from (q * 2 ^ j) refl e l
  where
    from : (w : ℕ) → q * 2 ^ j ≡ w → m ≡ 2 * w → x ≤ w → Down f m x
    from w ew em lw =
        let here : Value f w = (q, j, d, sym ew, lt_of_le_of_lt (upto m w em) o) in
        (w, pos m w em p, sum m x w em lw, here, subst (Value f) (rest m w em) here)
      where
        upto : (m w : ℕ) → m ≡ 2 * w → w ≤ m
        upto m w e = omega arith

        pos : (m w : ℕ) → m ≡ 2 * w → 0 < m → 0 < w
        pos m w e p = omega arith

        sum : (m x w : ℕ) → m ≡ 2 * w → x ≤ w → x + w ≤ m
        sum m x w e l = omega arith

        rest : (m w : ℕ) → m ≡ 2 * w → w ≡ m - w
        rest m w e = omega arith

-- to x itself, where m is below its double
down-whole : (f : Format) (a b k m x : ℕ) → m ≡ a * 2 ^ k → x ≡ b * 2 ^ k → x < m → m < 2 * x → b < 2 ^ prec f → m < overflow f → Value f x → Down f m x
down-whole f a b k m x em ex h l d o v =
    let K = 2 ^ k in
    let ab : a < 2 * b = lt_of_mul-lt-mul_right K (subst (λ (z : ℕ). z < 2 * b * K) em (lt_of_lt_of_le l (le_of_eq (ap (λ (z : ℕ). 2 * z) ex ∙ sym (mul_assoc 2 b K))))) in
    let e : (a - b) * K ≡ m - x = mul_comm (a - b) K ∙ mul-sub K a b ∙ ap (λ (z : ℕ). z - K * b) (mul_comm K a ∙ sym em) ∙ ap (λ (z : ℕ). m - z) (mul_comm K b ∙ sym ex) in (
      m - x,
      pos m x h,
      le_of_eq (sum m x h),
      subst (Value f) e (upto-value f (a - b) k (le_trans (few a b ab) (le_of_lt d)) (subst (λ (z : ℕ). z < overflow f) (sym e) (lt_of_le_of_lt (sub-le m x) o))),
      subst (Value f) (rest m x h) v,
    )
  where
    pos : (m x : ℕ) → x < m → 0 < m - x
    pos m x h = omega arith

    sum : (m x : ℕ) → x < m → x + (m - x) ≡ m
    sum m x h = omega arith

    few : (a b : ℕ) → a < 2 * b → a - b ≤ b
    few a b h = omega arith

    rest : (m x : ℕ) → x < m → x ≡ m - (m - x)
    rest m x h = omega arith

doubled : (q t k : ℕ) → q * 2 ^ (suc t + k) ≡ 2 * (q * 2 ^ (t + k))
doubled q t k =
    let e : suc t + k ≡ 1 + (t + k) = omega arith in
    ap (λ (z : ℕ). q * 2 ^ z) e ∙ ap (λ (z : ℕ). q * z) (pow-add 2 1 (t + k)) ∙ sym (mul_assoc q 2 (2 ^ (t + k))) ∙ ap (λ (z : ℕ). z * 2 ^ (t + k)) (mul_comm q 2) ∙ mul_assoc 2 q (2 ^ (t + k))

pub step_down : (f : Format) (m x : ℕ) → Value f m → Value f x → x < m → Down f m x
step_down f m x v w h =
    elim (apart v.1 w.1) [
      | inl e ↦ down-own f v.0 (w.0 * 2 ^ e.0) v.1 m x v.3 (w.3 ∙ shifted w.0 e.0 v.1 w.1 e.1) h v.2 v.4
      | inr e ↦ below e (cases_lt (v.0 * 2 ^ (e.0 + w.1)) x)
    ]
  where
    twice : (m x w : ℕ) → m ≡ 2 * w → w < x → m < 2 * x
    twice m x w e l = omega arith

    some : (x m : ℕ) → x < m → 0 < m
    some x m l = omega arith

    below : (e : (t : ℕ) × (v.1 ≡ suc t + w.1)) → (v.0 * 2 ^ (e.0 + w.1) < x) ⊎ (x ≤ v.0 * 2 ^ (e.0 + w.1)) → Down f m x
    below e c =
        let em : m ≡ 2 * (v.0 * 2 ^ (e.0 + w.1)) = v.3 ∙ ap (λ (z : ℕ). v.0 * 2 ^ z) e.1 ∙ doubled v.0 e.0 w.1 in
        elim c [
          | inl l ↦ down-whole f (v.0 * 2 ^ suc e.0) w.0 w.1 m x (v.3 ∙ shifted v.0 (suc e.0) w.1 v.1 e.1) w.3 h (twice m x (v.0 * 2 ^ (e.0 + w.1)) em l) w.2 v.4 w
          | inr l ↦ down-half f v.0 (e.0 + w.1) m x v.2 em (some x m h) l v.4
        ]
