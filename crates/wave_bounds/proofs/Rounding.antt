-- The product that the program packs, rounded, is less than 15 / 16 of a unit of its last place from every partial sum that is within 20 r + 2 ^ 37 + 2 ^ 30 of r times the ratio: 32 of 64 parts are for the rounding,
-- 21 for the ratio, 5 for the fold and one for the digits of r that are cut off.
-- Towards zero this holds of the unit just below the answer. It is smaller, by half, only where the 24 digits are just 2 ^ 23: these were rounded down, so that to this side only the parts before rounding count, at most 28, and 15 / 16 of the smaller unit are 30.
use mathlib.Core.Path.{◌≡◌, sym, ap, ◌∙◌, subst}
use mathlib.Core.Bool.{Bool, true, false, cond}
use Prim.Native.Nat.{ℕ, ◌+◌, ◌-◌, ◌*◌, ◌/◌, ◌%◌, ◌^◌, ◌≤◌, ◌<◌}
use native.Mathlib.Nat.{le_trans, le_of_lt, lt_of_lt_of_le, lt_of_not-le, not-le_of_lt, eq-or-lt_of_le, mul-le-mul, mul-le-mul_left, mul-le-mul_right, le_of_mul-le-mul_right, sub-add_cancel}
use native.Mathlib.Omega.{arith}
use mathlib.Core.Logic.{◌⊎◌, inl, inr}
use lib.Dec.{lit<, lit≤}
use lib.Pow.{pow_pos, pow_mono, pow-add}
use lib.Count.{count_leading_zeros}
use lib.Ieee.{size}
use Rattle.series.specs.Series.{Close}
use Rattle.series.proofs.Pairs.{Limit, sums}
use Rattle.fixed.specs.Fixed.{mant}
use Rattle.fixed.proofs.Round.{grain, Top, top_of, Rounded, rounded}
use Rattle.fixed.proofs.Values.{ulp-ge}
use Rattle.exact.specs.Unit.{unity}
use Rattle.exact.specs.Between.{Between}
use Rattle.exact.proofs.Unit.{below_ge, below_half}
use Rattle.waves.specs.SinCos.{ratio_of}
use Rattle.waves.proofs.Patterns.{ratio-in, Packed, packed}

-- ---- a unit to each side
-- `Between` of `exact` for every partial sum from the one with 2 * j terms on, as closeness to the middle between its two ends
abbrev pub Sided : (K : ℕ → ℕ) (n d a b j m r t l h : ℕ) → Type 0
Sided K n d a b j m r t l h = Limit K n d a b j (2 * m) (2 * r + h) (2 * t + l) (l + h)

pub between : (m r t l h p q c : ℕ) → Close (2 * m) (2 * r + h) (2 * t + l) (l + h) p q c → Between m r t l h p q c
between m r t l h p q c k = record { low = omega (arith, k.low); high = omega (arith, k.high) }

-- the same of v * 2 ^ -149, negative where g is false, with 15 / 16 of the unit just below v towards zero and of v's own away from it
abbrev pub SidedAt : (g : Bool) (K : ℕ → ℕ) (n d a b j v : ℕ) → Type 0
SidedAt g K n d a b j v = Sided K n d a b j unity (16 * cond g v 0) (16 * cond g 0 v) (15 * cond g (2 ^ (size (v - 1) - 24)) (2 ^ (size v - 24))) (15 * cond g (2 ^ (size v - 24)) (2 ^ (size (v - 1) - 24)))

-- sums within u of a are at most 15 / 16 l nearer to zero than v and at most 15 / 16 h farther from it
close-either : (g : Bool) (m a u f v l h p q c : ℕ) → 16 * v + u * f ≤ a * f + 15 * l → (a + u) * f ≤ 16 * v + 15 * h → Close m (cond g a 0) (cond g 0 a) u p q c
    → Close (2 * (m * f)) (2 * (16 * cond g v 0) + 15 * cond g h l) (2 * (16 * cond g 0 v) + 15 * cond g l h) (15 * cond g l h + 15 * cond g h l) p q c
close-either true m a u f v l h p q c x y k =
    record { low = omega (arith, mul-le-mul_right f k.low, mul-le-mul_right c x); high = omega (arith, mul-le-mul_right f k.high, mul-le-mul_right c y) }
close-either false m a u f v l h p q c x y k =
    record { low = omega (arith, mul-le-mul_right f k.low, mul-le-mul_right c y); high = omega (arith, mul-le-mul_right f k.high, mul-le-mul_right c x) }

pub limit-either : (g : Bool) (K : ℕ → ℕ) (n d y z j m a u f v l h : ℕ) → 16 * v + u * f ≤ a * f + 15 * l → (a + u) * f ≤ 16 * v + 15 * h → Limit K n d y z j m (cond g a 0) (cond g 0 a) u
    → Sided K n d y z j (m * f) (16 * cond g v 0) (16 * cond g 0 v) (15 * cond g l h) (15 * cond g h l)
limit-either g K n d y z j m a u f v l h low high L =
    record {
      even = λ i b. close-either g m a u f v l h (sums K n d y z i).plus (sums K n d y z i).minus (sums K n d y z i).den low high (L.even i b);
      odd = λ i b. close-either g m a u f v l h ((sums K n d y z i).plus + (sums K n d y z i).next) (sums K n d y z i).minus (sums K n d y z i).den low high (L.odd i b);
    }

-- the parts of 28
fold : (c o : ℕ) → 2 ^ 64 ≤ c → 2 ^ 31 ≤ o → (2 ^ 37 + 2 ^ 30) * 2 ^ 60 ≤ 5 * (o * c)
fold c o h k = le_trans (lit≤ tt) (mul-le-mul_left 5 (mul-le-mul k h))

parts : (r f m o s c : ℕ) → r * f ≤ (m + 1) * c → (2 ^ 37 + 2 ^ 30) * f ≤ 5 * (o * c) → m * c ≤ o * c → 2 * s * c ≤ o * c → 2 ^ 31 * c ≤ o * c → (20 * r + 2 ^ 37 + 2 ^ 30) * f + s * c ≤ 28 * (o * c)
parts r f m o s c a b d e g = omega (arith, a, b, d, e, g)

-- ---- plain numbers: r moved up by k is m in units of 2 ^ 32 and a rest e; c is 2 ^ 92 / k; o is a 64th of the unit of m s, and M its significand
module _ (r s m e k c o M : ℕ) (K : 0 < k) (up : r * k ≡ m * 2 ^ 32 + e) (E : e < 2 ^ 32) (down : c * k ≡ 2 ^ 92) (S : 2 ^ 30 ≤ s) (D : 2 ^ 31 ≤ m) (C : 2 ^ 64 ≤ c)
    (over : 64 * (M * o) ≤ m * s + 32 * o) (under : m * s ≤ 64 * (M * o) + 32 * o) (unit : m * s ≤ 2 ^ 30 * o) where
  cut_low : m * s * c ≤ s * r * 2 ^ 60
  cut_low = le_of_mul-le-mul_right {k = k} (omega (arith, ap (λ (x : ℕ). m * s * x) down, ap (λ (x : ℕ). s * 2 ^ 60 * x) up)) K

  cut_high : s * r * 2 ^ 60 ≤ m * s * c + s * c
  cut_high = le_of_mul-le-mul_right {k = k} (omega (arith, ap (λ (x : ℕ). m * s * x) down, ap (λ (x : ℕ). s * x) down, ap (λ (x : ℕ). s * 2 ^ 60 * x) up, mul-le-mul_left (s * 2 ^ 60) (le_of_lt E))) K

  r-high : r * 2 ^ 60 ≤ (m + 1) * c
  r-high = le_of_mul-le-mul_right {k = k} (omega (arith, ap (λ (x : ℕ). (m + 1) * x) down, ap (λ (x : ℕ). 2 ^ 60 * x) up, E)) K

  s-small : 2 * s ≤ o
  s-small = le_of_mul-le-mul_right {k = 2 ^ 30} (omega (arith, mul-le-mul_right s D, unit)) (pow_pos 30)

  m-small : m ≤ o
  m-small = le_of_mul-le-mul_right {k = 2 ^ 30} (omega (arith, mul-le-mul_left m S, unit)) (pow_pos 30)

  room : (20 * r + 2 ^ 37 + 2 ^ 30) * 2 ^ 60 + s * c ≤ 28 * (o * c)
  room = parts r (2 ^ 60) m o s c r-high (fold c o C (le_trans D m-small)) (mul-le-mul_right c m-small) (mul-le-mul_right c s-small) (mul-le-mul_right c (le_trans D m-small))

  -- w is the unit of m s; l is as large, or at least half as large and m s was rounded down
  module _ (w l h : ℕ) (W : w ≡ 4 * (o * c)) where
    low-side : (w ≤ l) ⊎ ((w ≤ 2 * l) × (64 * (M * o) ≤ m * s)) → 16 * (M * w) + (20 * r + 2 ^ 37 + 2 ^ 30) * 2 ^ 60 ≤ s * r * 2 ^ 60 + 15 * l
    low-side (inl k) = omega (arith, mul-le-mul_right c over, cut_low, room, ap (λ (x : ℕ). M * x) W)
    low-side (inr (k, d)) = omega (arith, mul-le-mul_right c d, cut_low, room, ap (λ (x : ℕ). M * x) W)

    high-side : w ≤ h → (s * r + (20 * r + 2 ^ 37 + 2 ^ 30)) * 2 ^ 60 ≤ 16 * (M * w) + 15 * h
    high-side k = omega (arith, mul-le-mul_right c under, cut_high, room, ap (λ (x : ℕ). M * x) W)

    both-sides : (g : Bool) (K : ℕ → ℕ) (n d y z j : ℕ) → (w ≤ l) ⊎ ((w ≤ 2 * l) × (64 * (M * o) ≤ m * s)) → w ≤ h → Limit K n d y z j (2 ^ 93) (cond g (s * r) 0) (cond g 0 (s * r)) (20 * r + 2 ^ 37 + 2 ^ 30)
        → Sided K n d y z j unity (16 * cond g (M * w) 0) (16 * cond g 0 (M * w)) (15 * cond g l h) (15 * cond g h l)
    both-sides g K n d y z j a b L = limit-either g K n d y z j (2 ^ 93) (s * r) (20 * r + 2 ^ 37 + 2 ^ 30) (2 ^ 60) (M * w) l h (low-side a) (high-side b) L

-- ---- at r from 2 ^ 36 up
module _ (r : ℕ) (L : 2 ^ 36 ≤ r) (H : r < 2 ^ 62) where
  abbrev l : ℕ
  l = count_leading_zeros 64 r

  abbrev m : ℕ
  m = r * 2 ^ count_leading_zeros 64 r / 2 ^ 32

  abbrev p : ℕ
  p = r * 2 ^ count_leading_zeros 64 r / 2 ^ 32 * ratio_of r

  r-pos : 0 < r
  r-pos = lt_of_lt_of_le (lit< tt) L

  top-at : Top r
  top-at = top_of r r-pos (omega arith)

  size-at : Packed r
  size-at = packed r r-pos H

  round-at : Rounded p
  round-at = rounded p size-at.big size-at.fits

  few : count_leading_zeros 64 r < 28
  few = lt_of_not-le (λ (g : 28 ≤ count_leading_zeros 64 r). not-le_of_lt top-at.fits (mul-le-mul L (pow_mono g)))

  -- the exponent of the answer's last place
  abbrev pub exponent : ℕ
  exponent = 133 - count_leading_zeros 64 p - (count_leading_zeros 64 r + 5)

  exponents : (z k : ℕ) → z ≤ 33 → k < 28 → 133 - z - (k + 5) ≡ 2 + (34 - z + (92 - k))
  exponents z k a b = omega arith

  power_at : 2 ^ exponent ≡ 4 * (grain p * 2 ^ (92 - count_leading_zeros 64 r))
  power_at = ap (λ (x : ℕ). 2 ^ x) (exponents (count_leading_zeros 64 p) (count_leading_zeros 64 r) round-at.few few) ∙ pow-add 2 2 (34 - count_leading_zeros 64 p + (92 - count_leading_zeros 64 r)) ∙ ap (λ (x : ℕ). 2 ^ 2 * x) (pow-add 2 (34 - count_leading_zeros 64 p) (92 - count_leading_zeros 64 r))

  split-up : (x : ℕ) → x ≡ x / 2 ^ 32 * 2 ^ 32 + x % 2 ^ 32
  split-up x = omega arith

  rest_lt : (x : ℕ) → x % 2 ^ 32 < 2 ^ 32
  rest_lt x = omega arith

  down-at : 2 ^ (92 - count_leading_zeros 64 r) * 2 ^ count_leading_zeros 64 r ≡ 2 ^ 92
  down-at = sym (pow-add 2 (92 - count_leading_zeros 64 r) (count_leading_zeros 64 r)) ∙ ap (λ (x : ℕ). 2 ^ x) (sub-add_cancel (le_trans (le_of_lt few) (lit≤ tt)))

  digits-big : 2 ^ 31 ≤ m
  digits-big = go (r * 2 ^ count_leading_zeros 64 r) top-at.full
    where
      go : (x : ℕ) → 2 ^ 63 ≤ x → 2 ^ 31 ≤ x / 2 ^ 32
      go x h = omega arith

  c-big : 2 ^ 64 ≤ 2 ^ (92 - count_leading_zeros 64 r)
  c-big = pow_mono {i = 64} {j = 92 - count_leading_zeros 64 r} (go (count_leading_zeros 64 r) few)
    where
      go : (k : ℕ) → k < 28 → 64 ≤ 92 - k
      go k h = omega arith

  one-place : grain p * 2 ^ count_leading_zeros 64 p ≡ 2 ^ 34
  one-place = sym (pow-add 2 (34 - count_leading_zeros 64 p) (count_leading_zeros 64 p)) ∙ ap (λ (x : ℕ). 2 ^ x) (sub-add_cancel (le_trans round-at.few (lit≤ tt)))

  unit-at : p ≤ 2 ^ 30 * grain p
  unit-at = go p (2 ^ count_leading_zeros 64 p) (grain p) one-place (pow_pos (count_leading_zeros 64 p)) round-at.up
    where
      go : (p k o : ℕ) → o * k ≡ 2 ^ 34 → 0 < k → p * k < 2 ^ 64 → p ≤ 2 ^ 30 * o
      go p k o e K h = le_of_mul-le-mul_right {k = k} (omega arith) K

  -- the unit just below the answer is as large as that of p, or half as large where the 24 digits are just 2 ^ 23; these were rounded down, since p is at least 2 ^ 23 of its units
  below-at : (2 ^ 23 ≡ mant p) ⊎ (2 ^ 23 < mant p) → (2 ^ exponent ≤ 2 ^ (size (mant p * 2 ^ exponent - 1) - 24)) ⊎ ((2 ^ exponent ≤ 2 * 2 ^ (size (mant p * 2 ^ exponent - 1) - 24)) × (64 * (mant p * grain p) ≤ p))
  below-at (inr k) = inl (below_ge (mant p) exponent k)
  below-at (inl e) = inr (below_half (mant p) exponent round-at.least, subst (λ (M : ℕ). 64 * (M * grain p) ≤ p) e (go p (2 ^ count_leading_zeros 64 p) (grain p) one-place (pow_pos (count_leading_zeros 64 p)) (top_of p (lt_of_lt_of_le (lit< tt) size-at.big) size-at.fits).full))
    where
      go : (p k o : ℕ) → o * k ≡ 2 ^ 34 → 0 < k → 2 ^ 63 ≤ p * k → 64 * (2 ^ 23 * o) ≤ p
      go p k o e K h = le_of_mul-le-mul_right {k = k} (omega arith) K

  pub rounds : (g : Bool) (K : ℕ → ℕ) (n d y z j : ℕ) → Limit K n d y z j (2 ^ 93) (cond g (ratio_of r * r) 0) (cond g 0 (ratio_of r * r)) (20 * r + 2 ^ 37 + 2 ^ 30) → SidedAt g K n d y z j (mant p * 2 ^ exponent)
  rounds g K n d y z j N =
      let o = grain p in
      let c = 2 ^ (92 - count_leading_zeros 64 r) in
      let x = r * 2 ^ count_leading_zeros 64 r in
      both-sides r (ratio_of r) m (x % 2 ^ 32) (2 ^ l) c o (mant p) (pow_pos l) (split-up x) (rest_lt x) down-at (ratio-in r H).least digits-big c-big round-at.over round-at.under unit-at
      (2 ^ exponent) _ _ power_at g K n d y z j (below-at (eq-or-lt_of_le round-at.least)) (ulp-ge (mant p) exponent round-at.least) N
