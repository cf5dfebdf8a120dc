-- Where x - h0 is above zero, h0 + (x - h0) is above h0 or NaN. Of finite ones: a step n leads from h0 to a value that is not past x, and n itself is a value. The difference is rounded from at least n, so it is at least n; the sum is rounded
-- from at least h0 + n, so it is at least that. An infinite difference gives +infinity, or NaN where h0 is -infinity.
use mathlib.Core.Path.{◌≡◌, sym, ap, ◌∙◌, subst}
use Prim.Native.Nat.{ℕ, zero, suc, ◌+◌, ◌-◌, ◌^◌, ◌≤◌, ◌<◌}
use native.Mathlib.Nat.{le_trans, le_of_eq, lt_of_lt_of_le, mul-le-mul_right}
use lib.Pow.{pow_pos}
use lib.Arith.{add-lt_cancel_left}
use native.Mathlib.Omega.{arith}
use mathlib.Core.Bool.{Bool, true, false, ◌||◌}
use lib.IntN.{ℤ}
use lib.Dec.{T}
use lib.Ieee.{Float, nan, inf, fin, Format, binary32, low, lt, fits, is_nan, add, sub, neg}
use lib.Ieee.Fits.{add-fits, sub-fits}
use lib.Ieee.Scale.{overflow, finite}
use Rattle.order.specs.Units.{key_of, mag, key, rounded, total, nought}
use Rattle.order.proofs.Keys.{mag-le, or_r}
use Rattle.order.proofs.Sums.{total-up, total-down, total_mono, rounded-mono, add-key, add-real, sub-key, finite-real, R-zero}
use Rattle.order.proofs.Tests.{nought-is, lt→keys, keys→lt, sub-gt, key-le}
use Rattle.heights.specs.Lowest.{AboveLowest}
use Rattle.heights.proofs.height_integral.Steps.{Value, value_of, rounded-value, step-up, step_down}

-- ---- in keys: a step n from the key of h0 that is not past the key of x
abbrev Step : Format → ℕ → ℕ → Type 0
Step f k0 kx = (n : ℕ) × (0 < n) × (k0 + n ≤ kx) × (rounded f n (2 ^ low f) ≡ n) × (total f (k0 + (overflow f + n)) ≡ k0 + n)

up_key : (f : Format) (m x : ℕ) → Value f m → Value f x → m < x → Step f (overflow f + m) (overflow f + x)
up_key f m x v w h =
    let C = overflow f in
    let s = step-up f m x v w h in
    let n = s.0 in
    let e = places C m n in (
      n,
      s.1,
      within C m n x s.2,
      rounded-value f n s.3,
      total-up f (C + m + (C + n)) e.0 ∙ ap (λ (z : ℕ). C + rounded f z (2 ^ low f)) e.1 ∙ ap (λ (z : ℕ). C + z) (rounded-value f (m + n) s.4) ∙ e.2,
    )
  where
    places : (C m n : ℕ) → (C + C ≤ C + m + (C + n)) × (C + m + (C + n) - (C + C) ≡ m + n) × (C + (m + n) ≡ C + m + n)
    places C m n = (omega arith, omega arith, omega arith)

    within : (C m n x : ℕ) → m + n ≤ x → C + m + n ≤ C + x
    within C m n x h = omega arith

down_key : (f : Format) (m x : ℕ) → m ≤ overflow f → Value f m → Value f x → x < m → Step f (overflow f - m) (overflow f - x)
down_key f m x c v w h =
    let C = overflow f in
    let s = step_down f m x v w h in
    let n = s.0 in
    let e = places C m n x c s.2 in (
      n,
      s.1,
      within C m n x c s.2,
      rounded-value f n s.3,
      total-down f (C - m + (C + n)) e.0 ∙ ap (λ (z : ℕ). C - rounded f z (2 ^ low f)) e.1 ∙ ap (λ (z : ℕ). C - z) (rounded-value f (m - n) s.4) ∙ e.2,
    )
  where
    places : (C m n x : ℕ) → m ≤ C → x + n ≤ m → (C - m + (C + n) ≤ C + C) × (C + C - (C - m + (C + n)) ≡ m - n) × (C - (m - n) ≡ C - m + n)
    places C m n x c h = (omega arith, omega arith, omega arith)

    within : (C m n x : ℕ) → m ≤ C → x + n ≤ m → C - m + n ≤ C - x
    within C m n x c h = omega arith

-- from below zero to zero
to-zero : (f : Format) (m x : ℕ) → m ≤ overflow f → Value f m → 0 < m → Step f (overflow f - m) (overflow f + x)
to-zero f m x c v h =
    let C = overflow f in
    let e = places C m c in
    (m, h, within C m x c, rounded-value f m v, total-up f (C - m + (C + m)) e.0 ∙ ap (λ (z : ℕ). C + rounded f z (2 ^ low f)) e.1 ∙ ap (λ (z : ℕ). C + z) (R-zero f) ∙ e.2)
  where
    places : (C m : ℕ) → m ≤ C → (C + C ≤ C - m + (C + m)) × (C - m + (C + m) - (C + C) ≡ 0) × (C + 0 ≡ C - m + m)
    places C m c = (omega arith, omega arith, omega arith)

    within : (C m x : ℕ) → m ≤ C → C - m + m ≤ C + x
    within C m x c = omega arith

step-keys : (f : Format) (s t : Bool) (m x : ℕ) → m ≤ overflow f → Value f m → Value f x → key_of (overflow f) s m < key_of (overflow f) t x → Step f (key_of (overflow f) s m) (key_of (overflow f) t x)
step-keys f false false m x c v w h = up_key f m x v w (add-lt_cancel_left (overflow f) h)
step-keys f false true m x c v w h = absurd (none (overflow f) m x h)
  where
    none : (C m x : ℕ) → C + m < C - x → ⊥
    none C m x h = omega arith
step-keys f true true m x c v w h = down_key f m x c v w (less (overflow f) m x c h)
  where
    less : (C m x : ℕ) → m ≤ C → C - m < C - x → x < m
    less C m x c h = omega arith
step-keys f true false zero x c v w h = subst (λ (z : ℕ). Step f z (overflow f + x)) (same (overflow f)) (up_key f zero x v w (less (overflow f) x h))
  where
    same : (C : ℕ) → C + 0 ≡ C - 0
    same C = omega arith

    less : (C x : ℕ) → C - 0 < C + x → 0 < x
    less C x h = omega arith
step-keys f true false (suc m) x c v w h = to-zero f (suc m) x c v (omega arith)

-- ---- the sum of finite ones
module _ (f : Format) (x h0 : Float) (p : T (fits f x)) (q : T (fits f h0)) (a : T (finite x)) (b : T (finite h0)) (s : Step f (key f h0) (key f x)) where
  C : ℕ
  C = overflow f

  -- the difference is at least the step
  diff-key : C + s.0 ≤ key f (sub f x h0)
  unfolding C
  diff-key =
      let e = places (key f x) (key f h0) s.0 (overflow f) (key-le f h0 q) s.2 in
      le_trans
      (plus-le (overflow f) s.0 (rounded f (key f x + (overflow f + overflow f - key f h0) - (overflow f + overflow f)) (2 ^ low f))
      (le_trans (le_of_eq (sym s.3)) (rounded-mono f s.0 (2 ^ low f) (key f x + (overflow f + overflow f - key f h0) - (overflow f + overflow f)) (2 ^ low f) (pow_pos (low f)) (pow_pos (low f)) (mul-le-mul_right (2 ^ low f) e.1))))
      (le_of_eq (sym (sub-key f x h0 p q a b ∙ total-up f (key f x + (overflow f + overflow f - key f h0)) e.0)))
    where
      places : (kx k0 n C : ℕ) → k0 ≤ C + C → k0 + n ≤ kx → (C + C ≤ kx + (C + C - k0)) × (n ≤ kx + (C + C - k0) - (C + C))
      places kx k0 n C c h = (omega arith, omega arith)

      plus-le : (C n r : ℕ) → n ≤ r → C + n ≤ C + r
      plus-le C n r h = omega arith

  pub sum-above : T (finite (sub f x h0)) → T (lt h0 (add f h0 (sub f x h0)))
  unfolding C
  sum-above d =
      let y = sub f x h0 in
      keys→lt f h0 (add f h0 y) q (add-fits f h0 y) (finite-real h0 b) (add-real f h0 y b d)
      (lt_of_lt_of_le (past (key f h0) s.0 s.1)
      (le_trans (le_of_eq (sym s.4))
      (le_trans (total_mono f (key f h0 + (overflow f + s.0)) (key f h0 + key f y) (plus-le (key f h0) (overflow f + s.0) (key f y) diff-key))
      (le_of_eq (sym (add-key f h0 y q (sub-fits f x h0) b d))))))
    where
      past : (k n : ℕ) → 0 < n → k < k + n
      past k n h = omega arith

      plus-le : (C n r : ℕ) → n ≤ r → C + n ≤ C + r
      plus-le C n r h = omega arith

-- the difference is finite or +infinity
by_difference : (h0 d : Float) → T (finite h0) → T (lt nought d) → (T (finite d) → T (lt h0 (add binary32 h0 d))) → T (is_nan (add binary32 h0 d) || lt h0 (add binary32 h0 d))
by_difference nan d b h g = absurd b
by_difference (inf s) d b h g = absurd b
by_difference (fin s m e) nan b h g = absurd (unfold lt in h)
by_difference (fin s m e) (inf true) b h g = absurd (unfold lt in h)
by_difference (fin s m e) (inf false) b h g = unfold add is_nan lt in tt
by_difference (fin s m e) (fin t n d) b h g = or_r (is_nan (add binary32 (fin s m e) (fin t n d))) (lt (fin s m e) (add binary32 (fin s m e) (fin t n d))) (g tt)

fin-above : (s : Bool) (m : ℕ) (e : ℤ) (t : Bool) (n : ℕ) (d : ℤ) → T (fits binary32 (fin s m e)) → T (fits binary32 (fin t n d)) → T (lt nought (sub binary32 (fin s m e) (fin t n d)))
    → T (is_nan (add binary32 (fin t n d) (sub binary32 (fin s m e) (fin t n d))) || lt (fin t n d) (add binary32 (fin t n d) (sub binary32 (fin s m e) (fin t n d))))
fin-above s m e t n d p q h =
    let x = fin s m e in
    let h0 = fin t n d in
    let k = lt→keys binary32 h0 x q p tt tt (subst (λ (z : Bool). T z) (sub-gt binary32 x h0 p q) h) in
    by_difference h0 (sub binary32 x h0) tt h
    (sum-above binary32 x h0 p q tt tt (step-keys binary32 t s (mag binary32 h0) (mag binary32 x) (mag-le binary32 h0 q) (value_of binary32 t n d q) (value_of binary32 s m e p) k))

above : (x h0 : Float) → T (fits binary32 x) → T (fits binary32 h0) → T (lt nought (sub binary32 x h0)) → T (is_nan (add binary32 h0 (sub binary32 x h0)) || lt h0 (add binary32 h0 (sub binary32 x h0)))
above nan h0 p q h = absurd (unfold sub add lt in h)
above (inf s) nan p q h = absurd (unfold sub add neg lt in h)
above (inf true) (inf true) p q h = absurd (unfold sub add neg lt in h)
above (inf true) (inf false) p q h = absurd (unfold sub add neg lt in h)
above (inf false) (inf true) p q h = unfold sub add neg is_nan in tt
above (inf false) (inf false) p q h = absurd (unfold sub add neg lt in h)
above (inf true) (fin t n d) p q h = absurd (unfold sub add neg lt in h)
above (inf false) (fin t n d) p q h = unfold sub add neg is_nan lt in tt
above (fin s m e) nan p q h = absurd (unfold sub add neg lt in h)
above (fin s m e) (inf true) p q h = unfold sub add neg is_nan in tt
above (fin s m e) (inf false) p q h = absurd (unfold sub add neg lt in h)
above (fin s m e) (fin t n d) p q h = fin-above s m e t n d p q h

pub above-lowest : AboveLowest
above-lowest x h0 p q h = above x h0 p q (subst (λ (o : Float). T (lt o (sub binary32 x h0))) nought-is h)
