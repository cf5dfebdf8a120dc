-- From the sine at the small angle r / 2 ^ 61 to the sine or the cosine at the angle x / 2 ^ 61 that was folded onto it: every partial sum with 18 terms or more at x is as close as those at r, but for 2 ^ -55.
use mathlib.Core.Path.{◌≡◌, ap}
use Prim.Native.Nat.{ℕ, ◌+◌, ◌*◌, ◌^◌, ◌≤◌, ◌<◌}
use native.Mathlib.Nat.{le_trans, le_refl, le-add_right, mul-le-mul, mul-le-mul_left, mul-le-mul_right, le_of_mul-le-mul_right, pow-le-pow_left}
use native.Mathlib.Omega.{arith}
use lib.Dec.{lit<, lit≤}
use lib.Pow.{pow_pos}
use Rattle.series.specs.Series.{Close, Wave, sine, cosine, full}
use Rattle.series.proofs.Pairs.{sums, Limit, Ksin, Kcos, shift, start, Kat, den_pos, sin-pos, cos-pos}
use Rattle.series.proofs.Addition.{full-pos}
use Rattle.series.proofs.Alternating.{limit}
use Rattle.exact.proofs.Enclosure.{sine-pairs, cosine-pairs}
use Rattle.waves.specs.SinCos.{ratio_of}
use Rattle.wave_bounds.proofs.Kernel.{kernel}
use Rattle.series.proofs.Quads.{quad, sin-same, cos-same}
use Rattle.wave_bounds.proofs.Turns.{whole, whole_pos, part, gap, gap-small, Alike}

-- ---- from pairs of terms to classes
cross : (m r t u p q c N N' F : ℕ) → 0 < c → p * F ≡ N * c → q * F ≡ N' * c → Close m r t u p q c → Close m r t u N N' F
cross m r t u p q c N N' F P e g k =
    record {
      low = le_of_mul-le-mul_right {k = c} (omega (arith, mul-le-mul_right F k.low, ap (λ (x : ℕ). m * x) e, ap (λ (x : ℕ). m * x) g)) P;
      high = le_of_mul-le-mul_right {k = c} (omega (arith, mul-le-mul_right F k.high, ap (λ (x : ℕ). m * x) e, ap (λ (x : ℕ). m * x) g)) P;
    }

sin-parts : (n : ℕ) → ((sums Ksin n (2 ^ 61) n (2 ^ 61) 16).plus * whole ≡ part 1 n * (sums Ksin n (2 ^ 61) n (2 ^ 61) 16).den) × ((sums Ksin n (2 ^ 61) n (2 ^ 61) 16).minus * whole ≡ part 3 n * (sums Ksin n (2 ^ 61) n (2 ^ 61) 16).den)
unfolding whole part quad
sin-parts n = let s = sin-same n (2 ^ 61) 16 in (s.plus, s.minus)

cos-parts : (n : ℕ) → (((sums Kcos n (2 ^ 61) 1 1 16).plus + (sums Kcos n (2 ^ 61) 1 1 16).next) * whole ≡ part 0 n * (sums Kcos n (2 ^ 61) 1 1 16).den) × ((sums Kcos n (2 ^ 61) 1 1 16).minus * whole ≡ part 2 n * (sums Kcos n (2 ^ 61) 1 1 16).den)
unfolding whole part quad
cos-parts n = let s = cos-same n (2 ^ 61) 16 in (s.plus, s.minus)

-- the small angle
small-close : (r : ℕ) → r < 2 ^ 62 → Close (2 ^ 93) (ratio_of r * r) 0 (20 * r) (part 1 r) (part 3 r) whole
small-close r h =
    let s = sums Ksin r (2 ^ 61) r (2 ^ 61) 16 in
    let e = sin-parts r in
    cross (2 ^ 93) (ratio_of r * r) 0 (20 * r) s.plus s.minus s.den (part 1 r) (part 3 r) whole (den_pos Ksin sin-pos r (2 ^ 61) r (2 ^ 61) (pow_pos 61) (pow_pos 61) 16) e.0 e.1 ((kernel r h).even 16 (lit≤ tt))

-- the angle itself
alike-close : (a u xa xb r₁ r₃ F D : ℕ) → 2 ^ 56 * D ≤ F → Alike xa xb r₁ r₃ D → Close (2 ^ 93) a 0 u r₁ r₃ F → Close (2 ^ 93) a 0 (u + 2 ^ 37) xa xb F
alike-close a u xa xb r₁ r₃ F D g A k = record { low = omega (arith, k.low, A.high, g); high = omega (arith, k.high, A.low, g) }

pub flip : (m a u p q c : ℕ) → Close m a 0 u p q c → Close m 0 a u q p c
flip m a u p q c k = record { low = omega (arith, k.high); high = omega (arith, k.low) }

-- ---- and back to pairs of terms: the classes lie between the sums with 18 and with 19 terms
-- p' is the sum of the pairs, or that with one term more
between : (p q n c p' q' n' c' N N' F t : ℕ) → 0 < c' → p * c' + c * q' ≤ c * p' + q * c' → c * (p' + n') + q * c' ≤ c * q' + (p + n) * c' → p' ≤ t → t ≤ p' + n' → t * F ≡ N * c' → q' * F ≡ N' * c'
    → (p * F + c * N' ≤ c * N + q * F) × (c * N + q * F ≤ c * N' + (p + n) * F)
between p q n c p' q' n' c' N N' F t P b a l h e g = (
  le_of_mul-le-mul_right {k = c'} (omega (arith, mul-le-mul_right F b, mul-le-mul_left (c * F) l, ap (λ (x : ℕ). c * x) e, ap (λ (x : ℕ). c * x) g)) P,
  le_of_mul-le-mul_right {k = c'} (omega (arith, mul-le-mul_right F a, mul-le-mul_left (c * F) h, ap (λ (x : ℕ). c * x) e, ap (λ (x : ℕ). c * x) g)) P,
)

module _ (m a b u t p q n c N N' F : ℕ) (P : 0 < F) (B : (p * F + c * N' ≤ c * N + q * F) × (c * N + q * F ≤ c * N' + (p + n) * F)) (T : m * n ≤ t * c) (k : Close m a b u N N' F) where
  low-at : a * c + m * q ≤ m * p + (b + (u + t)) * c
  low-at = le_of_mul-le-mul_right {k = F} (omega (arith, mul-le-mul_right c k.low, mul-le-mul_left m B.1, mul-le-mul_right F T)) P

  high-at : m * (p + n) + b * c ≤ m * q + (a + (u + t)) * c
  high-at = le_of_mul-le-mul_right {k = F} (omega (arith, mul-le-mul_right c k.high, mul-le-mul_left m B.0, mul-le-mul_right F T)) P

-- the nineteenth term is below 2 ^ -63
next_small : (x F y c z : ℕ) → 0 < F → x * F ≡ y * c → y ≤ z → 2 ^ 93 * z ≤ 2 ^ 30 * F → 2 ^ 93 * x ≤ 2 ^ 30 * c
next_small x F y c z P e h k = le_of_mul-le-mul_right {k = F} (omega (arith, e, mul-le-mul_right c h, mul-le-mul_right c k)) P

enough-37 : 2 ^ 93 * (2 ^ 63) ^ 37 ≤ 2 ^ 30 * full (2 ^ 61) 37
unfolding full
enough-37 = lit≤ tt

enough-36 : 2 ^ 93 * (2 ^ 63) ^ 36 ≤ 2 ^ 30 * full (2 ^ 61) 36
unfolding full
enough-36 = lit≤ tt

sin-next : (n : ℕ) → n ≤ 2 ^ 63 → 2 ^ 93 * (sums Ksin n (2 ^ 61) n (2 ^ 61) 9).next ≤ 2 ^ 30 * (sums Ksin n (2 ^ 61) n (2 ^ 61) 9).den
unfolding quad
sin-next n h = next_small (sums Ksin n (2 ^ 61) n (2 ^ 61) 9).next (full (2 ^ 61) 37) (n ^ 37) (sums Ksin n (2 ^ 61) n (2 ^ 61) 9).den ((2 ^ 63) ^ 37) (full-pos (2 ^ 61) 37 (pow_pos 61)) (sin-same n (2 ^ 61) 9).next (pow-le-pow_left h 37) enough-37

cos-next : (n : ℕ) → n ≤ 2 ^ 63 → 2 ^ 93 * (sums Kcos n (2 ^ 61) 1 1 9).next ≤ 2 ^ 30 * (sums Kcos n (2 ^ 61) 1 1 9).den
unfolding quad
cos-next n h = next_small (sums Kcos n (2 ^ 61) 1 1 9).next (full (2 ^ 61) 36) (n ^ 36) (sums Kcos n (2 ^ 61) 1 1 9).den ((2 ^ 63) ^ 36) (full-pos (2 ^ 61) 36 (pow_pos 61)) (cos-same n (2 ^ 61) 9).next (pow-le-pow_left h 36) enough-36

falls : (n : ℕ) → n ≤ 2 ^ 63 → (o k : ℕ) → 2 * 9 ≤ k → n * n ≤ 2 ^ 61 * 2 ^ 61 * Kat o k
falls n h o k l = le_trans (mul-le-mul h h) (le_trans (lit≤ tt) (mul-le-mul_left (2 ^ 61 * 2 ^ 61) (large o k l)))
  where
    large : (o k : ℕ) → 2 * 9 ≤ k → 16 ≤ Kat o k
    large o k l = le_trans (lit≤ tt) (mul-le-mul (four o k l) (four' o k l))
      where
        four : (o k : ℕ) → 2 * 9 ≤ k → 4 ≤ 2 * k + (o + 1)
        four o k l = omega arith

        four' : (o k : ℕ) → 2 * 9 ≤ k → 4 ≤ 2 * k + (o + 2)
        four' o k l = omega arith

-- the sine, or the cosine, is the class of number `shift` less this one
abbrev pub second : Wave → ℕ
second sine = 3
second cosine = 2

module _ (n : ℕ) (h : n ≤ 2 ^ 63) (a b u : ℕ) where
  sin-limit : Close (2 ^ 93) a b u (part 1 n) (part 3 n) whole → Limit Ksin n (2 ^ 61) n (2 ^ 61) 9 (2 ^ 93) a b (u + 2 ^ 30)
  sin-limit k =
      let s = sums Ksin n (2 ^ 61) n (2 ^ 61) 9 in
      let s' = sums Ksin n (2 ^ 61) n (2 ^ 61) 16 in
      let w = sine-pairs n (2 ^ 61) 9 (pow_pos 61) h (lit≤ tt) 16 (lit≤ tt) in
      let e = sin-parts n in
      let B = between s.plus s.minus s.next s.den s'.plus s'.minus s'.next s'.den (part 1 n) (part 3 n) whole s'.plus (den_pos Ksin sin-pos n (2 ^ 61) n (2 ^ 61) (pow_pos 61) (pow_pos 61) 16) w.0 w.1 (le_refl s'.plus) (le-add_right s'.plus s'.next) e.0 e.1 in
      limit Ksin n (2 ^ 61) (2 ^ 93) a b (u + 2 ^ 30) n (2 ^ 61) 9 (falls n h 1)
      (low-at (2 ^ 93) a b u (2 ^ 30) s.plus s.minus s.next s.den (part 1 n) (part 3 n) whole whole_pos B (sin-next n h) k)
      (high-at (2 ^ 93) a b u (2 ^ 30) s.plus s.minus s.next s.den (part 1 n) (part 3 n) whole whole_pos B (sin-next n h) k)

  cos-limit : Close (2 ^ 93) a b u (part 0 n) (part 2 n) whole → Limit Kcos n (2 ^ 61) 1 1 9 (2 ^ 93) a b (u + 2 ^ 30)
  cos-limit k =
      let s = sums Kcos n (2 ^ 61) 1 1 9 in
      let s' = sums Kcos n (2 ^ 61) 1 1 16 in
      let w = cosine-pairs n (2 ^ 61) 9 (pow_pos 61) h (lit≤ tt) 16 (lit≤ tt) in
      let e = cos-parts n in
      let B = between s.plus s.minus s.next s.den s'.plus s'.minus s'.next s'.den (part 0 n) (part 2 n) whole (s'.plus + s'.next) (den_pos Kcos cos-pos n (2 ^ 61) 1 1 (pow_pos 61) (lit< tt) 16) w.0 w.1 (le-add_right s'.plus s'.next) (le_refl (s'.plus + s'.next)) e.0 e.1 in
      limit Kcos n (2 ^ 61) (2 ^ 93) a b (u + 2 ^ 30) 1 1 9 (falls n h 0)
      (low-at (2 ^ 93) a b u (2 ^ 30) s.plus s.minus s.next s.den (part 0 n) (part 2 n) whole whole_pos B (cos-next n h) k)
      (high-at (2 ^ 93) a b u (2 ^ 30) s.plus s.minus s.next s.den (part 0 n) (part 2 n) whole whole_pos B (cos-next n h) k)

  any-limit : (w : Wave) → Close (2 ^ 93) a b u (part (shift w) n) (part (second w) n) whole → Limit (Kat (shift w)) n (2 ^ 61) (start w n) (start w (2 ^ 61)) 9 (2 ^ 93) a b (u + 2 ^ 30)
  any-limit sine k = sin-limit k
  any-limit cosine k = cos-limit k

-- the fold: with the sine's sign, or with the other one
module _ (w : Wave) (x r : ℕ) (X : x ≤ 2 ^ 63) (R : r < 2 ^ 62) where
  pub fold-plus : Alike (part (shift w) x) (part (second w) x) (part 1 r) (part 3 r) gap → Limit (Kat (shift w)) x (2 ^ 61) (start w x) (start w (2 ^ 61)) 9 (2 ^ 93) (ratio_of r * r) 0 (20 * r + 2 ^ 37 + 2 ^ 30)
  fold-plus A = any-limit x X (ratio_of r * r) 0 (20 * r + 2 ^ 37) w (alike-close (ratio_of r * r) (20 * r) (part (shift w) x) (part (second w) x) (part 1 r) (part 3 r) whole gap gap-small A (small-close r R))

  pub fold-minus : Alike (part (second w) x) (part (shift w) x) (part 1 r) (part 3 r) gap → Limit (Kat (shift w)) x (2 ^ 61) (start w x) (start w (2 ^ 61)) 9 (2 ^ 93) 0 (ratio_of r * r) (20 * r + 2 ^ 37 + 2 ^ 30)
  fold-minus A = any-limit x X 0 (ratio_of r * r) (20 * r + 2 ^ 37) w (flip (2 ^ 93) (ratio_of r * r) (20 * r + 2 ^ 37) (part (second w) x) (part (shift w) x) whole (alike-close (ratio_of r * r) (20 * r) (part (second w) x) (part (shift w) x) (part 1 r) (part 3 r) whole gap gap-small A (small-close r R)))
