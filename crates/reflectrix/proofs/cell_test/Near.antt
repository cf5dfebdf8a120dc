-- The relative error of one rounding: a fraction in binary32's normal range is moved by at most 2 ^ -24 of itself.
use mathlib.Core.Path.{◌≡◌, refl, sym, ap, subst}
use mathlib.Core.Bool.{false}
use Prim.Native.Nat.{ℕ, zero, suc, ◌+◌, ◌-◌, ◌*◌, ◌/◌, ◌%◌, ◌^◌, ◌≤◌, ◌<◌, compare, Ordering}
use native.Mathlib.Nat.{le_trans, le_of_eq, mul_assoc, mul-one, add-mul, suc-mul, mul-pos, mul-le-mul_right, le_of_mul-le-mul_right, le-div_iff_mul-le, div-add-mod', mod-lt, zero-lt-suc}
use native.Mathlib.Omega.{arith}
use lib.Pow.{pow_pos}
use lib.Ieee.{Float, binary32, nearest, round}
use lib.Ieee.Order.{drop, kept}
use lib.Ieee.Exact.{HasValue}
use lib.Ieee.Scale.{grid}
use Rattle.rounding.specs.TiesToEven.{limit}
use Rattle.rounding.proofs.Cells.{Cmp, cmp, steps-ge, regroup}
use Rattle.rounding.proofs.Limit.{round-value}

-- at most half a step u from n = w * u + r
record Half (g n u : ℕ) : Type 0 where
  above : 2 * g ≤ 2 * n + u
  below : 2 * n ≤ 2 * g + u

half : (w u r : ℕ) (o : Ordering) → Cmp o (r * 2) u → r < u → Half (nearest w o * u) (w * u + r) u
half w u r Ordering.lt c l = record { above = omega arith; below = omega arith }
half w u r Ordering.eq c l =
    let e : (w + w % 2) * u ≡ w * u + w % 2 * u = add-mul w (w % 2) u in
    let b : w % 2 * u ≤ 1 * u = mul-le-mul_right u (bit w) in
    record { above = omega arith; below = omega arith }
  where
    bit : (w : ℕ) → w % 2 ≤ 1
    bit w = omega arith
half w u r Ordering.gt c l = let e : suc w * u ≡ w * u + u = suc-mul w u in record { above = omega arith; below = omega arith }

-- a step is at most 2 ^ -23 of the fraction
fine : (n c : ℕ) → 0 < c → 2 ^ 23 * c ≤ n → 2 ^ 23 * (c * 2 ^ drop 24 n c) ≤ n
fine n c C h = go (drop 24 n c) refl
  where
    go : (k : ℕ) → drop 24 n c ≡ k → 2 ^ 23 * (c * 2 ^ drop 24 n c) ≤ n
    go zero e = subst (λ (k : ℕ). 2 ^ 23 * (c * 2 ^ k) ≤ n) (sym e) (le_trans (le_of_eq (ap (λ (x : ℕ). 2 ^ 23 * x) (mul-one c))) h)
    go (suc k) e =
        (le-div_iff_mul-le (mul-pos C (pow_pos (drop 24 n c)))).0
        (steps-ge 24 n c (zero-lt-suc 23) (subst (λ (j : ℕ). 0 < j) (sym e) (zero-lt-suc k)))

-- X / D is N / D rounded, but for 2 ^ -24 of it
pub record Within (N D X : ℕ) : Type 0 where
  pub low : N * (2 ^ 24 - 1) ≤ X * D * 2 ^ 24
  pub high : X * D * 2 ^ 24 ≤ N * (2 ^ 24 + 1)

close : (n g u : ℕ) → Half g n u → 2 ^ 23 * u ≤ n → (n * (2 ^ 24 - 1) ≤ g * 2 ^ 24) × (g * 2 ^ 24 ≤ n * (2 ^ 24 + 1))
close n g u h l = let a = h.above in let b = h.below in (omega arith, omega arith)

near : (n c : ℕ) → 0 < c → 2 ^ 23 * c ≤ n → Within n c (kept 24 n c * 2 ^ drop 24 n c)
near n c C h =
    let k = drop 24 n c in
    let u = c * 2 ^ k in
    let p = half (n / u) u (n % u) (compare (n % u * 2) u) (cmp (n % u * 2) u) (mod-lt n (mul-pos C (pow_pos k))) in
    let q = close n (kept 24 n c * u) u (subst (λ (x : ℕ). Half (kept 24 n c * u) x u) (div-add-mod' n u) p) (fine n c C h) in
    let e = regroup (kept 24 n c) c k in
    record {
      low = subst (λ (x : ℕ). n * (2 ^ 24 - 1) ≤ x * 2 ^ 24) (sym e) q.0;
      high = subst (λ (x : ℕ). x * 2 ^ 24 ≤ n * (2 ^ 24 + 1)) (sym e) q.1;
    }

-- ---- the float N / (D * 2 ^ 149), in units of 2 ^ -149
pub record Rounded (x : Float) (N D : ℕ) : Type 0 where
  pub X : ℕ
  pub is : HasValue x false X (2 ^ 149)
  pub within : Within N D X

drop-unit : (N D X L : ℕ) → 0 < L → Within (N * L) (D * L) X → Within N D X
drop-unit N D X L p w =
    let a = w.low in
    let b = w.high in
    record {
      low = le_of_mul-le-mul_right {k = L} (omega arith) p;
      high = le_of_mul-le-mul_right {k = L} (omega arith) p;
    }

pub rounds : (N D : ℕ) → 0 < D → 2 ^ 23 * D ≤ N → N < limit binary32 * (D * 2 ^ 149) → Rounded (round binary32 false N (D * 2 ^ 149)) N D
rounds N D p h l =
    let L = 2 ^ 149 in
    let c = mul-pos p (pow_pos 149) in
    record {
      X = grid binary32 N (D * L);
      is = round-value binary32 false N (D * L) c l;
      within = drop-unit N D (grid binary32 N (D * L)) L (pow_pos 149) (near (N * L) (D * L) c (le_trans (le_of_eq (sym (mul_assoc (2 ^ 23) D L))) (mul-le-mul_right L h)));
    }

-- a rounded number is at least half, and at most twice, what was rounded
pub spread : (N D X lo hi : ℕ) → 0 < D → Within N D X → 2 * lo * D ≤ N → N ≤ hi * D → (lo ≤ X) × (X ≤ 2 * hi)
spread N D X lo hi p w a b =
    let l = w.low in
    let h = w.high in
    let x : 2 * lo * (2 ^ 24 - 1) ≤ X * 2 ^ 24 = le_of_mul-le-mul_right {k = D} (omega arith) p in
    let y : X * 2 ^ 24 ≤ hi * (2 ^ 24 + 1) = le_of_mul-le-mul_right {k = D} (omega arith) p in
    (omega arith, omega arith)
