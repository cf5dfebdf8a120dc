-- The four classes of the exponential series at a small angle w / B, in units of 1 / B: five terms and a bound of the rest.
use mathlib.Core.Path.{◌≡◌}
use Prim.Native.Nat.{ℕ, zero, suc, ◌+◌, ◌*◌, ◌/◌, ◌^◌, ◌≤◌, ◌<◌}
use native.Mathlib.Nat.{le_of_lt, le_refl, mul-pos, div-mul-le_self, lt-div-mul-add, mul-le-mul_right}
use native.Mathlib.Omega.{arith}
use Rattle.series.specs.Series.{full, num, class}
use Rattle.series.proofs.Terms.{pow-1, pow-2, pow-3, pow-4, pow-5}
use Rattle.series.proofs.Weighted.{above}
use Rattle.series.proofs.Waves.{Enc4}

pub class-le : (r k : ℕ) → class r k ≤ 1
unfolding class
class-le zero zero = le_refl 1
class-le (suc r) zero = omega arith
class-le zero (suc k) = class-le 3 k
class-le (suc r) (suc k) = class-le r k

module _ (w B : ℕ) where
  full-5 : full B 5 ≡ 120 * (B * B * B * B * B)
  unfolding full
  full-5 = omega arith

  num-0 : num (class 0) w B 5 ≡ 120 * (B * B * B * B * B) + 5 * (B * (w * w * w * w))
  unfolding num class
  num-0 = rw (pow-1, pow-2, pow-3, pow-4, pow-5) (omega arith)

  num-1 : num (class 1) w B 5 ≡ 120 * (B * B * B * B * w) + w * w * w * w * w
  unfolding num class
  num-1 = rw (pow-1, pow-2, pow-3, pow-4, pow-5) (omega arith)

  num-2 : num (class 2) w B 5 ≡ 60 * (B * B * B * (w * w))
  unfolding num class
  num-2 = rw (pow-1, pow-2, pow-3, pow-4, pow-5) (omega arith)

  num-3 : num (class 3) w B 5 ≡ 20 * (B * B * (w * w * w))
  unfolding num class
  num-3 = rw (pow-1, pow-2, pow-3, pow-4, pow-5) (omega arith)

-- w² / 2, w³ / 6 and w⁴ / 24 in units of 1 / B, cut: f, g and k. D is more than the rest of the series
pub record Parts (w B f g k D : ℕ) : Type 0 where
  pub f-low : f * (2 * B) ≤ w * w
  pub f-high : w * w ≤ (f + 1) * (2 * B)
  pub g-low : g * (6 * (B * B)) ≤ w * w * w
  pub g-high : w * w * w ≤ (g + 1) * (6 * (B * B))
  pub k-low : k * (24 * (B * B * B)) ≤ w * w * w * w
  pub k-high : w * w * w * w ≤ (k + 1) * (24 * (B * B * B))
  pub rest : w * w * w * w * w + 60 * (B * B * B * B) ≤ 60 * (B * B * B * B) * D

pub div-high : (x y : ℕ) → 0 < y → x ≤ (x / y + 1) * y
div-high x y p = go (x / y) (le_of_lt (lt-div-mul-add p))
  where
    go : (q : ℕ) → x ≤ q * y + y → x ≤ (q + 1) * y
    go q h = omega arith

pub parts-of : (w B D : ℕ) → 0 < B → w * w * w * w * w + 60 * (B * B * B * B) ≤ 60 * (B * B * B * B) * D → Parts w B (w * w / (2 * B)) (w * w * w / (6 * (B * B))) (w * w * w * w / (24 * (B * B * B))) D
parts-of w B D b rest =
    record {
      f-low = div-mul-le_self (w * w) (2 * B);
      f-high = div-high (w * w) (2 * B) (mul-pos (omega arith) b);
      g-low = div-mul-le_self (w * w * w) (6 * (B * B));
      g-high = div-high (w * w * w) (6 * (B * B)) (mul-pos (omega arith) (mul-pos b b));
      k-low = div-mul-le_self (w * w * w * w) (24 * (B * B * B));
      k-high = div-high (w * w * w * w) (24 * (B * B * B)) (mul-pos (omega arith) (mul-pos (mul-pos b b) b));
      rest = rest;
    }

module _ (w B f g k D : ℕ) (Bp : 0 < B) (small : w ≤ B) (P : Parts w B f g k D) where
  high : (r hi : ℕ) → B * (num (class r) w B 5 + w ^ 5) ≤ hi * full B 5 → (j : ℕ) → B * num (class r) w B j ≤ hi * full B j
  high r hi h = above (class r) (class-le r) w B hi B 5 Bp (omega arith) h

  rest-2 : (w * w * w * w * w + 60 * (B * B * B * B)) * (2 * B) ≤ 60 * (B * B * B * B) * D * (2 * B)
  rest-2 = mul-le-mul_right (2 * B) P.rest

  pub small-enc : Enc4 w B B (B + k) w f g (B + k + D) (w + D) (f + D) (g + D)
  small-enc =
      record {
        at = 5;
        low0 = rw (full-5 w B, num-0 w B) (omega (arith, mul-le-mul_right (5 * (B * B)) P.k-low));
        low1 = rw (full-5 w B, num-1 w B) (omega arith);
        low2 = rw (full-5 w B, num-2 w B) (omega (arith, mul-le-mul_right (60 * (B * B * B * B)) P.f-low));
        low3 = rw (full-5 w B, num-3 w B) (omega (arith, mul-le-mul_right (20 * (B * B * B)) P.g-low));
        high0 = high 0 (B + k + D) (rw (pow-5 w, full-5 w B, num-0 w B) (omega (arith, rest-2, mul-le-mul_right (5 * (B * B)) P.k-high)));
        high1 = high 1 (w + D) (rw (pow-5 w, full-5 w B, num-1 w B) (omega (arith, rest-2)));
        high2 = high 2 (f + D) (rw (pow-5 w, full-5 w B, num-2 w B) (omega (arith, rest-2, mul-le-mul_right (60 * (B * B * B * B)) P.f-high)));
        high3 = high 3 (g + D) (rw (pow-5 w, full-5 w B, num-3 w B) (omega (arith, rest-2, mul-le-mul_right (20 * (B * B * B)) P.g-high)));
      }
