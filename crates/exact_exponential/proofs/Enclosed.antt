-- The terms of the power series fall below every fraction (`small` of `series`), so from some number of terms on a partial sum and the same with its last term once more are both less than one unit in the last place from `exp_of x`, below it of the unit there.
use mathlib.Core.Path.{◌≡◌, sym, ap, subst, subst₂}
use mathlib.Core.Bool.{true, false}
use Prim.Native.Nat.{ℕ, zero, suc, ◌+◌, ◌-◌, ◌*◌, ◌^◌, ◌≤◌, ◌<◌}
use native.Mathlib.Nat.{le_trans, le_of_eq, le_refl, le-add_left, le-add_right, add-mul, le_dest, mul_comm, mul-le-mul_left, mul-le-mul_right, mul-pos, pow-suc}
use native.Mathlib.Omega.{arith}
use lib.Pow.{pow_pos}
use lib.Ieee.{Float, nan, inf, fin, up, down, size}
use lib.Ieee.Fits.{down_pos}
use Rattle.series.specs.Series.{full, num, one, Later}
use Rattle.series.proofs.Addition.{full-pos, exp-over}
use Rattle.series.proofs.Weighted.{grows, above}
use Rattle.series.proofs.Falling.{small}
use Rattle.cases.proofs.Cases.{split}
use Rattle.exponential.specs.Exp.{exp_of}
use Rattle.scalar.specs.Root.{steps}
use Rattle.exact.specs.Unit.{ulp, ulp_below}
use Rattle.exact.specs.Between.{Between}
use Rattle.exact_exponential.specs.Exp.{NearExp}
use Rattle.exact_exponential.specs.Enclosure.{NearerThan, upper_sum, Inside, Enclosed, EnclosedBelow, EnclosedExp, ExpEnclosed, ExpOneNumber, ExpRises, ExpPins}
use Rattle.series.proofs.Terms.{full-1}
use Rattle.exponential_bounds.proofs.Terms.{num-1}
use Rattle.exact_exponential.proofs.ExpTheorem.{exp-near}

-- ---- nested
1≤1 : (j : ℕ) → one j ≤ 1
1≤1 j = le_refl 1

inside : (n d N : ℕ) → 0 < d → 2 * n ≤ d * suc N → Inside n d N
inside n d N D h k l =
    let o = le_dest l in (
      subst (λ (j : ℕ). num one n d N * full d j ≤ num one n d j * full d N) o.1 (grows one 1≤1 n d N o.0),
      le_trans (le_of_eq (mul_comm (num one n d k) (full d N))) (above one 1≤1 n d (upper_sum n d N) (full d N) N D h (le_of_eq (mul_comm (full d N) (upper_sum n d N))) k),
    )

rising : (n d k : ℕ) → num one n d k * full d (suc k) ≤ num one n d (suc k) * full d k
unfolding num full
rising n d k = go (num one n d k) (full d k) (d * suc k) (n ^ suc k)
  where
    go : (x f c p : ℕ) → x * (f * c) ≤ (x * c + 1 * p) * f
    go x f c p = omega arith

falling : (n d k : ℕ) → 2 * n ≤ d * suc k → upper_sum n d (suc k) * full d k ≤ upper_sum n d k * full d (suc k)
unfolding num full
falling n d k h = go (num one n d k) (full d k) (d * suc k) (n ^ k) (n ^ suc k) (pow-suc n k) (mul-le-mul_left (n ^ k) h)
  where
    go : (x f c p p' : ℕ) → p' ≡ p * n → p * (2 * n) ≤ p * c → (x * c + 1 * p' + p') * f ≤ (x + p) * (f * c)
    go x f c p p' e g = omega (arith, mul-le-mul_right f g, ap (λ (y : ℕ). y * f) e)

-- the enclosures name one number
pub exp-one-number : ExpOneNumber
exp-one-number n d D = record { rising = rising n d; falling = falling n d; narrow = λ M. (2 * n + M * n ^ (2 * n), small n d M D) }

-- and rise with the argument
pub exp-rises : ExpRises
exp-rises a h d D k = subst₂ (λ (x y : ℕ). num one a d k * x * full d (k + 1) ≤ num one (a + h) d (k + 1) * (full d k * y)) (num-1 h d) (full-1 d) (exp-over a h d D k 1)

above-one : (n d k : ℕ) → full d k ≤ num one n d k
unfolding num full
above-one n d zero = le_refl 1
above-one n d (suc k) = le_trans (mul-le-mul_right (d * suc k) (above-one n d k)) (go (num one n d k * (d * suc k)) (n ^ suc k))
  where
    go : (x y : ℕ) → x ≤ x + 1 * y
    go x y = omega arith

-- so an exponent is pinned by its power
pub exp-pins : ExpPins
exp-pins n m d a b D B l g = split m n (λ h. let o = le_dest h in absurd (never (suc o.0) (omega arith) (omega (arith, o.1)))) (λ h. h)
  where
    never : (e : ℕ) → 0 < e → m + e ≡ n → ⊥
    never e E i =
        let k = g.0 in
        go (num one m d k) (num one (m + e) d (k + 1)) (full d k) (full d (k + 1)) (exp-rises m e d D k) (subst (λ (x : ℕ). num one x d (k + 1) * b ≤ a * full d (k + 1)) (sym i) (l (k + 1))) g.1
        (mul-pos (mul-pos (mul-pos (le_trans (full-pos d k D) (above-one m d k)) (full-pos d (k + 1) D)) B) E)
      where
        go : (M N f f' : ℕ) → M * (d + e) * f' ≤ N * (f * d) → N * b ≤ a * f' → a * f ≤ M * b → 0 < M * f' * b * e → ⊥
        go M N f f' r u v p =
            less (M * f' * b * d) (M * f' * b * e)
            (le_trans (le_of_eq (first M f')) (le_trans (mul-le-mul_right b r) (le_trans (le_of_eq (second N f)) (le_trans (mul-le-mul_right (f * d) u) (le_trans (le_of_eq (third f f')) (le_trans (mul-le-mul_right (f' * d) v) (le_of_eq (fourth M f'))))))))
            p
          where
            first : (M f' : ℕ) → M * f' * b * d + M * f' * b * e ≡ M * (d + e) * f' * b
            first M f' = omega arith

            second : (N f : ℕ) → N * (f * d) * b ≡ N * b * (f * d)
            second N f = omega arith

            third : (f f' : ℕ) → a * f' * (f * d) ≡ a * f * (f' * d)
            third f f' = omega arith

            fourth : (M f' : ℕ) → M * b * (f' * d) ≡ M * f' * b * d
            fourth M f' = omega arith

            less : (x y : ℕ) → x + y ≤ x → 0 < y → ⊥
            less x y h p = omega arith

-- ---- from 15/16 of a unit to less than one
module _ (v l u a b : ℕ) (L : 0 < l) (U : 0 < u) (B : 0 < b) (c : Between (16 * 2 ^ 149) (16 * v) 0 (15 * l) (15 * u) a 0 b) where
  within : NearerThan v l u a b
  within = record { low = low (2 ^ 149 * a) (v * b) (l * b) (mul-pos L B) (first (2 ^ 149) c.low); high = high (2 ^ 149 * a) (v * b) (u * b) (mul-pos U B) (second (2 ^ 149) c.high) (add-mul v u b) }
    where
      first : (P : ℕ) → 16 * v * b + 16 * P * 0 ≤ 16 * P * a + (0 + 15 * l) * b → 16 * (v * b) ≤ 16 * (P * a) + 15 * (l * b)
      first P h = omega (arith, h)

      second : (P : ℕ) → 16 * P * a + 0 * b ≤ 16 * P * 0 + (16 * v + 15 * u) * b → 16 * (P * a) ≤ 16 * (v * b) + 15 * (u * b)
      second P h = omega (arith, h)

      low : (x y z : ℕ) → 0 < z → 16 * y ≤ 16 * x + 15 * z → y < x + z
      low x y z p h = omega arith

      high : (x y z : ℕ) {t : ℕ} → 0 < z → 16 * x ≤ 16 * y + 15 * z → t ≡ y + z → x < t
      high x y z p h e = omega arith

  -- with t more above, where 32 * 2 ^ 149 * t is at most b
  within_more : (t : ℕ) → 32 * 2 ^ 149 * t ≤ b → NearerThan v l u (a + t) b
  within_more t h =
      record {
        low = more within.low (2 ^ 149);
        high = high (2 ^ 149) c.high h;
      }
    where
      more : v * b < 2 ^ 149 * a + l * b → (P : ℕ) → v * b < 2 ^ 149 * (a + t) + l * b
      more k P = le_trans k (add (2 ^ 149))
        where
          add : (P : ℕ) → P * a + l * b ≤ P * (a + t) + l * b
          add P = omega arith

      high : (P : ℕ) → 16 * P * a + 0 * b ≤ 16 * P * 0 + (16 * v + 15 * u) * b → 32 * P * t ≤ b → P * (a + t) < (v + u) * b
      high P k g = omega (arith, k, g, mul-le-mul_right b U, B)

  -- with t more below, where 32 * v * t is at most b
  within-less : (t : ℕ) → 32 * v * t ≤ b → NearerThan v l u a (b + t)
  within-less t h =
      record {
        low = low (2 ^ 149) c.low h;
        high = le_trans within.high (mul-le-mul_left (v + u) (omega arith));
      }
    where
      low : (P : ℕ) → 16 * v * b + 16 * P * 0 ≤ 16 * P * a + (0 + 15 * l) * b → 32 * v * t ≤ b → v * (b + t) < P * a + l * (b + t)
      low P k g = omega (arith, k, g, mul-le-mul_right b L, B)

module _ (n d v l u : ℕ) (D : 0 < d) (L : 0 < l) (U : 0 < u) where
  enclose : Later (λ k. Between (16 * 2 ^ 149) (16 * v) 0 (15 * l) (15 * u) (num one n d k) 0 (full d k)) → Enclosed n d v l u
  enclose S =
      let M = 32 * 2 ^ 149 in
      let k = S.0 + (2 * n + M * n ^ (2 * n)) in
      let small = small n d M D k (le-add_left (2 * n + M * n ^ (2 * n)) S.0) in
      let c = S.1 k (le-add_right S.0 (2 * n + M * n ^ (2 * n))) in
      record {
        terms = k;
        inside = inside n d k D small.0;
        lower = within v l u (num one n d k) (full d k) L U (full-pos d k D) c;
        upper = within_more v l u (num one n d k) (full d k) L U (full-pos d k D) c (n ^ k) small.1;
      }

  enclose-below : Later (λ k. Between (16 * 2 ^ 149) (16 * v) 0 (15 * l) (15 * u) (full d k) 0 (num one n d k)) → EnclosedBelow n d v l u
  enclose-below S =
      let M = 32 * v in
      let k = S.0 + (2 * n + M * n ^ (2 * n)) in
      let small = small n d M D k (le-add_left (2 * n + M * n ^ (2 * n)) S.0) in
      let c = S.1 k (le-add_right S.0 (2 * n + M * n ^ (2 * n))) in
      let P = le_trans (full-pos d k D) (above-one n d k) in
      record {
        terms = k;
        inside = inside n d k D small.0;
        upper = within v l u (full d k) (num one n d k) L U P c;
        lower = within-less v l u (full d k) (num one n d k) L U P c (n ^ k) (le_trans small.1 (above-one n d k));
      }

-- ---- every case
by-case : (x r : Float) → NearExp x r → EnclosedExp x r
by-case (fin false m e) (fin false n f) h = enclose (m * up e) (down e) (steps (fin false n f)) (ulp_below (fin false n f)) (ulp (fin false n f)) (down_pos e) (pow_pos (size (steps (fin false n f) - 1) - 24)) (pow_pos (size (steps (fin false n f)) - 24)) h
by-case (fin true m e) (fin false n f) h = enclose-below (m * up e) (down e) (steps (fin false n f)) (ulp_below (fin false n f)) (ulp (fin false n f)) (down_pos e) (pow_pos (size (steps (fin false n f) - 1) - 24)) (pow_pos (size (steps (fin false n f)) - 24)) h
by-case (fin false m e) (fin true n f) h = h
by-case (fin true m e) (fin true n f) h = h
by-case (fin false m e) nan h = h
by-case (fin true m e) nan h = h
by-case (fin false m e) (inf t) h = h
by-case (fin true m e) (inf t) h = h
by-case nan r h = h
by-case (inf s) r h = h

pub exp-enclosed : ExpEnclosed
exp-enclosed x F = by-case x (exp_of x) (exp-near x F)
