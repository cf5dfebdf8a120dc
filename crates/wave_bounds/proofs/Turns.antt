-- Sine and cosine at an angle a quarter, half or three quarters of a turn less or more: the addition theorems and cos² + sin² = 1, on partial sums with 64 terms.
-- All angles are y / 2 ^ 61 up to 5. part r y over `whole` is the class r at y, short by at most `rest` over `whole`, which is less than 2 ^ -100.
use mathlib.Core.Path.{◌≡◌, refl, sym, ap, ap₂, ◌∙◌, subst, subst₂}
use Prim.Native.Nat.{ℕ, zero, suc, ◌+◌, ◌*◌, ◌/◌, ◌^◌, ◌≤◌, ◌<◌}
use native.Mathlib.Nat.{le_trans, le_of_eq, le_refl, add_comm, add-le-add, mul-pos, mul_comm, mul-le-mul_left, mul-le-mul_right, le_of_mul-le-mul_right, pow-le-pow_left, div-mul-le_self, add_right_comm}
use native.Mathlib.Omega.{arith}
use lib.Dec.{lit<, lit≤}
use lib.Pow.{pow_pos}
use Rattle.series.specs.Series.{full, num, class}
use Rattle.series.proofs.Addition.{full-pos}
use Rattle.series.proofs.Fractions.{num-mono}
use Rattle.series.proofs.Weighted.{above}
use Rattle.series.proofs.Waves.{Enc4, plus}
use Rattle.series.proofs.SmallAngle.{class-le}
use Rattle.series.proofs.Pythagoras.{pythagoras}
use Rattle.waves.specs.SinCos.{quarter_turn, half_turn, three_quarters}

unfoldable pub whole : ℕ
unfolding full
whole = full (2 ^ 61) 64

unfoldable pub rest : ℕ
rest = (5 * 2 ^ 61) ^ 64

unfoldable pub part : ℕ → ℕ → ℕ
unfolding num class
part r y = num (class r) y (2 ^ 61) 64

pub whole_pos : 0 < whole
unfolding whole
whole_pos = full-pos (2 ^ 61) 64 (pow_pos 61)

rest-small : 2 ^ 100 * rest ≤ whole
unfolding whole rest full
rest-small = lit≤ tt

-- ---- the enclosures
module _ (y : ℕ) (small : y ≤ 5 * 2 ^ 61) where
  part_low : (r : ℕ) → part r y * full (2 ^ 61) 64 ≤ whole * num (class r) y (2 ^ 61) 64
  unfolding part whole
  part_low r = le_of_eq (mul_comm (num (class r) y (2 ^ 61) 64) (full (2 ^ 61) 64))

  part-high : (r k : ℕ) → whole * num (class r) y (2 ^ 61) k ≤ (part r y + rest) * full (2 ^ 61) k
  unfolding part whole rest
  part-high r =
      above (class r) (class-le r) y (2 ^ 61) (num (class r) y (2 ^ 61) 64 + (5 * 2 ^ 61) ^ 64) (full (2 ^ 61) 64) 64 (pow_pos 61) (omega arith)
      (le_trans (mul-le-mul_left (full (2 ^ 61) 64) (add-le-add (le_refl (num (class r) y (2 ^ 61) 64)) (pow-le-pow_left small 64))) (le_of_eq (mul_comm (full (2 ^ 61) 64) (num (class r) y (2 ^ 61) 64 + (5 * 2 ^ 61) ^ 64))))

  enclosed : Enc4 y (2 ^ 61) whole (part 0 y) (part 1 y) (part 2 y) (part 3 y) (part 0 y + rest) (part 1 y + rest) (part 2 y + rest) (part 3 y + rest)
  enclosed =
      record {
        at = 64;
        low0 = part_low 0;
        low1 = part_low 1;
        low2 = part_low 2;
        low3 = part_low 3;
        high0 = part-high 0;
        high1 = part-high 1;
        high2 = part-high 2;
        high3 = part-high 3;
      }

not-below : (r : ℕ) → suc (suc (suc (suc r))) < 4 → ⊥
not-below r g = omega arith

-- no class exceeds 256 up to 5, nor 8 up to 2
at_five : (r : ℕ) → r < 4 → num (class r) (5 * 2 ^ 61) (2 ^ 61) 64 ≤ 256 * whole
unfolding whole num full class
at_five zero h = lit≤ tt
at_five (suc zero) h = lit≤ tt
at_five (suc (suc zero)) h = lit≤ tt
at_five (suc (suc (suc zero))) h = lit≤ tt
at_five (suc (suc (suc (suc r)))) h = absurd (not-below r h)

at-two : (r : ℕ) → r < 4 → num (class r) (2 ^ 62) (2 ^ 61) 64 ≤ 8 * whole
unfolding whole num full class
at-two zero h = lit≤ tt
at-two (suc zero) h = lit≤ tt
at-two (suc (suc zero)) h = lit≤ tt
at-two (suc (suc (suc zero))) h = lit≤ tt
at-two (suc (suc (suc (suc r)))) h = absurd (not-below r h)

up-to-five : (y r : ℕ) → y ≤ 5 * 2 ^ 61 → r < 4 → part r y ≤ 256 * whole
unfolding part
up-to-five y r h k = le_trans (num-mono (class r) y (5 * 2 ^ 61) (2 ^ 61) 64 h) (at_five r k)

up-to-two : (y r : ℕ) → y ≤ 2 ^ 62 → r < 4 → part r y ≤ 8 * whole
unfolding part
up-to-two y r h k = le_trans (num-mono (class r) y (2 ^ 62) (2 ^ 61) 64 h) (at-two r k)

-- ---- four products, with both factors of each enlarged by W
module _ (F W : ℕ) (small : W ≤ F) where
  wide : (a₀ b₀ a₁ b₁ a₂ b₂ a₃ b₃ : ℕ) → a₀ ≤ 256 * F → b₀ ≤ 256 * F → a₁ ≤ 256 * F → b₁ ≤ 256 * F → a₂ ≤ 256 * F → b₂ ≤ 256 * F → a₃ ≤ 256 * F → b₃ ≤ 256 * F
      → (a₀ + W) * (b₀ + W) + (a₁ + W) * (b₁ + W) + (a₂ + W) * (b₂ + W) + (a₃ + W) * (b₃ + W) ≤ a₀ * b₀ + a₁ * b₁ + a₂ * b₂ + a₃ * b₃ + 4096 * (W * F)
  wide a₀ b₀ a₁ b₁ a₂ b₂ a₃ b₃ p₀ q₀ p₁ q₁ p₂ q₂ p₃ q₃ =
      let o₀ = one a₀ b₀ p₀ q₀ in
      let o₁ = one a₁ b₁ p₁ q₁ in
      let o₂ = one a₂ b₂ p₂ q₂ in
      let o₃ = one a₃ b₃ p₃ q₃ in
      sum ((a₀ + W) * (b₀ + W)) (a₀ * b₀) ((a₁ + W) * (b₁ + W)) (a₁ * b₁) ((a₂ + W) * (b₂ + W)) (a₂ * b₂) ((a₃ + W) * (b₃ + W)) (a₃ * b₃) (W * F) o₀ o₁ o₂ o₃
    where
      one : (a b : ℕ) → a ≤ 256 * F → b ≤ 256 * F → (a + W) * (b + W) ≤ a * b + 1024 * (W * F)
      one a b p q = omega (arith, mul-le-mul_left W p, mul-le-mul_left W q, mul-le-mul_left W small)

      sum : (x x' y y' z z' u u' w : ℕ) → x ≤ x' + 1024 * w → y ≤ y' + 1024 * w → z ≤ z' + 1024 * w → u ≤ u' + 1024 * w → x + y + z + u ≤ x' + y' + z' + u' + 4096 * w
      sum x x' y y' z z' u u' w a b c e = omega arith

-- two enclosures of one number meet
meet : (l m h m' f x : ℕ) → 0 < f → l * f ≤ m * x → m' * x ≤ h * f → l * m' ≤ h * m
meet l m h m' f x P a b = le_of_mul-le-mul_right {k = f} (omega (arith, mul-le-mul_right m' a, mul-le-mul_right m b)) P

-- q F is within w of the products' sum l, whose enlarged one is h
pub record Within (q F l w : ℕ) : Type 0 where
  pub low : l ≤ q * F + w
  pub high : q * F ≤ l + w

within : (F W q l h : ℕ) → 0 < F → l * F ≤ (q + W) * (F * F) → q * (F * F) ≤ h * F → h ≤ l + 4096 * (W * F) → Within q F l (4096 * (W * F))
within F W q l h P a b c = record { low = le_of_mul-le-mul_right {k = F} (omega (arith, a)) P; high = le_trans (le_of_mul-le-mul_right {k = F} (omega (arith, b)) P) c }

module _ (a b : ℕ) (A : a ≤ 5 * 2 ^ 61) (B : b ≤ 5 * 2 ^ 61) (C : a + b ≤ 5 * 2 ^ 61) where
  abbrev W' : ℕ
  W' = 4096 * (rest * whole)

  small : rest ≤ whole
  small = go rest whole rest-small
    where
      go : (x y : ℕ) → 2 ^ 100 * x ≤ y → x ≤ y
      go x y h = omega arith

  joined : Enc4 (a + b) (2 ^ 61) (whole * whole)
      (part 0 a * part 0 b + part 1 a * part 3 b + part 2 a * part 2 b + part 3 a * part 1 b)
      (part 0 a * part 1 b + part 1 a * part 0 b + part 2 a * part 3 b + part 3 a * part 2 b)
      (part 0 a * part 2 b + part 1 a * part 1 b + part 2 a * part 0 b + part 3 a * part 3 b)
      (part 0 a * part 3 b + part 1 a * part 2 b + part 2 a * part 1 b + part 3 a * part 0 b)
      ((part 0 a + rest) * (part 0 b + rest) + (part 1 a + rest) * (part 3 b + rest) + (part 2 a + rest) * (part 2 b + rest) + (part 3 a + rest) * (part 1 b + rest))
      ((part 0 a + rest) * (part 1 b + rest) + (part 1 a + rest) * (part 0 b + rest) + (part 2 a + rest) * (part 3 b + rest) + (part 3 a + rest) * (part 2 b + rest))
      ((part 0 a + rest) * (part 2 b + rest) + (part 1 a + rest) * (part 1 b + rest) + (part 2 a + rest) * (part 0 b + rest) + (part 3 a + rest) * (part 3 b + rest))
      ((part 0 a + rest) * (part 3 b + rest) + (part 1 a + rest) * (part 2 b + rest) + (part 2 a + rest) * (part 1 b + rest) + (part 3 a + rest) * (part 0 b + rest))
  joined = plus a b (2 ^ 61) whole (part 0 a) (part 1 a) (part 2 a) (part 3 a) (part 0 a + rest) (part 1 a + rest) (part 2 a + rest) (part 3 a + rest) whole (part 0 b) (part 1 b) (part 2 b) (part 3 b) (part 0 b + rest) (part 1 b + rest) (part 2 b + rest) (part 3 b + rest) (pow_pos 61) (enclosed a A) (enclosed b B)

  ca : (r : ℕ) → r < 4 → part r a ≤ 256 * whole
  ca r h = up-to-five a r A h

  cb : (r : ℕ) → r < 4 → part r b ≤ 256 * whole
  cb r h = up-to-five b r B h

  -- the class r of the sum: s₀ .. s₃ are the classes of b that go with 0 .. 3 of a
  at_sum : (r s₀ s₁ s₂ s₃ : ℕ) → s₀ < 4 → s₁ < 4 → s₂ < 4 → s₃ < 4
      → (part 0 a * part s₀ b + part 1 a * part s₁ b + part 2 a * part s₂ b + part 3 a * part s₃ b) * full (2 ^ 61) joined.at ≤ whole * whole * num (class r) (a + b) (2 ^ 61) joined.at
      → ((k : ℕ) → whole * whole * num (class r) (a + b) (2 ^ 61) k ≤ ((part 0 a + rest) * (part s₀ b + rest) + (part 1 a + rest) * (part s₁ b + rest) + (part 2 a + rest) * (part s₂ b + rest) + (part 3 a + rest) * (part s₃ b + rest)) * full (2 ^ 61) k)
      → Within (part r (a + b)) whole (part 0 a * part s₀ b + part 1 a * part s₁ b + part 2 a * part s₂ b + part 3 a * part s₃ b) W'
  at_sum r s₀ s₁ s₂ s₃ h₀ h₁ h₂ h₃ lo hi =
      let l = part 0 a * part s₀ b + part 1 a * part s₁ b + part 2 a * part s₂ b + part 3 a * part s₃ b in
      let h = (part 0 a + rest) * (part s₀ b + rest) + (part 1 a + rest) * (part s₁ b + rest) + (part 2 a + rest) * (part s₂ b + rest) + (part 3 a + rest) * (part s₃ b + rest) in
      let k = joined.at in
      within whole rest (part r (a + b)) l h whole_pos
      (meet l (whole * whole) (part r (a + b) + rest) whole (full (2 ^ 61) k) (num (class r) (a + b) (2 ^ 61) k) (full-pos (2 ^ 61) k (pow_pos 61)) lo (part-high (a + b) C r k))
      (meet (part r (a + b)) whole h (whole * whole) (full (2 ^ 61) 64) (num (class r) (a + b) (2 ^ 61) 64) (full-pos (2 ^ 61) 64 (pow_pos 61)) (part_low (a + b) C r) (hi 64))
      (wide whole rest small (part 0 a) (part s₀ b) (part 1 a) (part s₁ b) (part 2 a) (part s₂ b) (part 3 a) (part s₃ b) (ca 0 (lit< tt)) (cb s₀ h₀) (ca 1 (lit< tt)) (cb s₁ h₁) (ca 2 (lit< tt)) (cb s₂ h₂) (ca 3 (lit< tt)) (cb s₃ h₃))

  sum-0 : Within (part 0 (a + b)) whole (part 0 a * part 0 b + part 1 a * part 3 b + part 2 a * part 2 b + part 3 a * part 1 b) W'
  sum-0 = at_sum 0 0 3 2 1 (lit< tt) (lit< tt) (lit< tt) (lit< tt) joined.low0 joined.high0

  sum-1 : Within (part 1 (a + b)) whole (part 0 a * part 1 b + part 1 a * part 0 b + part 2 a * part 3 b + part 3 a * part 2 b) W'
  sum-1 = at_sum 1 1 0 3 2 (lit< tt) (lit< tt) (lit< tt) (lit< tt) joined.low1 joined.high1

  sum-2 : Within (part 2 (a + b)) whole (part 0 a * part 2 b + part 1 a * part 1 b + part 2 a * part 0 b + part 3 a * part 3 b) W'
  sum-2 = at_sum 2 2 1 0 3 (lit< tt) (lit< tt) (lit< tt) (lit< tt) joined.low2 joined.high2

  sum-3 : Within (part 3 (a + b)) whole (part 0 a * part 3 b + part 1 a * part 2 b + part 2 a * part 1 b + part 3 a * part 0 b) W'
  sum-3 = at_sum 3 3 2 1 0 (lit< tt) (lit< tt) (lit< tt) (lit< tt) joined.low3 joined.high3

-- ---- cos² + sin² = 1 at b
module _ (b : ℕ) (B : b ≤ 5 * 2 ^ 61) where
  abbrev squares : ℕ
  squares = part 0 b * part 0 b + part 1 b * part 1 b + part 2 b * part 2 b + part 3 b * part 3 b

  abbrev crossed : ℕ
  crossed = part 0 b * part 2 b + part 1 b * part 3 b + part 2 b * part 0 b + part 3 b * part 1 b

  cap : (r : ℕ) → r < 4 → part r b ≤ 256 * whole
  cap r h = up-to-five b r B h

  circle : (squares ≤ whole * whole + crossed + 4096 * (rest * whole)) × (whole * whole + crossed ≤ squares + 4096 * (rest * whole))
  circle =
      let p = pythagoras b (2 ^ 61) whole (part 0 b) (part 1 b) (part 2 b) (part 3 b) (part 0 b + rest) (part 1 b + rest) (part 2 b + rest) (part 3 b + rest) (pow_pos 61) (enclosed b B) in
      let s = small 0 0 (lit≤ tt) (lit≤ tt) (lit≤ tt) in
      let c₀ = cap 0 (lit< tt) in
      let c₁ = cap 1 (lit< tt) in
      let c₂ = cap 2 (lit< tt) in
      let c₃ = cap 3 (lit< tt) in (
        go (whole * whole) squares crossed (4096 * (rest * whole)) _ p.0 (wide whole rest s (part 0 b) (part 2 b) (part 1 b) (part 3 b) (part 2 b) (part 0 b) (part 3 b) (part 1 b) c₀ c₂ c₁ c₃ c₂ c₀ c₃ c₁),
        le_trans p.1 (wide whole rest s (part 0 b) (part 0 b) (part 1 b) (part 1 b) (part 2 b) (part 2 b) (part 3 b) (part 3 b) c₀ c₀ c₁ c₁ c₂ c₂ c₃ c₃),
      )
    where
      go : (m s c w h : ℕ) → s ≤ m + h → h ≤ c + w → s ≤ m + c + w
      go m s c w h a e = omega arith

-- ---- plain numbers: r₀ .. r₃ are the classes of the small angle, p₀ .. p₃ those of the turn, x₀ .. x₃ those of the angle; F is `whole`
-- the distance from xa - xb to r₁ - r₃ is at most D
pub record Alike (xa xb r₁ r₃ D : ℕ) : Type 0 where
  pub low : xa + r₃ ≤ xb + r₁ + D
  pub high : xb + r₁ ≤ xa + r₃ + D

-- four products
four-le : (w l₀ l₁ l₂ l₃ q₀ q₁ q₂ q₃ s₀ s₁ s₂ s₃ : ℕ) → l₀ ≤ q₀ + w → l₁ ≤ q₁ + w → l₂ ≤ q₂ + w → l₃ ≤ q₃ + w → l₀ * s₀ + l₁ * s₁ + l₂ * s₂ + l₃ * s₃ ≤ q₀ * s₀ + q₁ * s₁ + q₂ * s₂ + q₃ * s₃ + w * (s₀ + s₁ + s₂ + s₃)
four-le w l₀ l₁ l₂ l₃ q₀ q₁ q₂ q₃ s₀ s₁ s₂ s₃ a b c e = omega (arith, mul-le-mul_right s₀ a, mul-le-mul_right s₁ b, mul-le-mul_right s₂ c, mul-le-mul_right s₃ e)

-- the turn's sine and cosine are δ from 0 and 1, or 0 and -1: a - b is about F, and c - e about 0
module _ (F δ a b c e r₀ r₁ r₂ r₃ : ℕ) (h : a ≤ b + F + δ) (k : b + F ≤ a + δ) (l : c ≤ e + δ) (m : e ≤ c + δ) where
  turn_low : a * r₁ + b * r₃ + c * r₀ + e * r₂ + F * r₃ ≤ a * r₃ + b * r₁ + c * r₂ + e * r₀ + F * r₁ + δ * (r₀ + r₁ + r₂ + r₃)
  turn_low = omega (arith, mul-le-mul_right r₁ h, mul-le-mul_right r₃ k, mul-le-mul_right r₀ l, mul-le-mul_right r₂ m)

  turn-high : a * r₃ + b * r₁ + c * r₂ + e * r₀ + F * r₁ ≤ a * r₁ + b * r₃ + c * r₀ + e * r₂ + F * r₃ + δ * (r₀ + r₁ + r₂ + r₃)
  turn-high = omega (arith, mul-le-mul_right r₃ h, mul-le-mul_right r₁ k, mul-le-mul_right r₂ l, mul-le-mul_right r₀ m)

-- from cos² + sin² = 1
circle-low : (xa xb s g m w : ℕ) → s ≤ m + g + w → m + g ≤ s + w → (N : ℕ) → xa * m + (N + xa * g + xb * s) ≤ xb * m + (N + xa * s + xb * g) + (xa + xb) * w
circle-low xa xb s g m w h k N = omega (arith, mul-le-mul_left xa k, mul-le-mul_left xb h)

-- all that is off, over F²
module _ (F W δ ρ xa xb r₁ r₃ : ℕ) (P : 0 < F) (R : ρ ≤ 32 * F) (A : xa ≤ 256 * F) (B : xb ≤ 256 * F) where
  abbrev off : ℕ
  off = 0x40_0000 * W + 32 * δ

  -- the angle is a turn less the small one: M and M' are products of the sums, Q and Q' of the turn
  less : (M M' Q Q' : ℕ) → xa * (F * F) + M' ≤ xb * (F * F) + M + (xa + xb) * (4096 * (W * F)) → F * Q' ≤ M' + 4096 * (W * F) * ρ → M ≤ F * Q + 4096 * (W * F) * ρ → Q + F * r₃ ≤ Q' + F * r₁ + δ * ρ
      → xa + r₃ ≤ xb + r₁ + off
  less M M' Q Q' a b c e =
      le_of_mul-le-mul_right {k = F * F}
      (go (W * F) (mul-le-mul_right F e) (mul-le-mul_left (W * F) R) (mul-le-mul_left (W * F) A) (mul-le-mul_left (W * F) B) (mul-le-mul_left (δ * F) R)) (mul-pos P P)
    where
      go : (w : ℕ) → (Q + F * r₃) * F ≤ (Q' + F * r₁ + δ * ρ) * F → W * F * ρ ≤ W * F * (32 * F) → W * F * xa ≤ W * F * (256 * F) → W * F * xb ≤ W * F * (256 * F) → δ * F * ρ ≤ δ * F * (32 * F)
          → (xa + r₃) * (F * F) ≤ (xb + r₁ + off) * (F * F)
      go w f g h i j = omega (arith, a, b, c, f, g, h, i, j)

  -- the angle is a turn and the small one
  more : (Q Q' : ℕ) → xa * F ≤ Q + 4096 * (W * F) → Q' ≤ xb * F + 4096 * (W * F) → Q + F * r₃ ≤ Q' + F * r₁ + δ * ρ → xa + r₃ ≤ xb + r₁ + off
  more Q Q' a b e = le_of_mul-le-mul_right {k = F} (omega (arith, a, b, e, mul-le-mul_left δ R)) P

  less-side : (M M' Q Q' N s g : ℕ) → M ≡ N + xa * s + xb * g → M' ≡ N + xa * g + xb * s → s ≤ F * F + g + 4096 * (W * F) → F * F + g ≤ s + 4096 * (W * F)
      → F * Q' ≤ M' + 4096 * (W * F) * ρ → M ≤ F * Q + 4096 * (W * F) * ρ → Q + F * r₃ ≤ Q' + F * r₁ + δ * ρ → xa + r₃ ≤ xb + r₁ + off
  less-side M M' Q Q' N s g e e' c c' q q' t =
      less M M' Q Q' (subst₂ (λ (x y : ℕ). xa * (F * F) + y ≤ xb * (F * F) + x + (xa + xb) * (4096 * (W * F))) (sym e) (sym e') (circle-low xa xb s g (F * F) (4096 * (W * F)) c c' N)) q q' t

-- ---- the products with the classes of the small angle turned back
collect : (x₀ x₁ x₂ x₃ a₀ b₀ c₀ e₀ a₁ b₁ c₁ e₁ a₂ b₂ c₂ e₂ a₃ b₃ c₃ e₃ t₀ t₁ t₂ t₃ : ℕ) → (x₀ * a₀ + x₁ * b₀ + x₂ * c₀ + x₃ * e₀) * t₀ + (x₀ * a₁ + x₁ * b₁ + x₂ * c₁ + x₃ * e₁) * t₁ + (x₀ * a₂ + x₁ * b₂ + x₂ * c₂ + x₃ * e₂) * t₂ + (x₀ * a₃ + x₁ * b₃ + x₂ * c₃ + x₃ * e₃) * t₃ ≡ x₀ * (a₀ * t₀ + a₁ * t₁ + a₂ * t₂ + a₃ * t₃) + x₁ * (b₀ * t₀ + b₁ * t₁ + b₂ * t₂ + b₃ * t₃) + x₂ * (c₀ * t₀ + c₁ * t₁ + c₂ * t₂ + c₃ * t₃) + x₃ * (e₀ * t₀ + e₁ * t₁ + e₂ * t₂ + e₃ * t₃)
collect x₀ x₁ x₂ x₃ a₀ b₀ c₀ e₀ a₁ b₁ c₁ e₁ a₂ b₂ c₂ e₂ a₃ b₃ c₃ e₃ t₀ t₁ t₂ t₃ = ap₂ (λ (u v : ℕ). u + v) (ap₂ (λ (u v : ℕ). u + v) (ap₂ (λ (u v : ℕ). u + v) (column a₀ b₀ c₀ e₀ t₀) (column a₁ b₁ c₁ e₁ t₁)) (column a₂ b₂ c₂ e₂ t₂)) (column a₃ b₃ c₃ e₃ t₃) ∙ rows (a₀ * t₀) (b₀ * t₀) (c₀ * t₀) (e₀ * t₀) (a₁ * t₁) (b₁ * t₁) (c₁ * t₁) (e₁ * t₁) (a₂ * t₂) (b₂ * t₂) (c₂ * t₂) (e₂ * t₂) (a₃ * t₃) (b₃ * t₃) (c₃ * t₃) (e₃ * t₃)
  where
    column : (a b c e t : ℕ) → (x₀ * a + x₁ * b + x₂ * c + x₃ * e) * t ≡ x₀ * (a * t) + x₁ * (b * t) + x₂ * (c * t) + x₃ * (e * t)
    column a b c e t = omega arith

    two : (p q r s p' q' r' s' : ℕ) → x₀ * p + x₁ * q + x₂ * r + x₃ * s + (x₀ * p' + x₁ * q' + x₂ * r' + x₃ * s') ≡ x₀ * (p + p') + x₁ * (q + q') + x₂ * (r + r') + x₃ * (s + s')
    two p q r s p' q' r' s' = omega arith

    rows : (p₀ q₀ r₀ s₀ p₁ q₁ r₁ s₁ p₂ q₂ r₂ s₂ p₃ q₃ r₃ s₃ : ℕ) → x₀ * p₀ + x₁ * q₀ + x₂ * r₀ + x₃ * s₀ + (x₀ * p₁ + x₁ * q₁ + x₂ * r₁ + x₃ * s₁) + (x₀ * p₂ + x₁ * q₂ + x₂ * r₂ + x₃ * s₂) + (x₀ * p₃ + x₁ * q₃ + x₂ * r₃ + x₃ * s₃) ≡ x₀ * (p₀ + p₁ + p₂ + p₃) + x₁ * (q₀ + q₁ + q₂ + q₃) + x₂ * (r₀ + r₁ + r₂ + r₃) + x₃ * (s₀ + s₁ + s₂ + s₃)
    rows p₀ q₀ r₀ s₀ p₁ q₁ r₁ s₁ p₂ q₂ r₂ s₂ p₃ q₃ r₃ s₃ = ap (λ (u : ℕ). u + (x₀ * p₂ + x₁ * q₂ + x₂ * r₂ + x₃ * s₂) + (x₀ * p₃ + x₁ * q₃ + x₂ * r₃ + x₃ * s₃)) (two p₀ q₀ r₀ s₀ p₁ q₁ r₁ s₁) ∙ ap (λ (u : ℕ). u + (x₀ * p₃ + x₁ * q₃ + x₂ * r₃ + x₃ * s₃)) (two (p₀ + p₁) (q₀ + q₁) (r₀ + r₁) (s₀ + s₁) p₂ q₂ r₂ s₂) ∙ two (p₀ + p₁ + p₂) (q₀ + q₁ + q₂) (r₀ + r₁ + r₂) (s₀ + s₁ + s₂) p₃ q₃ r₃ s₃

module _ (x₀ x₁ x₂ x₃ r₀ r₁ r₂ r₃ : ℕ) where
  at-0 : (x₀ * r₀ + x₁ * r₃ + x₂ * r₂ + x₃ * r₁) * r₀ + (x₀ * r₁ + x₁ * r₀ + x₂ * r₃ + x₃ * r₂) * r₁ + (x₀ * r₂ + x₁ * r₁ + x₂ * r₀ + x₃ * r₃) * r₂ + (x₀ * r₃ + x₁ * r₂ + x₂ * r₁ + x₃ * r₀) * r₃ ≡ (x₁ + x₃) * (r₀ * r₃ + r₁ * r₀ + r₂ * r₁ + r₃ * r₂) + x₀ * (r₀ * r₀ + r₁ * r₁ + r₂ * r₂ + r₃ * r₃) + x₂ * (r₀ * r₂ + r₁ * r₃ + r₂ * r₀ + r₃ * r₁)
  at-0 = collect x₀ x₁ x₂ x₃ r₀ r₃ r₂ r₁ r₁ r₀ r₃ r₂ r₂ r₁ r₀ r₃ r₃ r₂ r₁ r₀ r₀ r₁ r₂ r₃ ∙ ap₂ (λ (u v : ℕ). x₀ * u + x₁ * v + x₂ * (r₂ * r₀ + r₃ * r₁ + r₀ * r₂ + r₁ * r₃) + x₃ * (r₁ * r₀ + r₂ * r₁ + r₃ * r₂ + r₀ * r₃)) i₀ i₁ ∙ ap₂ (λ (u v : ℕ). x₀ * (r₀ * r₀ + r₁ * r₁ + r₂ * r₂ + r₃ * r₃) + x₁ * (r₀ * r₃ + r₁ * r₀ + r₂ * r₁ + r₃ * r₂) + x₂ * u + x₃ * v) i₂ i₃ ∙ turn (r₀ * r₃ + r₁ * r₀ + r₂ * r₁ + r₃ * r₂) (r₀ * r₀ + r₁ * r₁ + r₂ * r₂ + r₃ * r₃) (r₀ * r₂ + r₁ * r₃ + r₂ * r₀ + r₃ * r₁)
    where
      i₀ : r₀ * r₀ + r₁ * r₁ + r₂ * r₂ + r₃ * r₃ ≡ r₀ * r₀ + r₁ * r₁ + r₂ * r₂ + r₃ * r₃
      i₀ = omega arith

      i₁ : r₃ * r₀ + r₀ * r₁ + r₁ * r₂ + r₂ * r₃ ≡ r₀ * r₃ + r₁ * r₀ + r₂ * r₁ + r₃ * r₂
      i₁ = omega arith

      i₂ : r₂ * r₀ + r₃ * r₁ + r₀ * r₂ + r₁ * r₃ ≡ r₀ * r₂ + r₁ * r₃ + r₂ * r₀ + r₃ * r₁
      i₂ = omega arith

      i₃ : r₁ * r₀ + r₂ * r₁ + r₃ * r₂ + r₀ * r₃ ≡ r₀ * r₃ + r₁ * r₀ + r₂ * r₁ + r₃ * r₂
      i₃ = omega arith

      turn : (o s g : ℕ) → x₀ * s + x₁ * o + x₂ * g + x₃ * o ≡ (x₁ + x₃) * o + x₀ * s + x₂ * g
      turn o s g = omega arith

  -- the classes x turned by one turn the products by one
  turned : (s₀ s₁ s₂ s₃ : ℕ) → (x₀ * r₀ + x₁ * r₃ + x₂ * r₂ + x₃ * r₁) * s₃ + (x₀ * r₁ + x₁ * r₀ + x₂ * r₃ + x₃ * r₂) * s₀ + (x₀ * r₂ + x₁ * r₁ + x₂ * r₀ + x₃ * r₃) * s₁ + (x₀ * r₃ + x₁ * r₂ + x₂ * r₁ + x₃ * r₀) * s₂ ≡ (x₁ * r₀ + x₂ * r₃ + x₃ * r₂ + x₀ * r₁) * s₀ + (x₁ * r₁ + x₂ * r₀ + x₃ * r₃ + x₀ * r₂) * s₁ + (x₁ * r₂ + x₂ * r₁ + x₃ * r₀ + x₀ * r₃) * s₂ + (x₁ * r₃ + x₂ * r₂ + x₃ * r₁ + x₀ * r₀) * s₃
  turned s₀ s₁ s₂ s₃ =
      around ((x₀ * r₀ + x₁ * r₃ + x₂ * r₂ + x₃ * r₁) * s₃) ((x₀ * r₁ + x₁ * r₀ + x₂ * r₃ + x₃ * r₂) * s₀) ((x₀ * r₂ + x₁ * r₁ + x₂ * r₀ + x₃ * r₃) * s₁) ((x₀ * r₃ + x₁ * r₂ + x₂ * r₁ + x₃ * r₀) * s₂)
      ∙ ap₂ (λ (u v : ℕ). u + v) (ap₂ (λ (u v : ℕ). u + v) (ap₂ (λ (u v : ℕ). u + v) (times s₀ r₁ r₀ r₃ r₂) (times s₁ r₂ r₁ r₀ r₃)) (times s₂ r₃ r₂ r₁ r₀)) (times s₃ r₀ r₃ r₂ r₁)
    where
      around : (a b c d : ℕ) → a + b + c + d ≡ b + c + d + a
      around a b c d = omega arith

      times : (s a b c d : ℕ) → (x₀ * a + x₁ * b + x₂ * c + x₃ * d) * s ≡ (x₁ * b + x₂ * c + x₃ * d + x₀ * a) * s
      times s a b c d = ap (λ (u : ℕ). u * s) (around (x₀ * a) (x₁ * b) (x₂ * c) (x₃ * d))

module _ (x₀ x₁ x₂ x₃ r₀ r₁ r₂ r₃ : ℕ) where
  at_1 : (x₀ * r₀ + x₁ * r₃ + x₂ * r₂ + x₃ * r₁) * r₃ + (x₀ * r₁ + x₁ * r₀ + x₂ * r₃ + x₃ * r₂) * r₀ + (x₀ * r₂ + x₁ * r₁ + x₂ * r₀ + x₃ * r₃) * r₁ + (x₀ * r₃ + x₁ * r₂ + x₂ * r₁ + x₃ * r₀) * r₂ ≡ (x₀ + x₂) * (r₀ * r₃ + r₁ * r₀ + r₂ * r₁ + r₃ * r₂) + x₁ * (r₀ * r₀ + r₁ * r₁ + r₂ * r₂ + r₃ * r₃) + x₃ * (r₀ * r₂ + r₁ * r₃ + r₂ * r₀ + r₃ * r₁)
  at_1 = turned x₀ x₁ x₂ x₃ r₀ r₁ r₂ r₃ r₀ r₁ r₂ r₃ ∙ at-0 x₁ x₂ x₃ x₀ r₀ r₁ r₂ r₃ ∙ ap (λ (u : ℕ). u * (r₀ * r₃ + r₁ * r₀ + r₂ * r₁ + r₃ * r₂) + x₁ * (r₀ * r₀ + r₁ * r₁ + r₂ * r₂ + r₃ * r₃) + x₃ * (r₀ * r₂ + r₁ * r₃ + r₂ * r₀ + r₃ * r₁)) (add_comm x₂ x₀)

module _ (x₀ x₁ x₂ x₃ r₀ r₁ r₂ r₃ : ℕ) where
  at-2 : (x₀ * r₀ + x₁ * r₃ + x₂ * r₂ + x₃ * r₁) * r₂ + (x₀ * r₁ + x₁ * r₀ + x₂ * r₃ + x₃ * r₂) * r₃ + (x₀ * r₂ + x₁ * r₁ + x₂ * r₀ + x₃ * r₃) * r₀ + (x₀ * r₃ + x₁ * r₂ + x₂ * r₁ + x₃ * r₀) * r₁ ≡ (x₁ + x₃) * (r₀ * r₃ + r₁ * r₀ + r₂ * r₁ + r₃ * r₂) + x₀ * (r₀ * r₂ + r₁ * r₃ + r₂ * r₀ + r₃ * r₁) + x₂ * (r₀ * r₀ + r₁ * r₁ + r₂ * r₂ + r₃ * r₃)
  at-2 = turned x₀ x₁ x₂ x₃ r₀ r₁ r₂ r₃ r₃ r₀ r₁ r₂ ∙ at_1 x₁ x₂ x₃ x₀ r₀ r₁ r₂ r₃ ∙ add_right_comm ((x₁ + x₃) * (r₀ * r₃ + r₁ * r₀ + r₂ * r₁ + r₃ * r₂)) (x₂ * (r₀ * r₀ + r₁ * r₁ + r₂ * r₂ + r₃ * r₃)) (x₀ * (r₀ * r₂ + r₁ * r₃ + r₂ * r₀ + r₃ * r₁))

module _ (x₀ x₁ x₂ x₃ r₀ r₁ r₂ r₃ : ℕ) where
  at-3 : (x₀ * r₀ + x₁ * r₃ + x₂ * r₂ + x₃ * r₁) * r₁ + (x₀ * r₁ + x₁ * r₀ + x₂ * r₃ + x₃ * r₂) * r₂ + (x₀ * r₂ + x₁ * r₁ + x₂ * r₀ + x₃ * r₃) * r₃ + (x₀ * r₃ + x₁ * r₂ + x₂ * r₁ + x₃ * r₀) * r₀ ≡ (x₀ + x₂) * (r₀ * r₃ + r₁ * r₀ + r₂ * r₁ + r₃ * r₂) + x₁ * (r₀ * r₂ + r₁ * r₃ + r₂ * r₀ + r₃ * r₁) + x₃ * (r₀ * r₀ + r₁ * r₁ + r₂ * r₂ + r₃ * r₃)
  at-3 = turned x₀ x₁ x₂ x₃ r₀ r₁ r₂ r₃ r₂ r₃ r₀ r₁ ∙ at-2 x₁ x₂ x₃ x₀ r₀ r₁ r₂ r₃ ∙ swap (x₁ * (r₀ * r₂ + r₁ * r₃ + r₂ * r₀ + r₃ * r₁)) (x₃ * (r₀ * r₀ + r₁ * r₁ + r₂ * r₂ + r₃ * r₃))
    where
      swap : (a b : ℕ) → (x₂ + x₀) * (r₀ * r₃ + r₁ * r₀ + r₂ * r₁ + r₃ * r₂) + a + b ≡ (x₀ + x₂) * (r₀ * r₃ + r₁ * r₀ + r₂ * r₁ + r₃ * r₂) + a + b
      swap a b = ap (λ (u : ℕ). u * (r₀ * r₃ + r₁ * r₀ + r₂ * r₁ + r₃ * r₂) + a + b) (add_comm x₂ x₀)

-- ---- the classes of an angle that is a turn less the small one
module _ (F W δ x₀ x₁ x₂ x₃ r₀ r₁ r₂ r₃ p₀ p₁ p₂ p₃ : ℕ) (P : 0 < F)
    (c₀ : x₀ ≤ 256 * F) (c₁ : x₁ ≤ 256 * F) (c₂ : x₂ ≤ 256 * F) (c₃ : x₃ ≤ 256 * F) (ρ : r₀ + r₁ + r₂ + r₃ ≤ 32 * F)
    (s₀ : Within p₀ F (x₀ * r₀ + x₁ * r₃ + x₂ * r₂ + x₃ * r₁) (4096 * (W * F)))
    (s₁ : Within p₁ F (x₀ * r₁ + x₁ * r₀ + x₂ * r₃ + x₃ * r₂) (4096 * (W * F)))
    (s₂ : Within p₂ F (x₀ * r₂ + x₁ * r₁ + x₂ * r₀ + x₃ * r₃) (4096 * (W * F)))
    (s₃ : Within p₃ F (x₀ * r₃ + x₁ * r₂ + x₂ * r₁ + x₃ * r₀) (4096 * (W * F)))
    (o : r₀ * r₀ + r₁ * r₁ + r₂ * r₂ + r₃ * r₃ ≤ F * F + (r₀ * r₂ + r₁ * r₃ + r₂ * r₀ + r₃ * r₁) + 4096 * (W * F))
    (o' : F * F + (r₀ * r₂ + r₁ * r₃ + r₂ * r₀ + r₃ * r₁) ≤ r₀ * r₀ + r₁ * r₁ + r₂ * r₂ + r₃ * r₃ + 4096 * (W * F)) where
  abbrev l₀ : ℕ
  l₀ = x₀ * r₀ + x₁ * r₃ + x₂ * r₂ + x₃ * r₁

  abbrev l₁ : ℕ
  l₁ = x₀ * r₁ + x₁ * r₀ + x₂ * r₃ + x₃ * r₂

  abbrev l₂ : ℕ
  l₂ = x₀ * r₂ + x₁ * r₁ + x₂ * r₀ + x₃ * r₃

  abbrev l₃ : ℕ
  l₃ = x₀ * r₃ + x₁ * r₂ + x₂ * r₁ + x₃ * r₀

  abbrev sq : ℕ
  sq = r₀ * r₀ + r₁ * r₁ + r₂ * r₂ + r₃ * r₃

  abbrev cr : ℕ
  cr = r₀ * r₂ + r₁ * r₃ + r₂ * r₀ + r₃ * r₁

  abbrev odd : ℕ
  odd = r₀ * r₃ + r₁ * r₀ + r₂ * r₁ + r₃ * r₂

  flat : (t₀ t₁ t₂ t₃ a b c d : ℕ) → F * (a * t₀ + b * t₁ + c * t₂ + d * t₃) ≡ a * F * t₀ + b * F * t₁ + c * F * t₂ + d * F * t₃
  flat t₀ t₁ t₂ t₃ a b c d = omega arith

  over : (t₀ t₁ t₂ t₃ : ℕ) → t₀ + t₁ + t₂ + t₃ ≡ r₀ + r₁ + r₂ + r₃ → F * (p₀ * t₀ + p₁ * t₁ + p₂ * t₂ + p₃ * t₃) ≤ l₀ * t₀ + l₁ * t₁ + l₂ * t₂ + l₃ * t₃ + 4096 * (W * F) * (r₀ + r₁ + r₂ + r₃)
  over t₀ t₁ t₂ t₃ e = subst (λ (x : ℕ). F * (p₀ * t₀ + p₁ * t₁ + p₂ * t₂ + p₃ * t₃) ≤ l₀ * t₀ + l₁ * t₁ + l₂ * t₂ + l₃ * t₃ + 4096 * (W * F) * x) e (le_trans (le_of_eq (flat t₀ t₁ t₂ t₃ p₀ p₁ p₂ p₃)) (four-le (4096 * (W * F)) (p₀ * F) (p₁ * F) (p₂ * F) (p₃ * F) l₀ l₁ l₂ l₃ t₀ t₁ t₂ t₃ s₀.high s₁.high s₂.high s₃.high))

  under : (t₀ t₁ t₂ t₃ : ℕ) → t₀ + t₁ + t₂ + t₃ ≡ r₀ + r₁ + r₂ + r₃ → l₀ * t₀ + l₁ * t₁ + l₂ * t₂ + l₃ * t₃ ≤ F * (p₀ * t₀ + p₁ * t₁ + p₂ * t₂ + p₃ * t₃) + 4096 * (W * F) * (r₀ + r₁ + r₂ + r₃)
  under t₀ t₁ t₂ t₃ e = subst (λ (x : ℕ). l₀ * t₀ + l₁ * t₁ + l₂ * t₂ + l₃ * t₃ ≤ F * (p₀ * t₀ + p₁ * t₁ + p₂ * t₂ + p₃ * t₃) + 4096 * (W * F) * x) e (le_trans (four-le (4096 * (W * F)) l₀ l₁ l₂ l₃ (p₀ * F) (p₁ * F) (p₂ * F) (p₃ * F) t₀ t₁ t₂ t₃ s₀.low s₁.low s₂.low s₃.low) (le_of_eq (ap (λ (x : ℕ). x + 4096 * (W * F) * (t₀ + t₁ + t₂ + t₃)) (sym (flat t₀ t₁ t₂ t₃ p₀ p₁ p₂ p₃)))))

  abbrev off' : ℕ
  off' = 0x40_0000 * W + 32 * δ

  both : (xa xb : ℕ) → xa ≤ 256 * F → xb ≤ 256 * F → (M M' Q Q' N : ℕ) → M ≡ N + xa * sq + xb * cr → M' ≡ N + xa * cr + xb * sq
      → F * Q ≤ M + 4096 * (W * F) * (r₀ + r₁ + r₂ + r₃) → M ≤ F * Q + 4096 * (W * F) * (r₀ + r₁ + r₂ + r₃) → F * Q' ≤ M' + 4096 * (W * F) * (r₀ + r₁ + r₂ + r₃) → M' ≤ F * Q' + 4096 * (W * F) * (r₀ + r₁ + r₂ + r₃)
      → Q + F * r₃ ≤ Q' + F * r₁ + δ * (r₀ + r₁ + r₂ + r₃) → Q' + F * r₁ ≤ Q + F * r₃ + δ * (r₀ + r₁ + r₂ + r₃) → Alike xa xb r₁ r₃ off'
  both xa xb A B M M' Q Q' N e e' q₁ q₂ q₃ q₄ t t' =
      record {
        low = less-side F W δ (r₀ + r₁ + r₂ + r₃) xa xb r₁ r₃ P ρ A B M M' Q Q' N sq cr e e' o o' q₃ q₂ t;
        high = less-side F W δ (r₀ + r₁ + r₂ + r₃) xb xa r₃ r₁ P ρ B A M' M Q' Q N sq cr (e' ∙ add_right_comm N (xa * cr) (xb * sq)) (e ∙ add_right_comm N (xa * sq) (xb * cr)) o o' q₁ q₄ t';
      }

  turned-1 : r₃ + r₀ + r₁ + r₂ ≡ r₀ + r₁ + r₂ + r₃
  turned-1 = omega arith

  turned-3 : r₁ + r₂ + r₃ + r₀ ≡ r₀ + r₁ + r₂ + r₃
  turned-3 = omega arith

  turned-2 : r₂ + r₃ + r₀ + r₁ ≡ r₀ + r₁ + r₂ + r₃
  turned-2 = omega arith

  -- the sine, half a turn less the angle
  sine-less : p₂ ≤ p₀ + F + δ → p₀ + F ≤ p₂ + δ → p₁ ≤ p₃ + δ → p₃ ≤ p₁ + δ → Alike x₁ x₃ r₁ r₃ off'
  sine-less h k l m =
      both x₁ x₃ c₁ c₃ (l₀ * r₃ + l₁ * r₀ + l₂ * r₁ + l₃ * r₂) (l₀ * r₁ + l₁ * r₂ + l₂ * r₃ + l₃ * r₀) (p₀ * r₃ + p₁ * r₀ + p₂ * r₁ + p₃ * r₂) (p₀ * r₁ + p₁ * r₂ + p₂ * r₃ + p₃ * r₀) ((x₀ + x₂) * odd) (at_1 x₀ x₁ x₂ x₃ r₀ r₁ r₂ r₃) (at-3 x₀ x₁ x₂ x₃ r₀ r₁ r₂ r₃)
      (over r₃ r₀ r₁ r₂ turned-1) (under r₃ r₀ r₁ r₂ turned-1) (over r₁ r₂ r₃ r₀ turned-3) (under r₁ r₂ r₃ r₀ turned-3)
      (order (p₂ * r₁) (p₀ * r₃) (p₁ * r₀) (p₃ * r₂) (F * r₃) (p₂ * r₃) (p₀ * r₁) (p₁ * r₂) (p₃ * r₀) (F * r₁) (δ * (r₀ + r₁ + r₂ + r₃)) (turn_low F δ p₂ p₀ p₁ p₃ r₀ r₁ r₂ r₃ h k l m))
      (order (p₂ * r₃) (p₀ * r₁) (p₁ * r₂) (p₃ * r₀) (F * r₁) (p₂ * r₁) (p₀ * r₃) (p₁ * r₀) (p₃ * r₂) (F * r₃) (δ * (r₀ + r₁ + r₂ + r₃)) (turn-high F δ p₂ p₀ p₁ p₃ r₀ r₁ r₂ r₃ h k l m))
    where
      order : (a b c e f a' b' c' e' f' w : ℕ) → a + b + c + e + f ≤ a' + b' + c' + e' + f' + w → b + c + a + e + f ≤ b' + c' + a' + e' + f' + w
      order a b c e f a' b' c' e' f' w h = omega arith

  -- the cosine, a quarter of a turn less the angle
  cosine-less : p₁ ≤ p₃ + F + δ → p₃ + F ≤ p₁ + δ → p₀ ≤ p₂ + δ → p₂ ≤ p₀ + δ → Alike x₀ x₂ r₁ r₃ off'
  cosine-less h k l m =
      both x₀ x₂ c₀ c₂ (l₀ * r₀ + l₁ * r₁ + l₂ * r₂ + l₃ * r₃) (l₀ * r₂ + l₁ * r₃ + l₂ * r₀ + l₃ * r₁) (p₀ * r₀ + p₁ * r₁ + p₂ * r₂ + p₃ * r₃) (p₀ * r₂ + p₁ * r₃ + p₂ * r₀ + p₃ * r₁) ((x₁ + x₃) * odd) (at-0 x₀ x₁ x₂ x₃ r₀ r₁ r₂ r₃) (at-2 x₀ x₁ x₂ x₃ r₀ r₁ r₂ r₃)
      (over r₀ r₁ r₂ r₃ refl) (under r₀ r₁ r₂ r₃ refl) (over r₂ r₃ r₀ r₁ turned-2) (under r₂ r₃ r₀ r₁ turned-2)
      (order (p₁ * r₁) (p₃ * r₃) (p₀ * r₀) (p₂ * r₂) (F * r₃) (p₁ * r₃) (p₃ * r₁) (p₀ * r₂) (p₂ * r₀) (F * r₁) (δ * (r₀ + r₁ + r₂ + r₃)) (turn_low F δ p₁ p₃ p₀ p₂ r₀ r₁ r₂ r₃ h k l m))
      (order (p₁ * r₃) (p₃ * r₁) (p₀ * r₂) (p₂ * r₀) (F * r₁) (p₁ * r₁) (p₃ * r₃) (p₀ * r₀) (p₂ * r₂) (F * r₃) (δ * (r₀ + r₁ + r₂ + r₃)) (turn-high F δ p₁ p₃ p₀ p₂ r₀ r₁ r₂ r₃ h k l m))
    where
      order : (a b c e f a' b' c' e' f' w : ℕ) → a + b + c + e + f ≤ a' + b' + c' + e' + f' + w → c + a + e + b + f ≤ c' + a' + e' + b' + f' + w
      order a b c e f a' b' c' e' f' w h = omega arith

  -- the cosine, three quarters of a turn less the angle
  cosine-less-three : p₃ ≤ p₁ + F + δ → p₁ + F ≤ p₃ + δ → p₂ ≤ p₀ + δ → p₀ ≤ p₂ + δ → Alike x₂ x₀ r₁ r₃ off'
  cosine-less-three h k l m =
      both x₂ x₀ c₂ c₀ (l₀ * r₂ + l₁ * r₃ + l₂ * r₀ + l₃ * r₁) (l₀ * r₀ + l₁ * r₁ + l₂ * r₂ + l₃ * r₃) (p₀ * r₂ + p₁ * r₃ + p₂ * r₀ + p₃ * r₁) (p₀ * r₀ + p₁ * r₁ + p₂ * r₂ + p₃ * r₃) ((x₁ + x₃) * odd)
      (at-2 x₀ x₁ x₂ x₃ r₀ r₁ r₂ r₃ ∙ add_right_comm ((x₁ + x₃) * odd) (x₀ * cr) (x₂ * sq)) (at-0 x₀ x₁ x₂ x₃ r₀ r₁ r₂ r₃ ∙ add_right_comm ((x₁ + x₃) * odd) (x₀ * sq) (x₂ * cr))
      (over r₂ r₃ r₀ r₁ turned-2) (under r₂ r₃ r₀ r₁ turned-2) (over r₀ r₁ r₂ r₃ refl) (under r₀ r₁ r₂ r₃ refl)
      (order (p₃ * r₁) (p₁ * r₃) (p₂ * r₀) (p₀ * r₂) (F * r₃) (p₃ * r₃) (p₁ * r₁) (p₂ * r₂) (p₀ * r₀) (F * r₁) (δ * (r₀ + r₁ + r₂ + r₃)) (turn_low F δ p₃ p₁ p₂ p₀ r₀ r₁ r₂ r₃ h k l m))
      (order (p₃ * r₃) (p₁ * r₁) (p₂ * r₂) (p₀ * r₀) (F * r₁) (p₃ * r₁) (p₁ * r₃) (p₂ * r₀) (p₀ * r₂) (F * r₃) (δ * (r₀ + r₁ + r₂ + r₃)) (turn-high F δ p₃ p₁ p₂ p₀ r₀ r₁ r₂ r₃ h k l m))
    where
      order : (a b c e f a' b' c' e' f' w : ℕ) → a + b + c + e + f ≤ a' + b' + c' + e' + f' + w → e + b + c + a + f ≤ e' + b' + c' + a' + f' + w
      order a b c e f a' b' c' e' f' w h = omega arith

-- ---- the classes of an angle that is a turn and the small one: xa and xb are those that the sine or the cosine is the difference of
module _ (F W δ xa xb a b c e r₀ r₁ r₂ r₃ l l' : ℕ) (P : 0 < F) (A : xa ≤ 256 * F) (B : xb ≤ 256 * F) (ρ : r₀ + r₁ + r₂ + r₃ ≤ 32 * F)
    (s : Within xa F l (4096 * (W * F))) (s' : Within xb F l' (4096 * (W * F))) (i : l ≡ a * r₁ + b * r₃ + c * r₀ + e * r₂) (i' : l' ≡ a * r₃ + b * r₁ + c * r₂ + e * r₀)
    (h : a ≤ b + F + δ) (k : b + F ≤ a + δ) (m : c ≤ e + δ) (n : e ≤ c + δ) where
  angle-more : Alike xa xb r₁ r₃ (0x40_0000 * W + 32 * δ)
  angle-more =
      record {
        low = more F W δ (r₀ + r₁ + r₂ + r₃) xa xb r₁ r₃ P ρ A B l l' s.high s'.low (subst₂ (λ (x y : ℕ). x + F * r₃ ≤ y + F * r₁ + δ * (r₀ + r₁ + r₂ + r₃)) (sym i) (sym i') (turn_low F δ a b c e r₀ r₁ r₂ r₃ h k m n));
        high = more F W δ (r₀ + r₁ + r₂ + r₃) xb xa r₃ r₁ P ρ B A l' l s'.high s.low (subst₂ (λ (x y : ℕ). y + F * r₁ ≤ x + F * r₃ + δ * (r₀ + r₁ + r₂ + r₃)) (sym i) (sym i') (turn-high F δ a b c e r₀ r₁ r₂ r₃ h k m n));
      }

-- ---- the turns: sine and cosine of each are within 2 ^ -62 of 0, 1 or -1
unfoldable pub δ : ℕ
unfolding whole
δ = whole / 2 ^ 62

abbrev pub Facts : (a b c e : ℕ) → Type 0
Facts a b c e = (a ≤ b + whole + δ) × (b + whole ≤ a + δ) × (c ≤ e + δ) × (e ≤ c + δ)

half-facts : Facts (part 2 half_turn) (part 0 half_turn) (part 1 half_turn) (part 3 half_turn)
unfolding part whole δ num full class
half-facts = (lit≤ tt, lit≤ tt, lit≤ tt, lit≤ tt)

quarter-facts : Facts (part 1 quarter_turn) (part 3 quarter_turn) (part 0 quarter_turn) (part 2 quarter_turn)
unfolding part whole δ num full class
quarter-facts = (lit≤ tt, lit≤ tt, lit≤ tt, lit≤ tt)

three-facts : Facts (part 3 three_quarters) (part 1 three_quarters) (part 2 three_quarters) (part 0 three_quarters)
unfolding part whole δ num full class
three-facts = (lit≤ tt, lit≤ tt, lit≤ tt, lit≤ tt)

-- how far off, over `whole`
unfoldable pub gap : ℕ
gap = 0x40_0000 * rest + 32 * δ

pub gap-small : 2 ^ 56 * gap ≤ whole
unfolding gap δ
gap-small = go rest (whole / 2 ^ 62) whole rest-small (div-mul-le_self whole (2 ^ 62))
  where
    go : (x y z : ℕ) → 2 ^ 100 * x ≤ z → y * 2 ^ 62 ≤ z → 2 ^ 56 * (0x40_0000 * x + 32 * y) ≤ z
    go x y z a b = omega arith

-- ---- for the angle x / 2 ^ 61 and the small one r / 2 ^ 61
module _ (x r : ℕ) (X : x ≤ 5 * 2 ^ 61) (R : r ≤ 2 ^ 62) where
  r-five : r ≤ 5 * 2 ^ 61
  r-five = le_trans R (lit≤ tt)

  four : part 0 r + part 1 r + part 2 r + part 3 r ≤ 32 * whole
  four = go (part 0 r) (part 1 r) (part 2 r) (part 3 r) whole (up-to-two r 0 R (lit< tt)) (up-to-two r 1 R (lit< tt)) (up-to-two r 2 R (lit< tt)) (up-to-two r 3 R (lit< tt))
    where
      go : (a b c e F : ℕ) → a ≤ 8 * F → b ≤ 8 * F → c ≤ 8 * F → e ≤ 8 * F → a + b + c + e ≤ 32 * F
      go a b c e F h k l m = omega arith

  abbrev pub AlikeAt : ℕ → ℕ → Type 0
  AlikeAt s t = Alike (part s x) (part t x) (part 1 r) (part 3 r) gap

  module _ (p : ℕ) (T : p ≤ 5 * 2 ^ 61) (e : x + r ≡ p) where
    sums_at : (i : ℕ) (l : ℕ) → Within (part i (x + r)) whole l (4096 * (rest * whole)) → Within (part i p) whole l (4096 * (rest * whole))
    sums_at i l s = subst (λ (y : ℕ). Within (part i y) whole l (4096 * (rest * whole))) e s

    T' : x + r ≤ 5 * 2 ^ 61
    T' = le_trans (le_of_eq e) T

    sine-turn : Facts (part 2 p) (part 0 p) (part 1 p) (part 3 p) → AlikeAt 1 3
    unfolding gap
    sine-turn f =
        sine-less whole rest δ (part 0 x) (part 1 x) (part 2 x) (part 3 x) (part 0 r) (part 1 r) (part 2 r) (part 3 r) (part 0 p) (part 1 p) (part 2 p) (part 3 p) whole_pos (up-to-five x 0 X (lit< tt)) (up-to-five x 1 X (lit< tt)) (up-to-five x 2 X (lit< tt)) (up-to-five x 3 X (lit< tt)) four
        (sums_at 0 _ (sum-0 x r X r-five T')) (sums_at 1 _ (sum-1 x r X r-five T')) (sums_at 2 _ (sum-2 x r X r-five T')) (sums_at 3 _ (sum-3 x r X r-five T')) (circle r r-five).0 (circle r r-five).1 f.0 f.1 f.2 f.3

    cosine-turn : Facts (part 1 p) (part 3 p) (part 0 p) (part 2 p) → AlikeAt 0 2
    unfolding gap
    cosine-turn f =
        cosine-less whole rest δ (part 0 x) (part 1 x) (part 2 x) (part 3 x) (part 0 r) (part 1 r) (part 2 r) (part 3 r) (part 0 p) (part 1 p) (part 2 p) (part 3 p) whole_pos (up-to-five x 0 X (lit< tt)) (up-to-five x 1 X (lit< tt)) (up-to-five x 2 X (lit< tt)) (up-to-five x 3 X (lit< tt)) four
        (sums_at 0 _ (sum-0 x r X r-five T')) (sums_at 1 _ (sum-1 x r X r-five T')) (sums_at 2 _ (sum-2 x r X r-five T')) (sums_at 3 _ (sum-3 x r X r-five T')) (circle r r-five).0 (circle r r-five).1 f.0 f.1 f.2 f.3

    cosine-turn-back : Facts (part 3 p) (part 1 p) (part 2 p) (part 0 p) → AlikeAt 2 0
    unfolding gap
    cosine-turn-back f =
        cosine-less-three whole rest δ (part 0 x) (part 1 x) (part 2 x) (part 3 x) (part 0 r) (part 1 r) (part 2 r) (part 3 r) (part 0 p) (part 1 p) (part 2 p) (part 3 p) whole_pos (up-to-five x 0 X (lit< tt)) (up-to-five x 1 X (lit< tt)) (up-to-five x 2 X (lit< tt)) (up-to-five x 3 X (lit< tt)) four
        (sums_at 0 _ (sum-0 x r X r-five T')) (sums_at 1 _ (sum-1 x r X r-five T')) (sums_at 2 _ (sum-2 x r X r-five T')) (sums_at 3 _ (sum-3 x r X r-five T')) (circle r r-five).0 (circle r r-five).1 f.0 f.1 f.2 f.3

  -- the five folds
  pub sin-below-half : x + r ≡ half_turn → AlikeAt 1 3
  sin-below-half e = sine-turn half_turn (lit≤ tt) e half-facts

  pub cos-below-quarter : x + r ≡ quarter_turn → AlikeAt 0 2
  cos-below-quarter e = cosine-turn quarter_turn (lit≤ tt) e quarter-facts

  pub cos-below-three : x + r ≡ three_quarters → AlikeAt 2 0
  cos-below-three e = cosine-turn-back three_quarters (lit≤ tt) e three-facts

  module _ (p : ℕ) (T : p ≤ 5 * 2 ^ 61) (e : p + r ≡ x) where
    add_at : (i : ℕ) (l : ℕ) → Within (part i (p + r)) whole l (4096 * (rest * whole)) → Within (part i x) whole l (4096 * (rest * whole))
    add_at i l s = subst (λ (y : ℕ). Within (part i y) whole l (4096 * (rest * whole))) e s

    X' : p + r ≤ 5 * 2 ^ 61
    X' = le_trans (le_of_eq e) X

    sine-past : Facts (part 2 p) (part 0 p) (part 3 p) (part 1 p) → AlikeAt 3 1
    unfolding gap
    sine-past f =
        angle-more whole rest δ (part 3 x) (part 1 x) (part 2 p) (part 0 p) (part 3 p) (part 1 p) (part 0 r) (part 1 r) (part 2 r) (part 3 r) _ _ whole_pos (up-to-five x 3 X (lit< tt)) (up-to-five x 1 X (lit< tt)) four
        (add_at 3 _ (sum-3 p r T r-five X')) (add_at 1 _ (sum-1 p r T r-five X')) (order (part 0 p * part 3 r) (part 1 p * part 2 r) (part 2 p * part 1 r) (part 3 p * part 0 r)) (order (part 0 p * part 1 r) (part 1 p * part 0 r) (part 2 p * part 3 r) (part 3 p * part 2 r)) f.0 f.1 f.2 f.3
      where
        order : (a b c e : ℕ) → a + b + c + e ≡ c + a + e + b
        order a b c e = omega arith

    cosine-past : Facts (part 1 p) (part 3 p) (part 2 p) (part 0 p) → AlikeAt 2 0
    unfolding gap
    cosine-past f =
        angle-more whole rest δ (part 2 x) (part 0 x) (part 1 p) (part 3 p) (part 2 p) (part 0 p) (part 0 r) (part 1 r) (part 2 r) (part 3 r) _ _ whole_pos (up-to-five x 2 X (lit< tt)) (up-to-five x 0 X (lit< tt)) four
        (add_at 2 _ (sum-2 p r T r-five X')) (add_at 0 _ (sum-0 p r T r-five X')) (order (part 0 p * part 2 r) (part 1 p * part 1 r) (part 2 p * part 0 r) (part 3 p * part 3 r)) (order (part 0 p * part 0 r) (part 1 p * part 3 r) (part 2 p * part 2 r) (part 3 p * part 1 r)) f.0 f.1 f.2 f.3
      where
        order : (a b c e : ℕ) → a + b + c + e ≡ b + e + c + a
        order a b c e = omega arith

  pub sin-above-half : half_turn + r ≡ x → AlikeAt 3 1
  sin-above-half e = sine-past half_turn (lit≤ tt) e (half-facts.0, half-facts.1, half-facts.3, half-facts.2)

  pub cos-above-quarter : quarter_turn + r ≡ x → AlikeAt 2 0
  cos-above-quarter e = cosine-past quarter_turn (lit≤ tt) e (quarter-facts.0, quarter-facts.1, quarter-facts.3, quarter-facts.2)
