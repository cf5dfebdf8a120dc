-- The literal form for sine and cosine: a partial sum of 18 or 20 terms and the one with the next term enclose every later one, and each is less than one unit in the last place from the answer.
use mathlib.Core.Path.{◌≡◌, refl, sym, ap, ◌∙◌, subst}
use mathlib.Core.Bool.{Bool, true, false, cond, beq}
use mathlib.Core.Logic.{inr}
use Prim.Native.Nat.{ℕ, ◌*◌, ◌-◌, ◌%◌, ◌^◌, ◌≤◌, ◌<◌}
use native.Mathlib.Nat.{le_trans, le_of_eq, le_refl, mul-le-mul_right, le_of_mul-le-mul_right}
use native.Mathlib.Omega.{arith}
use lib.Dec.{leb, lit≤}
use lib.Pow.{pow_pos}
use lib.Ieee.{Float, nan, inf, fin, binary32, up, down, size, of_bits, to_bits}
use lib.Ieee.Fits.{down_pos}
use lib.Ieee.Bits.{of_bits-to_bits}
use lib.Ieee.Exact.{HasValue}
use Rattle.series.specs.Series.{sine, cosine}
use Rattle.series.proofs.Addition.{full-pos}
use Rattle.scalar.proofs.Nan.{the-nan}
use Rattle.cases.proofs.Cases.{split}
use Rattle.fixed.proofs.Sizes.{finite-value, size-le}
use Rattle.scalar.specs.Root.{steps}
use Rattle.exact.specs.Between.{Between}
use Rattle.exact.specs.Enclosure.{Less}
use Rattle.exact_waves.specs.Near.{NearSin, NearCos}
use Rattle.exact_waves.specs.Literal.{LiteralSin, LiteralCos, SinLiteral, CosLiteral}
use Rattle.exact.proofs.Enclosure.{one-wave, less}
use Rattle.exact.proofs.Unit.{below_le}
use Rattle.waves.specs.SinCos.{wave_bits, sin_of, cos_of}
use Rattle.waves.proofs.Patterns.{outside-bits}
use Rattle.exact_waves.proofs.Waves.{sin-near, cos-near}

-- up to 4 in size
abbrev UpTo4 : Float → Type 0
UpTo4 nan = Unit {0}
UpTo4 (inf s) = Unit {0}
UpTo4 (fin s m e) = m * up e ≤ 4 * down e

-- neither unit is above u, so that each sum is less than u away
module _ (a b u : ℕ) (A : a ≤ u) (B : b ≤ u) (U : 0 < u) where
  within : (g : Bool) (m r t p q c : ℕ) → 0 < c → Between m r t (15 * cond g a b) (15 * cond g b a) p q c → Less m r t (16 * u) p q c
  within true m r t p q c C k = less m r t u p q c U C (record { low = omega (arith, k.low, mul-le-mul_right c A); high = omega (arith, k.high, mul-le-mul_right c B) })
  within false m r t p q c C k = less m r t u p q c U C (record { low = omega (arith, k.low, mul-le-mul_right c B); high = omega (arith, k.high, mul-le-mul_right c A) })

sin-at : (x r : Float) → UpTo4 x → NearSin x r → LiteralSin x r
sin-at nan r u h = tt
sin-at (inf s) r u h = tt
sin-at (fin s m e) nan u h = tt
sin-at (fin s m e) (inf t) u h = tt
sin-at (fin s m e) (fin t n f) u h =
    let v = steps (fin t n f) in
    let o = 2 ^ (size v - 24) in
    let near = within (2 ^ (size (v - 1) - 24)) o o (below_le v) (le_refl o) (pow_pos (size v - 24)) (beq s t) in (
      one-wave.sine-nested (m * up e) (down e) 9 (down_pos e) u (lit≤ tt),
      near _ _ _ _ _ _ (full-pos (down e) 36 (down_pos e)) (h 36 (le_refl 36)),
      near _ _ _ _ _ _ (full-pos (down e) 37 (down_pos e)) (h 37 (lit≤ tt)),
    )

cos-at : (x r : Float) → UpTo4 x → NearCos x r → LiteralCos x r
cos-at nan r u h = tt
cos-at (inf s) r u h = tt
cos-at (fin s m e) nan u h = tt
cos-at (fin s m e) (inf t) u h = tt
cos-at (fin s m e) (fin t n f) u h =
    let v = steps (fin t n f) in
    let o = 2 ^ (size v - 24) in
    let near = within o (2 ^ (size (v - 1) - 24)) o (le_refl o) (below_le v) (pow_pos (size v - 24)) t in (
      one-wave.cosine-nested (m * up e) (down e) 9 (down_pos e) u,
      near _ _ _ _ _ _ (full-pos (down e) 39 (down_pos e)) (h 39 (lit≤ tt)),
      near _ _ _ _ _ _ (full-pos (down e) 40 (down_pos e)) (h 40 (lit≤ tt)),
    )

-- a pattern of at most 4's is a float up to 4
up_to : (x : Float) (s : Bool) (v : ℕ) → HasValue x s v (2 ^ 149) → v ≤ 2 ^ 151 → UpTo4 x
up_to nan s v g k = tt
up_to (inf t) s v g k = tt
up_to (fin t m e) s v g k = le_of_mul-le-mul_right {k = 2 ^ 149} (le_trans (le_of_eq g.1) (le_trans (mul-le-mul_right (down e) k) (le_of_eq (go (down e) (2 ^ 149))))) (pow_pos 149)
  where
    go : (d F : ℕ) → 4 * F * d ≡ 4 * d * F
    go d F = omega arith

bits-up-to : (b : ℕ) → b % 2 ^ 31 ≤ 0x4080_0000 → UpTo4 (of_bits binary32 b)
bits-up-to b h = let w = finite-value b (lt b h) in up_to (of_bits binary32 b) (leb (2 ^ 31) b) w.0 w.1 (size-le (b % 2 ^ 31) 0x4080_0000 w.0 (2 ^ 151) w.2 (inr (lit≤ tt, refl)) h)
  where
    lt : (b : ℕ) → b % 2 ^ 31 ≤ 0x4080_0000 → b % 2 ^ 31 < 0x7f80_0000
    lt b h = omega arith

sin-nan : (x : Float) → LiteralSin x nan
sin-nan nan = tt
sin-nan (inf s) = tt
sin-nan (fin s m e) = tt

cos-nan : (x : Float) → LiteralCos x nan
cos-nan nan = tt
cos-nan (inf s) = tt
cos-nan (fin s m e) = tt

-- the theorems, for every f32
pub sin-literal : SinLiteral
unfolding sin_of
sin-literal x F =
    let b = to_bits binary32 x in
    split 0x4080_0000 (b % 2 ^ 31)
    (λ h. subst (λ (r : Float). LiteralSin x r) (sym (ap (of_bits binary32) (outside-bits sine b h) ∙ the-nan)) (sin-nan x))
    (λ h. sin-at x (of_bits binary32 (wave_bits sine b)) (subst UpTo4 (of_bits-to_bits binary32 x F) (bits-up-to b h)) (sin-near x F))

pub cos-literal : CosLiteral
unfolding cos_of
cos-literal x F =
    let b = to_bits binary32 x in
    split 0x4080_0000 (b % 2 ^ 31)
    (λ h. subst (λ (r : Float). LiteralCos x r) (sym (ap (of_bits binary32) (outside-bits cosine b h) ∙ the-nan)) (cos-nan x))
    (λ h. cos-at x (of_bits binary32 (wave_bits cosine b)) (subst UpTo4 (of_bits-to_bits binary32 x F) (bits-up-to b h)) (cos-near x F))
