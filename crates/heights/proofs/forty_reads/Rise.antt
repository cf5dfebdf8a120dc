-- The heights of the forty reads never fall in the walk's order. Each is ht * part + h0, with forty parts above 0 and at most 1 that rise in the one order and fall in the other (computed), and rounded products
-- and sums keep the order, overflow and infinities included. A NaN among them makes all forty NaN.
use mathlib.Core.Path.{sym, subst}
use mathlib.Core.Logic.{◌⊎◌, inl, inr}
use mathlib.Core.Bool.{Bool, true, false, not, ◌&&◌}
use Prim.Native.Nat.{ℕ, zero, suc, ◌<◌}
use native.Mathlib.Nat.{eq-or-lt_of_le, le_of_suc-le-suc, not-suc-le-zero}
use native.Mathlib.Omega.{arith}
use lib.Dec.{T}
use lib.Ieee.{Float, nan, inf, fin, binary32, le, fits, is_nan, of_bits, add, sub, mul}
use lib.Ieee.Fits.{and_l, and_r, add-fits}
use lib.Ieee.Scale.{finite}
use Rattle.scalar.specs.F32.{◌-f◌, ◌*f◌, ◌≤f◌, ◌≥f◌}
use Rattle.scalar.specs.Literals.{f0, f1}
use Rattle.order.specs.Units.{real, nought}
use Rattle.order.proofs.Keys.{or_l, or_r}
use Rattle.order.proofs.Tests.{nought-is, nought-fits, not-le-lt}
use Rattle.order.proofs.Products.{share, affine, affine-real, affine-rising, affine-falling, affine-defined}
use Rattle.heights.specs.Walk.{Orderly}
use Rattle.heights.specs.Nodes.{xt, twdiv, zg_of, height_of, height_at, ig_at, ib_at}

-- ---- a test that holds of each number below n
abbrev pub all : (ℕ → Bool) → ℕ → Bool
all p zero = true
all p (suc n) = p n && all p n

pub all-at : (p : ℕ → Bool) (n : ℕ) → T (all p n) → (k : ℕ) → k < n → T (p k)
all-at p zero t k h = absurd (not-suc-le-zero h)
all-at p (suc n) t k h = elim (eq-or-lt_of_le (le_of_suc-le-suc h)) [ inl e ↦ subst (λ (j : ℕ). T (p j)) (sym e) (and_l (p n) (all p n) t) | inr l ↦ all-at p n (and_r (p n) (all p n) t) k l ]

-- ---- the parts
abbrev part : Bool → ℕ → Float
part up k = f1 -f twdiv *f zg_of (ig_at k) (ib_at up k)

all-shares : (up : Bool) → T (all (λ k. share (part up k)) 40)
unfolding xt ig_at ib_at of_bits sub mul add
all-shares true = tt
all-shares false = tt

parts-rise : T (all (λ k. le (part true k) (part true (suc k))) 39)
unfolding xt ig_at ib_at of_bits sub mul add le
parts-rise = tt

parts-fall : T (all (λ k. le (part false (suc k)) (part false k)) 39)
unfolding xt ig_at ib_at of_bits sub mul add le
parts-fall = tt

shared : (up : Bool) (k : ℕ) → k < 40 → T (share (part up k))
shared up k h = all-at (λ k. share (part up k)) 40 (all-shares up) k h

-- ---- the heights
decide : (x : Float) → T (real x) ⊎ T (is_nan x)
unfolding is_nan
decide nan = inr tt
decide (inf s) = inl tt
decide (fin s m e) = inl tt

not-both : (x : Float) → T (real x) → T (is_nan x) → ⊥
unfolding is_nan
not-both nan a n = a
not-both (inf s) a n = n
not-both (fin s m e) a n = n

real-factor : (x b y : Float) → T (real (affine binary32 x b y)) → T (real x)
real-factor nan b y h = absurd (unfold mul add in h)
real-factor (inf s) b y h = tt
real-factor (fin s m e) b y h = tt

module _ (h0 ht : Float) (p : T (fits binary32 h0)) (q : T (fits binary32 ht)) where
  at_part : (up : Bool) → ℕ → Float
  at_part up k = affine binary32 ht h0 (part up k)

  pub height-fits : (k : ℕ) → T (fits binary32 (height_at h0 ht k))
  unfolding height_at height_of
  height-fits k = add-fits binary32 (mul binary32 ht (part (ht ≥f f0) k)) h0

  -- the next read is not below, in the order that the sign of ht asks for
  next : (up : Bool) → (T up → T (le nought ht)) → (T (not up) → T (not (le nought ht))) → (k : ℕ) → suc k < 40 → T (real (at_part up k)) → T (le (at_part up k) (at_part up (suc k)))
  unfolding at_part
  next true f g k h a =
      let k< : k < 40 = omega arith in
      affine-rising binary32 ht h0 (part true k) (part true (suc k)) q p (shared true k k<) (shared true (suc k) h) (f tt) (all-at (λ k. le (part true k) (part true (suc k))) 39 parts-rise k (le_of_suc-le-suc h)) a
  next false f g k h a =
      let k< : k < 40 = omega arith in
      affine-falling binary32 ht h0 (part false (suc k)) (part false k) q p (shared false (suc k) h) (shared false k k<) (not-le-lt binary32 nought ht (nought-fits binary32) q tt (real-factor ht h0 (part false k) a) (g tt))
      (all-at (λ k. le (part false (suc k)) (part false k)) 39 parts-fall k (le_of_suc-le-suc h)) a

  -- one that is a number makes all of them numbers
  all-real : (j k : ℕ) → j < 40 → k < 40 → T (real (height_at h0 ht j)) → T (real (height_at h0 ht k))
  unfolding height_at height_of
  all-real j k hj hk a = let up = ht ≥f f0 in affine-real binary32 ht h0 (part up j) (part up k) q (shared up j hj) (shared up k hk) a

  not-below : (k : ℕ) → suc k < 40 → T (real (height_at h0 ht k)) → T (height_at h0 ht k ≤f height_at h0 ht (suc k))
  unfolding height_at height_of at_part
  not-below k h a = next (ht ≥f f0) (λ t. subst (λ (o : Float). T (le o ht)) nought-is t) (λ t. subst (λ (o : Float). T (not (le o ht))) nought-is t) k h a

  all-nan : T (is_nan (height_at h0 ht 0)) → (k : ℕ) → k < 40 → T (is_nan (height_at h0 ht k))
  all-nan n k h = elim (decide (height_at h0 ht k)) [ inl a ↦ absurd (not-both (height_at h0 ht 0) (all-real k 0 h (omega arith) a) n) | inr m ↦ m ]

  -- for every ht and every lowest height, infinite and NaN included: all forty are NaN, or none is below the one before it
  pub reads-rise : ((k : ℕ) → k < 40 → T (is_nan (height_at h0 ht k))) ⊎ ((k : ℕ) → suc k < 40 → T (height_at h0 ht k ≤f height_at h0 ht (suc k)))
  reads-rise = elim (decide (height_at h0 ht 0)) [ inl a ↦ inr (λ k h. not-below k h (all-real 0 k (omega arith) (omega arith) a)) | inr n ↦ inl (all-nan n) ]

  height-real : T (real ht) → T (finite h0) → (k : ℕ) → k < 40 → T (real (height_at h0 ht k))
  unfolding height_at height_of
  height-real a b k h = let up = ht ≥f f0 in affine-defined binary32 ht h0 (part up k) q (shared up k h) a b

  -- and where ht is not a NaN and the lowest height is finite, none is below the one before it
  pub reads-rise-finite : T (real ht) → T (finite h0) → (k : ℕ) → suc k < 40 → T (height_at h0 ht k ≤f height_at h0 ht (suc k))
  reads-rise-finite a b k h = not-below k h (height-real a b k (omega arith))

  pub reads-orderly : Orderly (height_at h0 ht) 40
  reads-orderly k h = elim (decide (height_at h0 ht k)) [ inl a ↦ or_r (is_nan (height_at h0 ht k)) (height_at h0 ht k ≤f height_at h0 ht (suc k)) (not-below k h a) | inr n ↦ or_l (is_nan (height_at h0 ht k)) (height_at h0 ht k ≤f height_at h0 ht (suc k)) n ]
