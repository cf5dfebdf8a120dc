-- A law for callers, who never unfold a definition: the bit pattern's test for -4 to 4 is the f32 comparison.
-- It rests on the order of floats as the order of their values in units of 2 ^ -149.
use mathlib.Core.Path.{◌≡◌, refl, sym, ap, ap₂, ◌∙◌, subst}
use mathlib.Core.Bool.{Bool, true, false, ◌||◌, true≢false}
use mathlib.Core.Logic.{inr}
use Prim.Native.Nat.{ℕ, ◌+◌, ◌-◌, ◌%◌, ◌^◌, ◌≤◌, ◌<◌}
use native.Mathlib.Nat.{le_trans, le_of_eq, le_antisymm, sub-le, sub-le-sub_left, le-add_right, le_refl, add-le-add, add-lt-add_of_le_of_lt}
use native.Mathlib.Omega.{arith}
use lib.Dec.{T, leb, ltb, lit<, lit≤}
use lib.Ieee.{Float, inf, binary32, of_bits, to_bits, fits, is_nan, lt, neg}
use lib.Ieee.Fits.{neg-fits}
use lib.Ieee.Bits.{of_bits-to_bits, of_bits-fits}
use lib.Ieee.Exact.{HasValue}
use lib.Ieee.Scale.{overflow}
use borrow.Author.Tests.{le-ltb, lt-ltb}
use Rattle.scalar.specs.F32.{◌<f◌, ◌>f◌, negf}
use Rattle.scalar.specs.Literals.{f4}
use Rattle.cases.proofs.Cases.{split}
use Rattle.fixed.proofs.Values.{is-nan, is-inf, value}
use Rattle.fixed.proofs.Sizes.{Size, finite-value, size-lt, size-le}
use Rattle.order.specs.Units.{key_of}
use Rattle.order.proofs.Keys.{lt-key, mag-le}
use Rattle.order.proofs.Sums.{sized, sized-key, neg_value}

four-value : HasValue f4 false (2 ^ 151) (2 ^ 149)
four-value = value 0x4080_0000 128 (2 ^ 23) refl (lit≤ tt) (lit≤ tt) (lit< tt)

four-size : Size 0x4080_0000 (2 ^ 151)
four-size = inr (lit≤ tt, refl)

-- of a value v with the sign s
module _ (r : Float) (Fr : T (fits binary32 r)) where
  outside : (s : Bool) (v : ℕ) → HasValue r s v (2 ^ 149) → (t : Bool) → ltb (2 ^ 151) v ≡ t → v ≤ overflow binary32 → ((r <f negf f4) || (r >f f4)) ≡ t
  outside s v R t e o =
      let kr = sized-key binary32 r s v R in
      let kh = sized-key binary32 f4 false (2 ^ 151) four-value in
      let kn = sized-key binary32 (neg f4) true (2 ^ 151) (neg_value f4 (2 ^ 151) (2 ^ 149) four-value) in
      let F = of_bits-fits binary32 0x4080_0000 in
      ap₂ (λ (x y : Bool). x || y)
      (lt-key binary32 r (neg f4) Fr (neg-fits binary32 f4 F) kr.1 kn.1 ∙ ap₂ ltb kr.0 kn.0)
      (lt-key binary32 f4 r F Fr kh.1 kr.1 ∙ ap₂ ltb kh.0 kr.0)
      ∙ signs (overflow binary32) s four-less o ∙ e
    where
      four-less : 2 ^ 151 ≤ overflow binary32
      four-less = lit≤ tt

      signs : (C : ℕ) (s : Bool) → 2 ^ 151 ≤ C → v ≤ C → (ltb (key_of C s v) (key_of C true (2 ^ 151)) || ltb (key_of C false (2 ^ 151)) (key_of C s v)) ≡ ltb (2 ^ 151) v
      signs C true g o =
          split (2 ^ 151) v
          (λ l. ap (λ (x : Bool). x || ltb (C + 2 ^ 151) (C - v)) (lt-ltb (C - v) (C - 2 ^ 151) (down C v l g o)) ∙ sym (lt-ltb (2 ^ 151) v l))
          (λ l. ap₂ (λ (x y : Bool). x || y) (le-ltb (C - v) (C - 2 ^ 151) (sub-le-sub_left l C)) (le-ltb (C + 2 ^ 151) (C - v) (le_trans (sub-le C v) (le-add_right C (2 ^ 151)))) ∙ sym (le-ltb (2 ^ 151) v l))
        where
          down : (C v : ℕ) → 2 ^ 151 < v → 2 ^ 151 ≤ C → v ≤ C → C - v < C - 2 ^ 151
          down C v l g o = gen C v (2 ^ 151) l g o
            where
              gen : (C v F : ℕ) → F < v → F ≤ C → v ≤ C → C - v < C - F
              gen C v F l g o = omega arith
      signs C false g o =
          split (2 ^ 151) v
          (λ l. ap₂ (λ (x y : Bool). x || y) (le-ltb (C + v) (C - 2 ^ 151) (below C v (2 ^ 151))) (lt-ltb (C + 2 ^ 151) (C + v) (add-lt-add_of_le_of_lt (le_refl C) l)) ∙ sym (lt-ltb (2 ^ 151) v l))
          (λ l. ap₂ (λ (x y : Bool). x || y) (le-ltb (C + v) (C - 2 ^ 151) (below C v (2 ^ 151))) (le-ltb (C + 2 ^ 151) (C + v) (add-le-add (le_refl C) l)) ∙ sym (le-ltb (2 ^ 151) v l))
        where
          below : (C v F : ℕ) → C - F ≤ C + v
          below C v F = omega arith

inf-outside : (s : Bool) → ((inf s <f negf f4) || (inf s >f f4)) ≡ true
unfolding lt neg of_bits
inf-outside true = refl
inf-outside false = refl

-- sizes against 4
size-test : (a v : ℕ) → Size a v → ltb (2 ^ 151) v ≡ ltb 0x4080_0000 a
size-test a v z =
    split 0x4080_0000 a
    (λ l. lt-ltb (2 ^ 151) v (size-lt 0x4080_0000 a (2 ^ 151) v four-size z l) ∙ sym (lt-ltb 0x4080_0000 a l))
    (λ l. le-ltb (2 ^ 151) v (size-le a 0x4080_0000 v (2 ^ 151) z four-size l) ∙ sym (le-ltb 0x4080_0000 a l))

bits-outside : (b : ℕ) → is_nan (of_bits binary32 b) ≡ false → ((of_bits binary32 b <f negf f4) || (of_bits binary32 b >f f4)) ≡ ltb 0x4080_0000 (b % 2 ^ 31)
bits-outside b n =
    split (b % 2 ^ 31) 0x7f80_0000
    (λ l.
    let v = finite-value b l in
    let F = of_bits-fits binary32 b in
    let m = mag-le binary32 (of_bits binary32 b) F in
    outside (of_bits binary32 b) F (leb (2 ^ 31) b) v.0 v.1 (ltb 0x4080_0000 (b % 2 ^ 31)) (size-test (b % 2 ^ 31) v.0 v.2) (le_trans (le_of_eq (sym (sized binary32 (of_bits binary32 b) (leb (2 ^ 31) b) v.0 v.1).0)) m))
    (λ l. split 0x7f80_0000 (b % 2 ^ 31) (λ g. absurd (true≢false (sym (is-nan b g) ∙ n))) (λ g.
    ap (λ (x : Float). (x <f negf f4) || (x >f f4)) (is-inf b (le_antisymm g l)) ∙ inf-outside (leb (2 ^ 31) b) ∙ sym (lt-ltb 0x4080_0000 (b % 2 ^ 31) (le_trans (lit≤ tt) l))))

-- below -4 or above 4 by comparison is what the pattern's test says, for every f32 but NaN
pub outside-is-pattern : (x : Float) → T (fits binary32 x) → is_nan x ≡ false → ((x <f negf f4) || (x >f f4)) ≡ ltb 0x4080_0000 (to_bits binary32 x % 2 ^ 31)
outside-is-pattern x F n =
    let e = of_bits-to_bits binary32 x F in
    subst (λ (y : Float). ((y <f negf f4) || (y >f f4)) ≡ ltb 0x4080_0000 (to_bits binary32 x % 2 ^ 31)) e (bits-outside (to_bits binary32 x) (ap is_nan e ∙ n))
