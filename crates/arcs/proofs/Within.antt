-- A law for callers, who never unfold a definition: the arc tangent is NaN or within half pi of 0.
-- It rests on the order of floats as the order of their values in units of 2 ^ -149.
use mathlib.Core.Path.{◌≡◌, refl, sym, ap, ap₂, ◌∙◌, subst}
use mathlib.Core.Bool.{Bool, true, false}
use mathlib.Core.Logic.{◌⊎◌, inl, inr}
use Prim.Native.Nat.{ℕ, ◌+◌, ◌-◌, ◌*◌, ◌/◌, ◌%◌, ◌^◌, ◌≤◌, ◌<◌}
use native.Mathlib.Nat.{le_trans, le_of_lt, le_refl, lt_of_le_of_lt}
use native.Mathlib.Omega.{arith}
use lib.Dec.{T, leb, lit<, lit≤}
use lib.Ieee.{Float, binary32, of_bits, to_bits, fits, is_nan, le, neg}
use lib.Ieee.Fits.{neg-fits}
use lib.Ieee.Bits.{of_bits-fits}
use lib.Ieee.Exact.{HasValue}
use lib.Ieee.Scale.{overflow}
use borrow.Author.Tests.{le-leb}
use Rattle.scalar.specs.F32.{◌≤f◌, negf}
use Rattle.scalar.specs.Literals.{f1_570796326}
use Rattle.cases.proofs.Cases.{split}
use Rattle.fixed.specs.Fixed.{pattern}
use Rattle.fixed.proofs.Values.{is-nan, value}
use Rattle.fixed.proofs.Sizes.{Size, finite-value, size-le}
use Rattle.order.specs.Units.{key_of}
use Rattle.order.proofs.Keys.{le-key}
use Rattle.order.proofs.Sums.{sized-key, neg_value}
use Rattle.arcs.specs.Atan.{atan_mag, atan_bits, atan_of}
use Rattle.arcs.specs.Special.{AtanWithin}
use Rattle.arcs.proofs.Reduce.{case}
use Rattle.arcs.proofs.AtanBits.{small-bits, mid-bits, big-bits, nan-bits, angle-big}
use Rattle.arcs.proofs.AtanMost.{atan-most, pattern-most}

-- x of at most W units in size lies between -W and W
module _ (r h : Float) (W : ℕ) (Fh : T (fits binary32 h)) (H : HasValue h false W (2 ^ 149)) (Fr : T (fits binary32 r)) where
  between : (s : Bool) (v : ℕ) → HasValue r s v (2 ^ 149) → v ≤ W → (le (neg h) r ≡ true) × (le r h ≡ true)
  between s v R l =
      let kr = sized-key binary32 r s v R in
      let kh = sized-key binary32 h false W H in
      let kn = sized-key binary32 (neg h) true W (neg_value h W (2 ^ 149) H) in (
        le-key binary32 (neg h) r (neg-fits binary32 h Fh) Fr kn.1 kr.1 ∙ ap₂ leb kn.0 kr.0 ∙ low (overflow binary32) s l,
        le-key binary32 r h Fr Fh kr.1 kh.1 ∙ ap₂ leb kr.0 kh.0 ∙ high (overflow binary32) s l,
      )
    where
      low : (C : ℕ) (s : Bool) → v ≤ W → leb (key_of C true W) (key_of C s v) ≡ true
      low C true g = le-leb (C - W) (C - v) (omega arith)
      low C false g = le-leb (C - W) (C + v) (omega arith)

      high : (C : ℕ) (s : Bool) → v ≤ W → leb (key_of C s v) (key_of C false W) ≡ true
      high C true g = le-leb (C - v) (C + W) (omega arith)
      high C false g = le-leb (C + v) (C + W) (omega arith)

-- ---- the arc tangent
half-value : HasValue f1_570796326 false (13176795 * 2 ^ 126) (2 ^ 149)
half-value = value 0x3fc9_0fdb 126 13176795 refl (lit≤ tt) (lit≤ tt) (lit< tt)

half-size : Size 0x3fc9_0fdb (13176795 * 2 ^ 126)
half-size = inr (lit≤ tt, refl)

abbrev Within : Float → Type 0
Within r = (is_nan r ≡ true) ⊎ ((negf f1_570796326 ≤f r ≡ true) × (r ≤f f1_570796326 ≡ true))

-- a pattern of at most half pi's
bits-within : (b : ℕ) → b % 2 ^ 31 ≤ 0x3fc9_0fdb → Within (of_bits binary32 b)
bits-within b h =
    let v = finite-value b (lt_of_le_of_lt h (lit< tt)) in
    inr (between (of_bits binary32 b) f1_570796326 (13176795 * 2 ^ 126) (of_bits-fits binary32 0x3fc9_0fdb) half-value (of_bits-fits binary32 b) (leb (2 ^ 31) b) v.0 v.1 (size-le (b % 2 ^ 31) 0x3fc9_0fdb v.0 (13176795 * 2 ^ 126) v.2 half-size h))

mid-rest : (t p : ℕ) → p ≤ 0x3fc9_0fdb → (t * 2 ^ 31 + p) % 2 ^ 31 ≤ 0x3fc9_0fdb
mid-rest t p h = omega arith

bits-law : (b : ℕ) → Within (of_bits binary32 (atan_bits b))
bits-law b =
    split (b % 2 ^ 31) 0x3980_0000
    (λ l. subst (λ (c : ℕ). Within (of_bits binary32 c)) (sym (small-bits b l)) (bits-within b (le_trans (le_of_lt l) (lit≤ tt))))
    (λ l. split (b % 2 ^ 31) 0x4c80_0000 (λ h. mid l h) (λ h. split 0x7f80_0000 (b % 2 ^ 31) (λ g. inl (ap is_nan (ap (of_bits binary32) (nan-bits b g)) ∙ is-nan b g)) (λ g. big h g)))
  where
    mid : 0x3980_0000 ≤ b % 2 ^ 31 → b % 2 ^ 31 < 0x4c80_0000 → Within (of_bits binary32 (atan_bits b))
    mid l h =
        let C = case (b % 2 ^ 31) l h in
        let w = subst (λ (x : ℕ). 2 ^ 30 ≤ x) (sym C.is) (angle-big C.n C.c C.A C.q C.red).0 in
        subst (λ (c : ℕ). Within (of_bits binary32 c)) (sym (mid-bits b l h))
        (bits-within (b / 2 ^ 31 * 2 ^ 31 + pattern (atan_mag (b % 2 ^ 31))) (mid-rest (b / 2 ^ 31) (pattern (atan_mag (b % 2 ^ 31))) (pattern-most (atan_mag (b % 2 ^ 31)) w (atan-most (b % 2 ^ 31) l h))))

    big : 0x4c80_0000 ≤ b % 2 ^ 31 → b % 2 ^ 31 ≤ 0x7f80_0000 → Within (of_bits binary32 (atan_bits b))
    big l h = subst (λ (c : ℕ). Within (of_bits binary32 c)) (sym (big-bits b l h)) (bits-within (b / 2 ^ 31 * 2 ^ 31 + 0x3fc9_0fdb) (mid-rest (b / 2 ^ 31) 0x3fc9_0fdb (le_refl 0x3fc9_0fdb)))

-- `atan_of x` is NaN, or within the f32 nearest to half pi of 0
pub atan-within : AtanWithin
unfolding atan_of
atan-within x = bits-law (to_bits binary32 x)
