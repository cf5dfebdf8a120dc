-- `atan_of x` is less than one unit in the last place from the arc tangent of x, for every f32; to the side of 0 the unit is that just below the result.
-- From 2 ^ -12 on the tangents at the two ends of the rounded angle show it, below that x³ / 3 is a part of a unit, and from 2 ^ 26 on the ends lie on either side of half pi.
use mathlib.Core.Path.{◌≡◌, refl, sym, ap, ◌∙◌, subst, subst₂}
use mathlib.Core.Bool.{Bool}
use Prim.Native.Nat.{ℕ, ◌+◌, ◌-◌, ◌*◌, ◌/◌, ◌%◌, ◌^◌, ◌≤◌, ◌<◌}
use native.Mathlib.Nat.{le_trans, le_of_lt, mul_assoc, mul_right_comm, mul-le-mul, mul-le-mul_left, eq_of_mul-eq-mul_right, mul-one, mul-pos, add-le-add}
use native.Mathlib.Omega.{arith}
use lib.Dec.{leb, lit<, lit≤}
use lib.Pow.{pow_pos, pow_mono}
use lib.Ieee.{Float, nan, inf, fin, binary32, up, down, size, of_bits, to_bits}
use lib.Ieee.Bits.{of_bits-to_bits, to_bits-lt}
use lib.Ieee.Exact.{HasValue}
use Rattle.fixed.specs.Fixed.{mant, pattern, digits}
use Rattle.arcs.specs.Atan.{cube_of, angle_of, atan_bits, atan_of}
use Rattle.scalar.specs.Root.{steps}
use Rattle.series.specs.Series.{Later, SinLe, SinGe, num, class}
use Rattle.exact_arcs.specs.Atan.{NearAtan, AtanNear}
use Rattle.fixed.proofs.Round.{grain, place, pattern_lt}
use Rattle.scalar.proofs.Nan.{nan_pattern}
use Rattle.cases.proofs.Cases.{split}
use Rattle.fixed.proofs.Values.{value, is-inf, v-small, ulps, packed-value, normal-value, sign-plus}
use Rattle.scalar.proofs.Patterns.{steps-is}
use Rattle.exact.proofs.Unit.{below_ulps}
use Rattle.series.proofs.Bounds.{le-scaled, le_same, ge-same}
use Rattle.arcs.proofs.Angle.{Reduced, cube-small, end-le, angle-ge, angle-2}
use Rattle.arcs.proofs.Reduce.{case}
use Rattle.arcs.proofs.AtanBits.{small-bits, mid-bits, big-bits, nan-bits, angle-big}
use Rattle.exact_arcs.proofs.Below.{below, small_unit, small_below, small_room}
use Rattle.arc_bounds.proofs.Ends.{small-le, small-ge, half_le, half-ge, nearest-plus, nearest-minus}

-- ---- what is asked of the value v of r, in units of 2 ^ -149, where x = n / c
pub record Within (n c v : ℕ) : Type 0 where
  pub two : 16 * v + 15 * 2 ^ (size v - 24) ≤ 2 * (16 * 2 ^ 149)
  pub low : SinLe (16 * v - 15 * 2 ^ (size (v - 1) - 24)) (16 * 2 ^ 149) n c
  pub high : SinGe (16 * v + 15 * 2 ^ (size v - 24)) (16 * 2 ^ 149) n c

-- from values to nearness: z is |x| in units of 2 ^ -149, and z = n * k, 2 ^ 149 = c * k
near-at : (s : Bool) (z n c k v : ℕ) → 0 < c → 0 < k → c * k ≡ 2 ^ 149 → z ≡ n * k → Within n c v → (x r : Float) → HasValue x s z (2 ^ 149) → HasValue r s v (2 ^ 149) → NearAtan x r
near-at s z n c k v C K e f W nan r h g = absurd h
near-at s z n c k v C K e f W (inf a) r h g = absurd h
near-at s z n c k v C K e f W (fin a m i) nan h g = g
near-at s z n c k v C K e f W (fin a m i) (inf b) h g = g
near-at s z n c k v C K e f W (fin a m i) (fin b l j) h g =
    let st : v ≡ steps (fin b l j) = sym (steps-is (fin b l j) s v g) in
    let x : m * up i * c ≡ n * down i = eq_of_mul-eq-mul_right k K (m * up i * c) (n * down i) (mul_assoc (m * up i) c k ∙ ap (λ (y : ℕ). m * up i * y) e ∙ h.1 ∙ ap (λ (y : ℕ). y * down i) f ∙ mul_right_comm n k (down i)) in (
      h.0 ∙ sym g.0,
      subst (λ (y : ℕ). 16 * y + 15 * 2 ^ (size y - 24) ≤ 2 * (16 * 2 ^ 149)) st W.two,
      subst (λ (y : ℕ). SinLe (16 * y - 15 * 2 ^ (size (y - 1) - 24)) (16 * 2 ^ 149) (m * up i) (down i)) st (le_same (16 * v - 15 * 2 ^ (size (v - 1) - 24)) (16 * 2 ^ 149) n c (m * up i) (down i) C x W.low),
      subst (λ (y : ℕ). SinGe (16 * y + 15 * 2 ^ (size y - 24)) (16 * 2 ^ 149) (m * up i) (down i)) st (ge-same (16 * v + 15 * 2 ^ (size v - 24)) (16 * 2 ^ 149) n c (m * up i) (down i) C x W.high),
    )

-- the lower end of a rounded angle
lower : (n c A q : ℕ) → Reduced n c A q → angle_of A q < 2 ^ 64 → let s = angle_of A q in SinLe (16 * (mant s * place s) - 15 * 2 ^ (size (mant s * place s - 1) - 24)) (16 * 2 ^ 149) n c
lower n c A q X fits =
    let s = angle_of A q in
    let L = below s (go (cube_of q) (cube-small q (omega (arith, X.most))) X.large) fits in
    subst (λ (y : ℕ). SinLe y (16 * 2 ^ 149) n c) L.is (le-scaled (64 * L.p - 60 * L.v) (2 ^ 56) n c (2 ^ 97) (end-le n c A q L.p (grain s) L.v X L.sizes))
  where
    go : (j : ℕ) → 4 * j ≤ q → 2 ^ 43 ≤ A + q → 2 ^ 34 ≤ A + (q - j)
    go j h l = omega arith

near-mid : (b : ℕ) → 0x3980_0000 ≤ b % 2 ^ 31 → b % 2 ^ 31 < 0x4c80_0000 → NearAtan (of_bits binary32 b) (of_bits binary32 (atan_bits b))
near-mid b l h =
    let a = b % 2 ^ 31 in
    let C = case a l h in
    let s = angle_of C.A C.q in
    let w = angle-big C.n C.c C.A C.q C.red in
    near-at (leb (2 ^ 31) b) (digits a * 2 ^ (a / 2 ^ 23 - 1)) C.n C.c C.k (mant s * place s) C.c_pos C.k-pos C.unit C.value
    (record { two = angle-2 C.n C.c C.A C.q C.red w.0 w.1; low = lower C.n C.c C.A C.q C.red w.1; high = angle-ge C.n C.c C.A C.q C.red w.0 w.1 })
    (of_bits binary32 b) (of_bits binary32 (atan_bits b)) (normal-value b (le_trans (lit≤ tt) l) (omega arith))
    (subst (λ (g : Bool). HasValue (of_bits binary32 (atan_bits b)) g (mant s * place s) (2 ^ 149)) (sign-plus b (pattern s) (pattern_lt s w.0 w.1))
    (packed-value (atan_bits b) s (b / 2 ^ 31) (mid-bits b l h ∙ ap (λ (y : ℕ). b / 2 ^ 31 * 2 ^ 31 + pattern y) C.is) w.0 w.1))

-- ---- from 2 ^ 26 on
half-within : (n c : ℕ) → 2 ^ 26 * c ≤ n → Within n c (13176795 * 2 ^ 126)
unfolding size
half-within n c h = record { two = lit≤ tt; low = half_le n c h; high = half-ge n c }

r-half : (b : ℕ) → atan_bits b ≡ b / 2 ^ 31 * 2 ^ 31 + 0x3fc9_0fdb → HasValue (of_bits binary32 (atan_bits b)) (leb (2 ^ 31) b) (13176795 * 2 ^ 126) (2 ^ 149)
r-half b e =
    subst₂ (λ (c : ℕ) (g : Bool). HasValue (of_bits binary32 c) g (13176795 * 2 ^ 126) (2 ^ 149)) (sym e) (sign-plus b 0x3fc9_0fdb (lit< tt))
    (value (b / 2 ^ 31 * 2 ^ 31 + 0x3fc9_0fdb) 126 13176795 (rest (b / 2 ^ 31)) (lit≤ tt) (lit≤ tt) (lit< tt))
  where
    rest : (t : ℕ) → (t * 2 ^ 31 + 0x3fc9_0fdb) % 2 ^ 31 ≡ 126 * 2 ^ 23 + 13176795
    rest t = omega arith

near-big : (b : ℕ) → 0x4c80_0000 ≤ b % 2 ^ 31 → b % 2 ^ 31 < 0x7f80_0000 → NearAtan (of_bits binary32 b) (of_bits binary32 (atan_bits b))
near-big b l h =
    let a = b % 2 ^ 31 in
    let z = digits a * 2 ^ (a / 2 ^ 23 - 1) in
    let d : 2 ^ 23 ≤ digits a = omega arith in
    near-at (leb (2 ^ 31) b) z z (2 ^ 149) 1 (13176795 * 2 ^ 126) (pow_pos 149) (lit< tt) refl (sym (mul-one z))
    (half-within z (2 ^ 149) (le_trans (lit≤ tt) (mul-le-mul d (pow_mono {i = 152} {j = a / 2 ^ 23 - 1} (omega arith)))))
    (of_bits binary32 b) (of_bits binary32 (atan_bits b)) (normal-value b (le_trans (lit≤ tt) l) h) (r-half b (big-bits b l (le_of_lt h)))

near-inf : (s : Bool) (r : Float) → HasValue r s (13176795 * 2 ^ 126) (2 ^ 149) → NearAtan (inf s) r
unfolding size
near-inf s nan g = g
near-inf s (inf b) g = g
near-inf s (fin b l j) g =
    let st : 13176795 * 2 ^ 126 ≡ steps (fin b l j) = sym (steps-is (fin b l j) s (13176795 * 2 ^ 126) g) in
    subst (λ (y : ℕ).
    (s ≡ b) × (16 * y + 15 * 2 ^ (size y - 24) ≤ 2 * (16 * 2 ^ 149))
    × Later (λ k. num (class 2) (16 * y - 8 * 2 ^ (size y - 24)) (16 * 2 ^ 149) k ≤ num (class 0) (16 * y - 8 * 2 ^ (size y - 24)) (16 * 2 ^ 149) k)
    × Later (λ k. num (class 0) (16 * y + 8 * 2 ^ (size y - 24)) (16 * 2 ^ 149) k ≤ num (class 2) (16 * y + 8 * 2 ^ (size y - 24)) (16 * 2 ^ 149) k)) st
    (sym g.0, lit≤ tt, nearest-plus, nearest-minus)

-- ---- below 2 ^ -12
small-within : (v : ℕ) → v ≤ 2 ^ 137 → Within (16 * v) (16 * 2 ^ 149) v
small-within v h =
    record {
      two = le_trans (add-le-add (mul-le-mul_left 16 h) (mul-le-mul_left 15 (small_unit v h))) (lit≤ tt);
      low = small-le (16 * 2 ^ 149) v (2 ^ (size (v - 1) - 24)) (pow_pos 153) (small_room h) (small_room (small_below v h)) (below_ulps v) (pow_pos (size (v - 1) - 24));
      high = small-ge (16 * 2 ^ 149) v (2 ^ (size v - 24)) (pow_pos 153) (small_room h) (small_room (small_unit v h)) (ulps v) (pow_pos (size v - 24));
    }

-- the same statement with x = v / 2 ^ 149
halved : (n c v : ℕ) → 0 < c → Within (16 * n) (16 * c) v → Within n c v
halved n c v C W =
    record {
      two = W.two;
      low = le_same (16 * v - 15 * 2 ^ (size (v - 1) - 24)) (16 * 2 ^ 149) (16 * n) (16 * c) n c (mul-pos (lit< tt) C) (go n c) W.low;
      high = ge-same (16 * v + 15 * 2 ^ (size v - 24)) (16 * 2 ^ 149) (16 * n) (16 * c) n c (mul-pos (lit< tt) C) (go n c) W.high;
    }
  where
    go : (n c : ℕ) → n * (16 * c) ≡ 16 * n * c
    go n c = omega arith

near-bits : (b : ℕ) → b < 2 ^ 32 → NearAtan (of_bits binary32 b) (of_bits binary32 (atan_bits b))
near-bits b B =
    split (b % 2 ^ 31) 0x3980_0000
    (λ l.
    let v = v-small b l in
    subst (λ (c : ℕ). NearAtan (of_bits binary32 b) (of_bits binary32 c)) (sym (small-bits b l))
    (near-at (leb (2 ^ 31) b) v.0 v.0 (2 ^ 149) 1 v.0 (pow_pos 149) (lit< tt) refl (sym (mul-one v.0)) (halved v.0 (2 ^ 149) v.0 (pow_pos 149) (small-within v.0 v.2)) (of_bits binary32 b) (of_bits binary32 b) v.1 v.1))
    (λ l. split (b % 2 ^ 31) 0x4c80_0000 (λ h. near-mid b l h) (λ h. split (b % 2 ^ 31) 0x7f80_0000 (λ g. near-big b h g) (λ g. split 0x7f80_0000 (b % 2 ^ 31) (λ f. not-number f) (λ f. infinite (omega arith)))))
  where
    infinite : b % 2 ^ 31 ≡ 0x7f80_0000 → NearAtan (of_bits binary32 b) (of_bits binary32 (atan_bits b))
    infinite e =
        subst (λ (x : Float). NearAtan x (of_bits binary32 (atan_bits b))) (sym (is-inf b e)) (near-inf (leb (2 ^ 31) b) (of_bits binary32 (atan_bits b)) (r-half b (big-bits b (omega arith) (omega arith))))

    not-number : 0x7f80_0000 < b % 2 ^ 31 → NearAtan (of_bits binary32 b) (of_bits binary32 (atan_bits b))
    not-number h =
        let is : of_bits binary32 b ≡ nan = nan_pattern b h in
        subst₂ (λ (x r : Float). NearAtan x r) (sym is) (sym (ap (of_bits binary32) (nan-bits b h) ∙ is)) refl

atan_of-is : (x : Float) → atan_of x ≡ of_bits binary32 (atan_bits (to_bits binary32 x))
unfolding atan_of
atan_of-is x = refl

-- the theorem, for every f32
pub atan-near : AtanNear
atan-near x F = subst₂ (λ (y z : Float). NearAtan y z) (of_bits-to_bits binary32 x F) (sym (atan_of-is x)) (near-bits (to_bits binary32 x) (to_bits-lt binary32 x F))
