-- The two ends of the arc tangent and of the arc sine: x itself below 2 ^ -12, where x³ / 3 is less than an ulp, and half pi, by sharp enclosures on both sides of it.
use mathlib.Core.Path.{◌≡◌, refl, sym, ap, ap₂, ◌∙◌, subst}
use Prim.Native.Nat.{ℕ, zero, suc, ◌+◌, ◌-◌, ◌*◌, ◌/◌, ◌^◌, ◌≤◌, ◌<◌}
use native.Mathlib.Nat.{le_trans, le_of_eq, le_refl, le_dest, mul-pos, mul-le-mul, mul-le-mul_left, mul-le-mul_right, le_of_mul-le-mul_right, pow-suc, mul-zero, add-le-add, sub-eq-zero_of_le, le_of_lt}
use native.Mathlib.Omega.{arith}
use lib.Pow.{pow_pos}
use lib.Dec.{T, lit≤}
use Rattle.series.specs.Series.{full, num, class, Later, SinLe, SinGe}
use Rattle.cases.proofs.Cases.{split}
use Rattle.series.proofs.Waves.{Enc4}
use Rattle.series.proofs.SmallAngle.{Parts, parts-of, small-enc}
use Rattle.series.proofs.Bounds.{sin-le, sin-ge, cos-plus, cos-minus, sine-le, enc-scaled, sine-ge}
use Rattle.series.proofs.Sharp.{portion, part, sharp}

-- ---- at 0
none : (r d k : ℕ) → num (class (suc r)) 0 d k ≡ 0
unfolding num class
none r d zero = refl
none r d (suc k) = ap₂ (λ (x y : ℕ). x * (d * suc k) + class (suc r) (suc k) * y) (none r d k) (pow-suc 0 k ∙ mul-zero (0 ^ k)) ∙ go (d * suc k) (class (suc r) (suc k))
  where
    go : (x y : ℕ) → 0 * x + y * 0 ≡ 0
    go x y = omega arith

pub zero-le : (d n c : ℕ) → SinLe 0 d n c
zero-le d n c = (0, λ k h. rw (none 0 d k, none 1 d k, none 2 d k) (omega arith))

-- ---- x = 16 v / B, its unit u: the angle w = 16 v - 15 u or 16 v + 15 u
module _ (B v u : ℕ) (b : 0 < B) (sv : v * 2 ^ 16 ≤ B) (su : u * 2 ^ 16 ≤ B) (U : v ≤ u * 2 ^ 24) (one : 1 ≤ u) where
  module _ (w : ℕ) (W : w ≤ 16 * v + 15 * u) where
    small : w * 2 ^ 11 ≤ B
    small = omega arith

    w-u : w ≤ (2 ^ 28 + 15) * u
    w-u = omega arith

    rest : w * w * w * w * w + 60 * (B * B * B * B) ≤ 60 * (B * B * B * B) * (1 + u)
    rest = go (B * B * B * B) (w * w * w * w) fourth
      where
        fourth : 2 ^ 44 * (w * w * w * w) ≤ B * B * B * B
        fourth = omega (arith, mul-le-mul (mul-le-mul (mul-le-mul small small) small) small)

        go : (T t : ℕ) → 2 ^ 44 * t ≤ T → t * w + 60 * T ≤ 60 * T * (1 + u)
        go T t h = omega (arith, mul-le-mul_right w h, mul-le-mul_left T w-u)

    abbrev f : ℕ
    f = w * w / (2 * B)

    abbrev g : ℕ
    g = w * w * w / (6 * (B * B))

    abbrev k : ℕ
    k = w * w * w * w / (24 * (B * B * B))

    parts : Parts w B f g k (1 + u)
    parts = parts-of w B (1 + u) b rest

    enc : Enc4 w B B (B + k) w f g (B + k + (1 + u)) (w + (1 + u)) (f + (1 + u)) (g + (1 + u))
    enc = small-enc w B f g k (1 + u) b (omega (arith, small)) parts

    f-le : w * 2 ^ 12 ≤ B → f * 2 ^ 13 ≤ w
    f-le h = le_of_mul-le-mul_right {k = B} (go f parts.f-low (mul-le-mul_left w h)) b
      where
        go : (f : ℕ) → f * (2 * B) ≤ w * w → w * (w * 2 ^ 12) ≤ w * B → f * 2 ^ 13 * B ≤ w * B
        go f a c = omega (arith, a, c)

    g-le : g * (6 * 2 ^ 22) ≤ w
    g-le = le_of_mul-le-mul_right {k = B * B} (go g (B * B) (w * w) parts.g-low (omega (arith, mul-le-mul small small))) (mul-pos b b)
      where
        go : (g T t : ℕ) → g * (6 * T) ≤ t * w → 2 ^ 22 * t ≤ T → g * (6 * 2 ^ 22) * T ≤ w * T
        go g T t a c = omega (arith, a, mul-le-mul_right w c)

    k-le : k * 2 ^ 33 ≤ w
    k-le = le_of_mul-le-mul_right {k = B * B * B} (go k (B * B * B) (w * w * w) parts.k-low (omega (arith, mul-le-mul (mul-le-mul small small) small))) (mul-pos (mul-pos b b) b)
      where
        go : (k T t : ℕ) → k * (24 * T) ≤ t * w → 2 ^ 33 * t ≤ T → k * 2 ^ 33 * T ≤ w * T
        go k T t a c = omega (arith, a, mul-le-mul_right w c)

  pub small-le : SinLe (16 * v - 15 * u) B (16 * v) B
  small-le = split (16 * v) (15 * u) (λ l. subst (λ (w : ℕ). SinLe w B (16 * v) B) (sym (sub-eq-zero_of_le (le_of_lt l))) (zero-le B (16 * v) B)) (λ l. at (16 * v - 15 * u) (omega arith) (omega arith))
    where
      go : (w f g k : ℕ) → w + 15 * u ≡ 16 * v → f * 2 ^ 13 ≤ w → (w + (1 + u)) * B + (f + (1 + u)) * (16 * v) ≤ g * B + (B + k) * (16 * v)
      go w f g k e h =
          let a : f * (16 * v * 2 ^ 12) ≤ f * B = mul-le-mul_left f (omega arith) in
          let c : (1 + u) * (16 * v * 2 ^ 12) ≤ (1 + u) * B = mul-le-mul_left (1 + u) (omega arith) in
          let d : f ≤ 2 ^ 15 * u = omega arith in
          omega (arith, a, c, mul-le-mul_right B d, mul-le-mul_right B one, ap (λ (x : ℕ). x * B) e)

      at : (w : ℕ) → w + 15 * u ≡ 16 * v → w ≤ 16 * v + 15 * u → SinLe w B (16 * v) B
      at w e l =
          sin-le w B B (B + k w l) w (f w l) (g w l) (B + k w l + (1 + u)) (w + (1 + u)) (f w l + (1 + u)) (g w l + (1 + u)) b b (enc w l) (16 * v) B
          (go w (f w l) (g w l) (k w l) e (f-le w l (omega arith)))

  pub small-ge : SinGe (16 * v + 15 * u) B (16 * v) B
  small-ge =
      let w = 16 * v + 15 * u in
      let l = le_refl w in
      sin-ge w B B (B + k w l) w (f w l) (g w l) (B + k w l + (1 + u)) (w + (1 + u)) (f w l + (1 + u)) (g w l + (1 + u)) b b (enc w l) (16 * v) B
      (go (f w l) (g w l) (k w l) (g-le w l) (k-le w l))
    where
      go : (f g k : ℕ) → g * (6 * 2 ^ 22) ≤ 16 * v + 15 * u → k * 2 ^ 33 ≤ 16 * v + 15 * u → (g + (1 + u)) * B + (B + k + (1 + u)) * (16 * v) ≤ (16 * v + 15 * u) * B + f * (16 * v)
      go f g k h i =
          let a : k * (16 * v * 2 ^ 12) ≤ k * B = mul-le-mul_left k (omega arith) in
          let c : (1 + u) * (16 * v * 2 ^ 12) ≤ (1 + u) * B = mul-le-mul_left (1 + u) (omega arith) in
          let d : g ≤ 11 * u = omega arith in
          let e : k ≤ u = omega arith in
          omega (arith, a, c, mul-le-mul_right B d, mul-le-mul_right B e, mul-le-mul_right B one)

  -- the same for the sine: sin w is at most 16 v / B, with a cosine that is not negative; and at least
  pub small-cos : Later (λ j. num (class 2) (16 * v - 15 * u) B j ≤ num (class 0) (16 * v - 15 * u) B j)
  small-cos = at (16 * v - 15 * u) (omega arith)
    where
      go : (w f k : ℕ) → f * 2 ^ 13 ≤ w → w ≤ 16 * v → f + (1 + u) ≤ B + k
      go w f k h l = omega arith

      at : (w : ℕ) → w ≤ 16 * v → Later (λ j. num (class 2) w B j ≤ num (class 0) w B j)
      at w l =
          let m : w ≤ 16 * v + 15 * u = omega arith in
          cos-plus w B B (B + k w m) w (f w m) (g w m) (B + k w m + (1 + u)) (w + (1 + u)) (f w m + (1 + u)) (g w m + (1 + u)) b b (enc w m) (go w (f w m) (k w m) (f-le w m (omega arith)) l)

  pub small-sine-le : Later (λ j. num (class 1) (16 * v - 15 * u) B j * B ≤ num (class 3) (16 * v - 15 * u) B j * B + 16 * v * full B j)
  small-sine-le = split (16 * v) (15 * u) (λ l. subst (λ (w : ℕ). Later (λ j. num (class 1) w B j * B ≤ num (class 3) w B j * B + 16 * v * full B j)) (sym (sub-eq-zero_of_le (le_of_lt l))) (0, λ j h. rw (none 0 B j) (omega arith))) (λ l. at (16 * v - 15 * u) (omega arith) (omega arith))
    where
      go : (w g : ℕ) → w + 15 * u ≡ 16 * v → (w + (1 + u)) * B ≤ g * B + 16 * v * B
      go w g e = omega (arith, ap (λ (x : ℕ). x * B) e, mul-le-mul_right B one)

      at : (w : ℕ) → w + 15 * u ≡ 16 * v → w ≤ 16 * v + 15 * u → Later (λ j. num (class 1) w B j * B ≤ num (class 3) w B j * B + 16 * v * full B j)
      at w e l =
          sine-le w B B (B + k w l) w (f w l) (g w l) (B + k w l + (1 + u)) (w + (1 + u)) (f w l + (1 + u)) (g w l + (1 + u)) b b (enc w l) (16 * v) B (go w (g w l) e)

  pub small-sine-ge : Later (λ j. num (class 3) (16 * v + 15 * u) B j * B + 16 * v * full B j ≤ num (class 1) (16 * v + 15 * u) B j * B)
  small-sine-ge =
      let w = 16 * v + 15 * u in
      let l = le_refl w in
      sine-ge w B B (B + k w l) w (f w l) (g w l) (B + k w l + (1 + u)) (w + (1 + u)) (f w l + (1 + u)) (g w l + (1 + u)) b b (enc w l) (16 * v) B (go (g w l) (g-le w l))
    where
      go : (g : ℕ) → g * (6 * 2 ^ 22) ≤ 16 * v + 15 * u → (g + (1 + u)) * B + 16 * v * B ≤ (16 * v + 15 * u) * B
      go g h =
          let d : g ≤ 12 * u = omega arith in
          omega (arith, mul-le-mul_right B d, mul-le-mul_right B one)

-- ---- half pi: the f32 nearest to it is 13176795 * 2 ^ -23; 15 / 16 of its unit below and above, in units of 2 ^ -56
abbrev under : ℕ
under = (16 * 13176795 - 15) * 2 ^ 29

abbrev above : ℕ
above = (16 * 13176795 + 15) * 2 ^ 29

-- the tangent of the lower one is at most 2 ^ 26, and its cosine positive; the upper one is past half pi
under-1 : part 1 under + 2 + 2 ^ 26 * (part 2 under + 2) ≤ part 3 under + 2 ^ 26 * part 0 under
unfolding portion num full class
under-1 = lit≤ tt

under-2 : part 2 under + 2 ≤ part 0 under
unfolding portion num full class
under-2 = lit≤ tt

above-0 : part 0 above + 2 ≤ part 2 above
unfolding portion num full class
above-0 = lit≤ tt

above-1 : part 3 above + 2 ≤ part 1 above
unfolding portion num full class
above-1 = lit≤ tt

under-enc : Enc4 (under * 2 ^ 97) (2 ^ 56 * 2 ^ 97) (2 ^ 62) (part 0 under) (part 1 under) (part 2 under) (part 3 under) (part 0 under + 2) (part 1 under + 2) (part 2 under + 2) (part 3 under + 2)
under-enc = enc-scaled under (2 ^ 56) (2 ^ 97) (2 ^ 62) (part 0 under) (part 1 under) (part 2 under) (part 3 under) (part 0 under + 2) (part 1 under + 2) (part 2 under + 2) (part 3 under + 2) (sharp under (lit≤ tt))

above-enc : Enc4 (above * 2 ^ 97) (2 ^ 56 * 2 ^ 97) (2 ^ 62) (part 0 above) (part 1 above) (part 2 above) (part 3 above) (part 0 above + 2) (part 1 above + 2) (part 2 above + 2) (part 3 above + 2)
above-enc = enc-scaled above (2 ^ 56) (2 ^ 97) (2 ^ 62) (part 0 above) (part 1 above) (part 2 above) (part 3 above) (part 0 above + 2) (part 1 above + 2) (part 2 above + 2) (part 3 above + 2) (sharp above (lit≤ tt))

pub half_le : (n c : ℕ) → 2 ^ 26 * c ≤ n → SinLe (under * 2 ^ 97) (16 * 2 ^ 149) n c
half_le n c h =
    sin-le (under * 2 ^ 97) (16 * 2 ^ 149) (2 ^ 62) (part 0 under) (part 1 under) (part 2 under) (part 3 under) (part 0 under + 2) (part 1 under + 2) (part 2 under + 2) (part 3 under + 2) (pow_pos 153) (pow_pos 62) under-enc n c
    (let o = le_dest h in subst (λ (y : ℕ). (part 1 under + 2) * c + (part 2 under + 2) * y ≤ part 3 under * c + part 0 under * y) o.1 (go (part 1 under + 2) (part 2 under + 2) (part 3 under) (part 0 under) o.0 under-1 under-2))
  where
    go : (p q r s d : ℕ) → p + 2 ^ 26 * q ≤ r + 2 ^ 26 * s → q ≤ s → p * c + q * (2 ^ 26 * c + d) ≤ r * c + s * (2 ^ 26 * c + d)
    go p q r s d a e = omega (arith, mul-le-mul_right c a, mul-le-mul_right d e)

pub half-ge : (n c : ℕ) → SinGe (above * 2 ^ 97) (16 * 2 ^ 149) n c
half-ge n c =
    sin-ge (above * 2 ^ 97) (16 * 2 ^ 149) (2 ^ 62) (part 0 above) (part 1 above) (part 2 above) (part 3 above) (part 0 above + 2) (part 1 above + 2) (part 2 above + 2) (part 3 above + 2) (pow_pos 153) (pow_pos 62) above-enc n c
    (add-le-add (mul-le-mul_right c above-1) (mul-le-mul_right n above-0))

pub half-plus : Later (λ k. num (class 2) (under * 2 ^ 97) (16 * 2 ^ 149) k ≤ num (class 0) (under * 2 ^ 97) (16 * 2 ^ 149) k)
half-plus = cos-plus (under * 2 ^ 97) (16 * 2 ^ 149) (2 ^ 62) (part 0 under) (part 1 under) (part 2 under) (part 3 under) (part 0 under + 2) (part 1 under + 2) (part 2 under + 2) (part 3 under + 2) (pow_pos 153) (pow_pos 62) under-enc under-2

pub half-minus : Later (λ k. num (class 0) (above * 2 ^ 97) (16 * 2 ^ 149) k ≤ num (class 2) (above * 2 ^ 97) (16 * 2 ^ 149) k)
half-minus = cos-minus (above * 2 ^ 97) (16 * 2 ^ 149) (2 ^ 62) (part 0 above) (part 1 above) (part 2 above) (part 3 above) (part 0 above + 2) (part 1 above + 2) (part 2 above + 2) (part 3 above + 2) (pow_pos 153) (pow_pos 62) above-enc above-0

-- the sine of the lower one is at most 1
under-3 : part 1 under + 2 ≤ part 3 under + 2 ^ 62
unfolding portion num full class
under-3 = lit≤ tt

pub half-sine : (c : ℕ) → Later (λ k. num (class 1) (under * 2 ^ 97) (16 * 2 ^ 149) k * c ≤ num (class 3) (under * 2 ^ 97) (16 * 2 ^ 149) k * c + c * full (16 * 2 ^ 149) k)
half-sine c =
    sine-le (under * 2 ^ 97) (16 * 2 ^ 149) (2 ^ 62) (part 0 under) (part 1 under) (part 2 under) (part 3 under) (part 0 under + 2) (part 1 under + 2) (part 2 under + 2) (part 3 under + 2) (pow_pos 153) (pow_pos 62) under-enc c c
    (le_trans (mul-le-mul_right c under-3) (le_of_eq (go (part 3 under) (2 ^ 62))))
  where
    go : (p m : ℕ) → (p + m) * c ≡ p * c + c * m
    go p m = omega arith

-- ---- half a unit below and above: no f32 is nearer to half pi
abbrev nearer : ℕ
nearer = (16 * 13176795 - 8) * 2 ^ 29

abbrev further : ℕ
further = (16 * 13176795 + 8) * 2 ^ 29

nearer-2 : part 2 nearer + 2 ≤ part 0 nearer
unfolding portion num full class
nearer-2 = lit≤ tt

further-0 : part 0 further + 2 ≤ part 2 further
unfolding portion num full class
further-0 = lit≤ tt

pub nearest-plus : Later (λ k. num (class 2) (nearer * 2 ^ 97) (16 * 2 ^ 149) k ≤ num (class 0) (nearer * 2 ^ 97) (16 * 2 ^ 149) k)
nearest-plus = cos-plus (nearer * 2 ^ 97) (16 * 2 ^ 149) (2 ^ 62) (part 0 nearer) (part 1 nearer) (part 2 nearer) (part 3 nearer) (part 0 nearer + 2) (part 1 nearer + 2) (part 2 nearer + 2) (part 3 nearer + 2) (pow_pos 153) (pow_pos 62)
    (enc-scaled nearer (2 ^ 56) (2 ^ 97) (2 ^ 62) (part 0 nearer) (part 1 nearer) (part 2 nearer) (part 3 nearer) (part 0 nearer + 2) (part 1 nearer + 2) (part 2 nearer + 2) (part 3 nearer + 2) (sharp nearer (lit≤ tt))) nearer-2

pub nearest-minus : Later (λ k. num (class 0) (further * 2 ^ 97) (16 * 2 ^ 149) k ≤ num (class 2) (further * 2 ^ 97) (16 * 2 ^ 149) k)
nearest-minus = cos-minus (further * 2 ^ 97) (16 * 2 ^ 149) (2 ^ 62) (part 0 further) (part 1 further) (part 2 further) (part 3 further) (part 0 further + 2) (part 1 further + 2) (part 2 further + 2) (part 3 further + 2) (pow_pos 153) (pow_pos 62)
    (enc-scaled further (2 ^ 56) (2 ^ 97) (2 ^ 62) (part 0 further) (part 1 further) (part 2 further) (part 3 further) (part 0 further + 2) (part 1 further + 2) (part 2 further + 2) (part 3 further + 2) (sharp further (lit≤ tt))) further-0
