-- The ratio sin x / x that the program computes for x = r / 2 ^ 61 below 2 is within 20 units of 2 ^ -32 of the partial sums with 8 and with 9 terms: each step of the two nested sums cuts off at most a unit,
-- and errs by a few more for what its factors lack.
use mathlib.Core.Path.{◌≡◌, refl, ap, ap₂, ◌∙◌}
use Prim.Native.Nat.{ℕ, ◌+◌, ◌*◌, ◌/◌, ◌^◌, ◌≤◌, ◌<◌}
use native.Mathlib.Nat.{le_trans, le_of_eq, le_of_lt, mul_comm, mul-le-mul, mul-le-mul_left, mul-le-mul_right, le_of_mul-le-mul_right, div-mul-le_self, lt-div-mul-add, sub-add_cancel}
use native.Mathlib.Omega.{arith}
use lib.Dec.{lit<, lit≤}
use lib.Pow.{pow_pos}
use Rattle.series.proofs.SmallAngle.{div-high}
use Rattle.series.proofs.Pairs.{sums, Limit, Ksin}
use Rattle.series.proofs.Alternating.{Low, High, limit}
use Rattle.waves.specs.SinCos.{times, added, taken, square_of, ratio_of}
use Rattle.waves.proofs.Patterns.{times-lt, times-le, square-lt, taken-le, ratio-in}

-- ---- one step of a nested sum, in units of 1 / b: A / b stands for N / D, w / b for X / (b * G), and c / b for g / (D * b * G)
step-low : (b c A w G X D N g : ℕ) → w * G ≤ X → A * D ≤ b * N → c * (D * (b * G)) ≤ b * g → (c + w * A / b) * (D * (b * G)) ≤ b * (g + X * N)
step-low b c A w G X D N g h k e =
    let q = w * A / b in
    let a : q * b ≤ w * A = div-mul-le_self (w * A) b in
    go q (mul-le-mul_right (D * G) a) (mul-le-mul h k)
  where
    go : (q : ℕ) → q * b * (D * G) ≤ w * A * (D * G) → w * G * (A * D) ≤ X * (b * N) → (c + q) * (D * (b * G)) ≤ b * (g + X * N)
    go q x y = omega (arith, x, y, e)

step-high : (b c A w G X D N g e k : ℕ) → 0 < b → X ≤ (w + 8) * G → b * N ≤ (A + e) * D → b * g ≤ (c + 1) * (D * (b * G)) → 8 * A ≤ k * b → w ≤ b → 8 * e ≤ b
    → b * (g + X * N) ≤ (c + w * A / b + (e + 3 + k)) * (D * (b * G))
step-high b c A w G X D N g e k B h i f a l m =
    let q = w * A / b in
    let x : w * A < q * b + b = lt-div-mul-add B in
    let y : (w + 8) * (A + e) ≤ (q + e + 2 + k) * b = inner q (le_of_lt x) (mul-le-mul_right e l) in
    go q (mul-le-mul h i) (mul-le-mul_right (D * G) y)
  where
    inner : (q : ℕ) → w * A ≤ q * b + b → w * e ≤ b * e → (w + 8) * (A + e) ≤ (q + e + 2 + k) * b
    inner q x y = omega (arith, x, y, a, m)

    go : (q : ℕ) → X * (b * N) ≤ (w + 8) * G * ((A + e) * D) → (w + 8) * (A + e) * (D * G) ≤ (q + e + 2 + k) * b * (D * G) → b * (g + X * N) ≤ (c + q + (e + 3 + k)) * (D * (b * G))
    go q x y = omega (arith, x, y, f)

-- 17! is the common denominator
abbrev f : ℕ
f = 355687428096000

-- the exact sums with X for x⁴ and Z for 16, times 17! * Z³
abbrev plus_of : (Z X : ℕ) → ℕ
plus_of Z X = f * (Z * Z * Z) + X * (47424990412800 * (Z * Z) + X * (250925875200 * Z + X * 233963520))

abbrev minus_of : (Z X : ℕ) → ℕ
minus_of Z X = 237124952064000 * (Z * Z * Z) + X * (4516665753600 * (Z * Z) + X * (9124577280 * Z + X * 4456448))

module _ (w G X : ℕ) (W : w < 2 ^ 32) (lo : w * G ≤ X) (hi : X ≤ (w + 8) * G) where
  abbrev Z : ℕ
  Z = 2 ^ 32 * G

  abbrev low : (c A D N g : ℕ) → A * D ≤ 2 ^ 32 * N → c * (D * Z) ≤ 2 ^ 32 * g → (c + times w A) * (D * Z) ≤ 2 ^ 32 * (g + X * N)
  low c A D N g k e = step-low (2 ^ 32) c A w G X D N g lo k e

  abbrev high : (c A D N g e k : ℕ) → 2 ^ 32 * N ≤ (A + e) * D → 2 ^ 32 * g ≤ (c + 1) * (D * Z) → 8 * A ≤ k * 2 ^ 32 → 8 * e ≤ 2 ^ 32 → 2 ^ 32 * (g + X * N) ≤ (c + times w A + (e + 3 + k)) * (D * Z)
  high c A D N g e k i f a m = step-high (2 ^ 32) c A w G X D N g e k (pow_pos 32) hi i f a (le_of_lt W) m

  abbrev A₂ : ℕ
  A₂ = 3029959 + times w 2825

  abbrev A₁ : ℕ
  A₁ = 572662306 + times w A₂

  abbrev B₂ : ℕ
  B₂ = 110180 + times w 53

  abbrev B₁ : ℕ
  B₁ = 54539267 + times w B₂

  pub added-low : added w * (f * Z * Z * Z) ≤ 2 ^ 32 * (f * (Z * Z * Z) + X * (47424990412800 * (Z * Z) + X * (250925875200 * Z + X * 233963520)))
  added-low =
      low (2 ^ 32) A₁ (f * Z * Z) (47424990412800 * (Z * Z) + X * (250925875200 * Z + X * 233963520)) (f * (Z * Z * Z))
      (low 572662306 A₂ (f * Z) (250925875200 * Z + X * 233963520) (47424990412800 * (Z * Z)) (low 3029959 2825 f 233963520 (250925875200 * Z) (lit≤ tt) (c₂ Z)) (c₁ Z)) (c₀ Z)
    where
      c₂ : (Z : ℕ) → 3029959 * (f * Z) ≤ 2 ^ 32 * (250925875200 * Z)
      c₂ Z = omega arith

      c₁ : (Z : ℕ) → 572662306 * (f * Z * Z) ≤ 2 ^ 32 * (47424990412800 * (Z * Z))
      c₁ Z = omega arith

      c₀ : (Z : ℕ) → 2 ^ 32 * (f * Z * Z * Z) ≤ 2 ^ 32 * (f * (Z * Z * Z))
      c₀ Z = omega arith

  pub added-high : 2 ^ 32 * plus_of Z X ≤ (added w + 14) * (f * Z * Z * Z)
  added-high =
      high (2 ^ 32) A₁ (f * Z * Z) (47424990412800 * (Z * Z) + X * (250925875200 * Z + X * 233963520)) (f * (Z * Z * Z)) 9 2
      (high 572662306 A₂ (f * Z) (250925875200 * Z + X * 233963520) (47424990412800 * (Z * Z)) 5 1 (high 3029959 2825 f 233963520 (250925875200 * Z) 1 1 (lit≤ tt) (c₂ Z) (lit≤ tt) (lit≤ tt)) (c₁ Z) (small₂ (times w 2825) (times-le w 2825 W)) (lit≤ tt)) (c₀ Z)
      (small₁ (times w 2825) (times w A₂) (times-le w 2825 W) (times-le w A₂ W)) (lit≤ tt)
    where
      c₂ : (Z : ℕ) → 2 ^ 32 * (250925875200 * Z) ≤ (3029959 + 1) * (f * Z)
      c₂ Z = omega arith

      c₁ : (Z : ℕ) → 2 ^ 32 * (47424990412800 * (Z * Z)) ≤ (572662306 + 1) * (f * Z * Z)
      c₁ Z = omega arith

      c₀ : (Z : ℕ) → 2 ^ 32 * (f * (Z * Z * Z)) ≤ (2 ^ 32 + 1) * (f * Z * Z * Z)
      c₀ Z = omega arith

      small₂ : (t : ℕ) → t ≤ 2825 → 8 * (3029959 + t) ≤ 1 * 2 ^ 32
      small₂ t h = omega arith

      small₁ : (t u : ℕ) → t ≤ 2825 → u ≤ 3029959 + t → 8 * (572662306 + u) ≤ 2 * 2 ^ 32
      small₁ t u h k = omega arith

  pub taken-low : taken w * (f * Z * Z * Z) ≤ 2 ^ 32 * minus_of Z X
  taken-low =
      low 2863311530 B₁ (f * Z * Z) (4516665753600 * (Z * Z) + X * (9124577280 * Z + X * 4456448)) (237124952064000 * (Z * Z * Z))
      (low 54539267 B₂ (f * Z) (9124577280 * Z + X * 4456448) (4516665753600 * (Z * Z)) (low 110180 53 f 4456448 (9124577280 * Z) (lit≤ tt) (c₂ Z)) (c₁ Z)) (c₀ Z)
    where
      c₂ : (Z : ℕ) → 110180 * (f * Z) ≤ 2 ^ 32 * (9124577280 * Z)
      c₂ Z = omega arith

      c₁ : (Z : ℕ) → 54539267 * (f * Z * Z) ≤ 2 ^ 32 * (4516665753600 * (Z * Z))
      c₁ Z = omega arith

      c₀ : (Z : ℕ) → 2863311530 * (f * Z * Z * Z) ≤ 2 ^ 32 * (237124952064000 * (Z * Z * Z))
      c₀ Z = omega arith

  pub taken-high : 2 ^ 32 * minus_of Z X ≤ (taken w + 13) * (f * Z * Z * Z)
  taken-high =
      high 2863311530 B₁ (f * Z * Z) (4516665753600 * (Z * Z) + X * (9124577280 * Z + X * 4456448)) (237124952064000 * (Z * Z * Z)) 9 1
      (high 54539267 B₂ (f * Z) (9124577280 * Z + X * 4456448) (4516665753600 * (Z * Z)) 5 1 (high 110180 53 f 4456448 (9124577280 * Z) 1 1 (lit≤ tt) (c₂ Z) (lit≤ tt) (lit≤ tt)) (c₁ Z) (small₂ (times w 53) (times-le w 53 W)) (lit≤ tt)) (c₀ Z)
      (small₁ (times w 53) (times w B₂) (times-le w 53 W) (times-le w B₂ W)) (lit≤ tt)
    where
      c₂ : (Z : ℕ) → 2 ^ 32 * (9124577280 * Z) ≤ (110180 + 1) * (f * Z)
      c₂ Z = omega arith

      c₁ : (Z : ℕ) → 2 ^ 32 * (4516665753600 * (Z * Z)) ≤ (54539267 + 1) * (f * Z * Z)
      c₁ Z = omega arith

      c₀ : (Z : ℕ) → 2 ^ 32 * (237124952064000 * (Z * Z * Z)) ≤ (2863311530 + 1) * (f * Z * Z * Z)
      c₀ Z = omega arith

      small₂ : (t : ℕ) → t ≤ 53 → 8 * (110180 + t) ≤ 1 * 2 ^ 32
      small₂ t h = omega arith

      small₁ : (t u : ℕ) → t ≤ 53 → u ≤ 110180 + t → 8 * (54539267 + u) ≤ 1 * 2 ^ 32
      small₁ t u h k = omega arith

-- ---- both sums: y / b stands for v / u
module _ (b y T u v D n : ℕ) (B : 0 < b) where
  taken-off-low : y * u ≤ b * v → T * D ≤ b * n → y * T / b * (u * u * D) ≤ b * (v * u * n)
  taken-off-low h k =
      let q = y * T / b in
      let a : q * b ≤ y * T = div-mul-le_self (y * T) b in
      le_of_mul-le-mul_right {k = b} (go q (mul-le-mul_right (u * u * D) a) (mul-le-mul_right u (mul-le-mul h k))) B
    where
      go : (q : ℕ) → q * b * (u * u * D) ≤ y * T * (u * u * D) → y * u * (T * D) * u ≤ b * v * (b * n) * u → q * (u * u * D) * b ≤ b * (v * u * n) * b
      go q x z = omega (arith, x, z)

  taken-off-high : b * v ≤ (y + 3) * u → b * n ≤ (T + 13) * D → y ≤ b → T ≤ b → 39 ≤ b → b * (v * u * n) ≤ (y * T / b + 18) * (u * u * D)
  taken-off-high h k l m s =
      let q = y * T / b in
      let x : y * T < q * b + b = lt-div-mul-add B in
      le_of_mul-le-mul_right {k = b} (go q (mul-le-mul_right u (mul-le-mul h k)) (mul-le-mul_right (u * u * D) (inner q (le_of_lt x)))) B
    where
      inner : (q : ℕ) → y * T ≤ q * b + b → (y + 3) * (T + 13) ≤ (q + 18) * b
      inner q x = omega (arith, x, l, m, s)

      go : (q : ℕ) → b * v * (b * n) * u ≤ (y + 3) * u * ((T + 13) * D) * u → (y + 3) * (T + 13) * (u * u * D) ≤ (q + 18) * b * (u * u * D) → b * (v * u * n) * b ≤ (q + 18) * (u * u * D) * b
      go q x z = omega (arith, x, z)

-- ---- the square of r and its square, cut
square-in : (b k r q y : ℕ) → q * k ≤ r → r ≤ (q + 1) * k → y * b ≤ q * q → q * q ≤ (y + 1) * b → q + 1 ≤ b → (y * (b * (k * k)) ≤ r * r) × (r * r ≤ (y + 3) * (b * (k * k)))
square-in b k r q y h i l m s = (omega (arith, mul-le-mul h h, mul-le-mul_right (k * k) l), omega (arith, mul-le-mul i i, mul-le-mul_right (k * k) m, mul-le-mul_right (k * k) s))

fourth-in : (b c y w v : ℕ) → y * c ≤ v → v ≤ (y + 3) * c → w * b ≤ y * y → y * y ≤ (w + 1) * b → y ≤ b → 9 ≤ b → (w * (b * (c * c)) ≤ v * v) × (v * v ≤ (w + 8) * (b * (c * c)))
fourth-in b c y w v h i l m s t = (omega (arith, mul-le-mul h h, mul-le-mul_right (c * c) l), omega (arith, mul-le-mul i i, mul-le-mul_right (c * c) m, mul-le-mul_right (c * c) s, mul-le-mul_right (c * c) t))

-- ---- the partial sum of 8 terms, over one denominator
module _ (n d : ℕ) where
  four-den : 65536 * (sums Ksin n d n d 4).den ≡ d * (4 * (d * d) * (4 * (d * d)) * (f * (4 * (d * d) * (4 * (d * d))) * (4 * (d * d) * (4 * (d * d))) * (4 * (d * d) * (4 * (d * d)))))
  unfolding sums
  four-den = omega arith

  four-plus : 65536 * (sums Ksin n d n d 4).plus ≡ n * (4 * (d * d) * (4 * (d * d)) * plus_of (4 * (d * d) * (4 * (d * d))) (n * n * (n * n)))
  unfolding sums
  four-plus = omega arith

  three-minus : (sums Ksin n d n d 3).minus ≡ n * (1037836800 * (n * n * (d * d * (d * d) * (d * d) * (d * d) * (d * d))) + 1235520 * (n * n * (n * n) * (n * n) * (d * d * (d * d) * (d * d))) + 156 * (n * n * (n * n) * (n * n) * (n * n) * (n * n) * (d * d)))
  unfolding sums
  three-minus = omega arith

  three-next : (sums Ksin n d n d 3).next ≡ n * (n * n * (n * n) * (n * n * (n * n)) * (n * n * (n * n)))
  unfolding sums
  three-next = omega arith

  last-minus : (sums Ksin n d n d 4).minus ≡ (sums Ksin n d n d 3).minus * (d * d * 210 * (d * d * 272)) + (sums Ksin n d n d 3).next * (n * n) * (d * d * 272)
  unfolding sums
  last-minus = refl

  four-minus : 65536 * (sums Ksin n d n d 4).minus ≡ n * (n * n * (4 * (d * d)) * minus_of (4 * (d * d) * (4 * (d * d))) (n * n * (n * n)))
  four-minus = ap (λ (x : ℕ). 65536 * x) (last-minus ∙ ap₂ (λ (x y : ℕ). x * (d * d * 210 * (d * d * 272)) + y * (n * n) * (d * d * 272)) three-minus three-next) ∙ go
    where
      go : 65536 * (n * (1037836800 * (n * n * (d * d * (d * d) * (d * d) * (d * d) * (d * d))) + 1235520 * (n * n * (n * n) * (n * n) * (d * d * (d * d) * (d * d))) + 156 * (n * n * (n * n) * (n * n) * (n * n) * (n * n) * (d * d))) * (d * d * 210 * (d * d * 272)) + n * (n * n * (n * n) * (n * n * (n * n)) * (n * n * (n * n))) * (n * n) * (d * d * 272)) ≡ n * (n * n * (4 * (d * d)) * minus_of (4 * (d * d) * (4 * (d * d))) (n * n * (n * n)))
      go = omega arith

  four-next : (sums Ksin n d n d 4).next ≡ n * (n * n * (n * n) * (n * n * (n * n)) * (n * n * (n * n)) * (n * n * (n * n)))
  unfolding sums
  four-next = omega arith

-- ---- the two bounds, u being 4 d² and v being n²
module _ (b d n s D P M N u v : ℕ) where
  -- times 65536 / (n * d)
  low_of : (den plus minus : ℕ) → 65536 * den ≡ d * (u * u * D) → 65536 * plus ≡ n * (u * u * P) → 65536 * minus ≡ n * (v * u * M) → s * (u * u * D) + b * (v * u * M) ≤ b * (u * u * P) + 20 * (u * u * D)
      → s * n * den + b * d * minus ≤ b * d * plus + (0 + 20 * n) * den
  low_of den plus minus e g h k = le_of_mul-le-mul_right {k = 65536} (go (u * u * D) (u * u * P) (v * u * M) e g h k) (lit< tt)
    where
      go : (x y z : ℕ) → 65536 * den ≡ d * x → 65536 * plus ≡ n * y → 65536 * minus ≡ n * z → s * x + b * z ≤ b * y + 20 * x → (s * n * den + b * d * minus) * 65536 ≤ (b * d * plus + (0 + 20 * n) * den) * 65536
      go x y z e g h k = omega (arith, ap (λ (t : ℕ). s * n * t) e, ap (λ (t : ℕ). 20 * n * t) e, ap (λ (t : ℕ). b * d * t) g, ap (λ (t : ℕ). b * d * t) h, mul-le-mul_right (n * d) k)

  high-of : (den plus minus next : ℕ) → 65536 * den ≡ d * (u * u * D) → 65536 * plus ≡ n * (u * u * P) → 65536 * minus ≡ n * (v * u * M) → next ≡ n * N → b * (u * u * P + 65536 * N) ≤ b * (v * u * M) + (s + 20) * (u * u * D)
      → b * d * (plus + next) + 0 * den ≤ b * d * minus + (s * n + 20 * n) * den
  high-of den plus minus next e g h i k = le_of_mul-le-mul_right {k = 65536} (go (u * u * D) (u * u * P) (v * u * M) e g h i k) (lit< tt)
    where
      go : (x y z : ℕ) → 65536 * den ≡ d * x → 65536 * plus ≡ n * y → 65536 * minus ≡ n * z → next ≡ n * N → b * (y + 65536 * N) ≤ b * z + (s + 20) * x → (b * d * (plus + next) + 0 * den) * 65536 ≤ (b * d * minus + (s * n + 20 * n) * den) * 65536
      go x y z e g h i k = omega (arith, ap (λ (t : ℕ). s * n * t) e, ap (λ (t : ℕ). 20 * n * t) e, ap (λ (t : ℕ). b * d * t) g, ap (λ (t : ℕ). b * d * t) h, ap (λ (t : ℕ). b * d * t) i, mul-le-mul_right (n * d) k)

-- s = a - t, where a and t are the two sums
join-low : (b s a t E P M : ℕ) → s + t ≡ a → a * E ≤ b * P → b * M ≤ (t + 18) * E → s * E + b * M ≤ b * P + 20 * E
join-low b s a t E P M e g h = omega (arith, ap (λ (x : ℕ). x * E) e, g, h)

join-high : (b s a t E P M N : ℕ) → s + t ≡ a → b * P ≤ (a + 14) * E → t * E ≤ b * M → b * (65536 * N) ≤ E → b * (P + 65536 * N) ≤ b * M + (s + 20) * E
join-high b s a t E P M N e g h i = omega (arith, ap (λ (x : ℕ). x * E) e, g, h, i)

-- the ninth term
ninth : (v u : ℕ) → v ≤ u → 2 ^ 32 * (65536 * (v * v * (v * v) * (v * v) * (v * v))) ≤ u * u * (f * (u * u) * (u * u) * (u * u))
ninth v u h = let a = mul-le-mul h h in go (v * v) (u * u) a (mul-le-mul (mul-le-mul (mul-le-mul a a) a) a)
  where
    go : (x z : ℕ) → x ≤ z → x * x * x * x ≤ z * z * z * z → 2 ^ 32 * (65536 * (x * x * x * x)) ≤ z * (f * z * z * z)
    go x z l k = omega (arith, k)

scale : (a D b P k : ℕ) → a * D ≤ b * P → a * (k * D) ≤ b * (k * P)
scale a D b P k h = omega (arith, mul-le-mul_right k h)

move-low : (b c y v : ℕ) → y * c ≤ v → y * (b * c) ≤ b * v
move-low b c y v h = omega (arith, mul-le-mul_left b h)

move-high : (b c y v : ℕ) → v ≤ (y + 3) * c → b * v ≤ (y + 3) * (b * c)
move-high b c y v h = omega (arith, mul-le-mul_left b h)

div-in : (x b : ℕ) → 0 < b → (x / b * b ≤ x) × (x ≤ (x / b + 1) * b)
div-in x b B = (div-mul-le_self x b, div-high x b B)

-- the units: 4 d² for d = 2 ^ 61, and its square
abbrev unit : ℕ
unit = 4 * (2 ^ 61 * 2 ^ 61)

abbrev unit² : ℕ
unit² = unit * unit

module _ (r : ℕ) (h : r < 2 ^ 62) where
  q-lt : r / 2 ^ 30 < 2 ^ 32
  q-lt = square-lt r h

  abbrev y : ℕ
  y = square_of r

  y-lt : square_of r < 2 ^ 32
  y-lt = times-lt (r / 2 ^ 30) (r / 2 ^ 30) q-lt q-lt

  abbrev w : ℕ
  w = times (square_of r) (square_of r)

  w-lt : times (square_of r) (square_of r) < 2 ^ 32
  w-lt = times-lt (square_of r) (square_of r) y-lt y-lt

  y-in : (square_of r * 2 ^ 92 ≤ r * r) × (r * r ≤ (square_of r + 3) * 2 ^ 92)
  y-in = let i = div-in r (2 ^ 30) (pow_pos 30) in let j = div-in (r / 2 ^ 30 * (r / 2 ^ 30)) (2 ^ 32) (pow_pos 32) in square-in (2 ^ 32) (2 ^ 30) r (r / 2 ^ 30) (square_of r) i.0 i.1 j.0 j.1 (up (r / 2 ^ 30) q-lt)
    where
      up : (x : ℕ) → x < 2 ^ 32 → x + 1 ≤ 2 ^ 32
      up x l = omega arith

  w-in : (times (square_of r) (square_of r) * 2 ^ 216 ≤ r * r * (r * r)) × (r * r * (r * r) ≤ (times (square_of r) (square_of r) + 8) * 2 ^ 216)
  w-in = let j = div-in (square_of r * square_of r) (2 ^ 32) (pow_pos 32) in fourth-in (2 ^ 32) (2 ^ 92) (square_of r) (times (square_of r) (square_of r)) (r * r) y-in.0 y-in.1 j.0 j.1 (le_of_lt y-lt) (lit≤ tt)

  small : r * r ≤ unit
  small = mul-le-mul (le_of_lt h) (le_of_lt h)

  whole : ratio_of r + times (square_of r) (taken (times (square_of r) (square_of r))) ≡ added (times (square_of r) (square_of r))
  unfolding ratio_of
  whole = sub-add_cancel (ratio-in r h).whole

  pub kernel-low : Low Ksin r (2 ^ 61) (2 ^ 93) (ratio_of r * r) 0 (20 * r) (sums Ksin r (2 ^ 61) r (2 ^ 61) 4)
  kernel-low =
      let s = sums Ksin r (2 ^ 61) r (2 ^ 61) 4 in
      low_of (2 ^ 32) (2 ^ 61) r (ratio_of r) (f * unit² * unit² * unit²) (plus_of unit² (r * r * (r * r))) (minus_of unit² (r * r * (r * r))) 0 unit (r * r) s.den s.plus s.minus (four-den r (2 ^ 61)) (four-plus r (2 ^ 61)) (four-minus r (2 ^ 61))
      (join-low (2 ^ 32) (ratio_of r) (added w) (times y (taken w)) (unit * unit * (f * unit² * unit² * unit²)) (unit * unit * plus_of unit² (r * r * (r * r))) (r * r * unit * minus_of unit² (r * r * (r * r))) whole
      (scale (added w) (f * unit² * unit² * unit²) (2 ^ 32) (plus_of unit² (r * r * (r * r))) (unit * unit) (added-low w (2 ^ 216) (r * r * (r * r)) w-lt w-in.0 w-in.1))
      (taken-off-high (2 ^ 32) y (taken w) unit (r * r) (f * unit² * unit² * unit²) (minus_of unit² (r * r * (r * r))) (pow_pos 32) (move-high (2 ^ 32) (2 ^ 92) y (r * r) y-in.1) (taken-high w (2 ^ 216) (r * r * (r * r)) w-lt w-in.0 w-in.1) (le_of_lt y-lt) (le_trans (taken-le w w-lt) (lit≤ tt)) (lit≤ tt)))

  pub kernel-high : High Ksin r (2 ^ 61) (2 ^ 93) (ratio_of r * r) 0 (20 * r) (sums Ksin r (2 ^ 61) r (2 ^ 61) 4)
  kernel-high =
      let s = sums Ksin r (2 ^ 61) r (2 ^ 61) 4 in
      let N = r * r * (r * r) * (r * r * (r * r)) * (r * r * (r * r)) * (r * r * (r * r)) in
      high-of (2 ^ 32) (2 ^ 61) r (ratio_of r) (f * unit² * unit² * unit²) (plus_of unit² (r * r * (r * r))) (minus_of unit² (r * r * (r * r))) N unit (r * r) s.den s.plus s.minus s.next (four-den r (2 ^ 61)) (four-plus r (2 ^ 61)) (four-minus r (2 ^ 61)) (four-next r (2 ^ 61))
      (join-high (2 ^ 32) (ratio_of r) (added w) (times y (taken w)) (unit * unit * (f * unit² * unit² * unit²)) (unit * unit * plus_of unit² (r * r * (r * r))) (r * r * unit * minus_of unit² (r * r * (r * r))) N whole
      (scale (2 ^ 32) (plus_of unit² (r * r * (r * r))) (added w + 14) (f * unit² * unit² * unit²) (unit * unit) (added-high w (2 ^ 216) (r * r * (r * r)) w-lt w-in.0 w-in.1))
      (taken-off-low (2 ^ 32) y (taken w) unit (r * r) (f * unit² * unit² * unit²) (minus_of unit² (r * r * (r * r))) (pow_pos 32) (move-low (2 ^ 32) (2 ^ 92) y (r * r) y-in.0) (taken-low w (2 ^ 216) (r * r * (r * r)) w-lt w-in.0 w-in.1))
      (ninth (r * r) unit small))

  falls : (k : ℕ) → 2 * 4 ≤ k → r * r ≤ 2 ^ 61 * 2 ^ 61 * Ksin k
  falls k l = le_trans small (le_trans (le_of_eq (mul_comm 4 (2 ^ 61 * 2 ^ 61))) (mul-le-mul_left (2 ^ 61 * 2 ^ 61) (large k l)))
    where
      large : (k : ℕ) → 2 * 4 ≤ k → 4 ≤ Ksin k
      large k l = omega arith

  -- from 8 terms on every partial sum of the sine at r / 2 ^ 61 is that close
  pub kernel : Limit Ksin r (2 ^ 61) r (2 ^ 61) 4 (2 ^ 93) (ratio_of r * r) 0 (20 * r)
  kernel = limit Ksin r (2 ^ 61) (2 ^ 93) (ratio_of r * r) 0 (20 * r) r (2 ^ 61) 4 falls kernel-low kernel-high
