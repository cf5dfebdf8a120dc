-- Sine and cosine by pairs of terms are sine and cosine by the classes modulo 4 of the exponential series: j pairs are the terms up to number 4 j.
use mathlib.Core.Path.{◌≡◌, refl, sym, ap, ap₂, ◌∙◌, subst}
use Prim.Native.Nat.{ℕ, zero, suc, ◌+◌, ◌*◌, ◌^◌}
use native.Mathlib.Nat.{mul_assoc, pow-suc, pow-zero}
use native.Mathlib.Omega.{arith}
use Rattle.series.specs.Series.{full, num, class}
use Rattle.series.proofs.Terms.{pow-1, full-suc}
use Rattle.series.proofs.Pairs.{Sums, grow, sums, Ksin, Kcos, SinSame, CosSame}

-- 4 j
unfoldable pub quad : ℕ → ℕ
quad zero = 0
quad (suc j) = suc (suc (suc (suc (quad j))))

pub quad_is : (j : ℕ) → quad j ≡ 4 * j
unfolding quad
quad_is zero = refl
quad_is (suc j) = omega (arith, quad_is j)

pub class-at : (j : ℕ) → (class 0 (quad j) ≡ 1) × (class 1 (quad j) ≡ 0) × (class 2 (quad j) ≡ 0) × (class 3 (quad j) ≡ 0)
unfolding quad class
class-at zero = (refl, refl, refl, refl)
class-at (suc j) = class-at j

full-4 : (d k : ℕ) → full d (suc (suc (suc (suc k)))) ≡ full d k * (d * suc k) * (d * suc (suc k)) * (d * suc (suc (suc k))) * (d * suc (suc (suc (suc k))))
unfolding full
full-4 d k = refl

-- four terms with the weights c₁ .. c₄
abbrev four : (N d₁ d₂ d₃ d₄ y₁ y₂ y₃ y₄ c₁ c₂ c₃ c₄ : ℕ) → ℕ
four N d₁ d₂ d₃ d₄ y₁ y₂ y₃ y₄ c₁ c₂ c₃ c₄ = (((N * d₁ + c₁ * y₁) * d₂ + c₂ * y₂) * d₃ + c₃ * y₃) * d₄ + c₄ * y₄

num-4 : (c : ℕ → ℕ) (n d k : ℕ) → num c n d (suc (suc (suc (suc k)))) ≡ four (num c n d k) (d * suc k) (d * suc (suc k)) (d * suc (suc (suc k))) (d * suc (suc (suc (suc k)))) (n ^ suc k) (n ^ suc (suc k)) (n ^ suc (suc (suc k))) (n ^ suc (suc (suc (suc k)))) (c (suc k)) (c (suc (suc k))) (c (suc (suc (suc k)))) (c (suc (suc (suc (suc k)))))
unfolding num
num-4 c n d k = refl

weights : (N d₁ d₂ d₃ d₄ y₁ y₂ y₃ y₄ c₁ c₂ c₃ c₄ a₁ a₂ a₃ a₄ : ℕ) → c₁ ≡ a₁ → c₂ ≡ a₂ → c₃ ≡ a₃ → c₄ ≡ a₄ → four N d₁ d₂ d₃ d₄ y₁ y₂ y₃ y₄ c₁ c₂ c₃ c₄ ≡ four N d₁ d₂ d₃ d₄ y₁ y₂ y₃ y₄ a₁ a₂ a₃ a₄
weights N d₁ d₂ d₃ d₄ y₁ y₂ y₃ y₄ c₁ c₂ c₃ c₄ a₁ a₂ a₃ a₄ e₁ e₂ e₃ e₄ = ap₂ (λ (x z : ℕ). four N d₁ d₂ d₃ d₄ y₁ y₂ y₃ y₄ x z c₃ c₄) e₁ e₂ ∙ ap₂ (λ (x z : ℕ). four N d₁ d₂ d₃ d₄ y₁ y₂ y₃ y₄ a₁ a₂ x z) e₃ e₄

module _ (n d j : ℕ) where
  abbrev k : ℕ
  k = quad j

  abbrev d₁ : ℕ
  d₁ = d * suc (quad j)

  abbrev d₂ : ℕ
  d₂ = d * suc (suc (quad j))

  abbrev d₃ : ℕ
  d₃ = d * suc (suc (suc (quad j)))

  abbrev d₄ : ℕ
  d₄ = d * suc (suc (suc (suc (quad j))))

  abbrev d₅ : ℕ
  d₅ = d * suc (suc (suc (suc (suc (quad j)))))

  full-next : full d (quad (suc j)) ≡ full d k * d₁ * d₂ * d₃ * d₄
  unfolding quad
  full-next = full-4 d (quad j)

  step : (r a₁ a₂ a₃ a₄ : ℕ) → class r (suc k) ≡ a₁ → class r (suc (suc k)) ≡ a₂ → class r (suc (suc (suc k))) ≡ a₃ → class r (suc (suc (suc (suc k)))) ≡ a₄
      → num (class r) n d (quad (suc j)) ≡ four (num (class r) n d k) d₁ d₂ d₃ d₄ (n ^ suc k) (n ^ suc (suc k)) (n ^ suc (suc (suc k))) (n ^ suc (suc (suc (suc k)))) a₁ a₂ a₃ a₄
  unfolding quad
  step r a₁ a₂ a₃ a₄ e₁ e₂ e₃ e₄ = num-4 (class r) n d (quad j) ∙ weights (num (class r) n d k) d₁ d₂ d₃ d₄ (n ^ suc k) (n ^ suc (suc k)) (n ^ suc (suc (suc k))) (n ^ suc (suc (suc (suc k)))) (class r (suc k)) (class r (suc (suc k))) (class r (suc (suc (suc k)))) (class r (suc (suc (suc (suc k))))) a₁ a₂ a₃ a₄ e₁ e₂ e₃ e₄

  next-1 : num (class 1) n d (quad (suc j)) ≡ (num (class 1) n d k * d₁ + n ^ suc k) * (d₂ * d₃ * d₄)
  unfolding class
  next-1 = let c = class-at j in step 1 1 0 0 0 c.0 c.3 c.2 c.1 ∙ go (num (class 1) n d k) d₁ d₂ d₃ d₄ (n ^ suc k) (n ^ suc (suc k)) (n ^ suc (suc (suc k))) (n ^ suc (suc (suc (suc k))))
    where
      go : (N d₁ d₂ d₃ d₄ y₁ y₂ y₃ y₄ : ℕ) → four N d₁ d₂ d₃ d₄ y₁ y₂ y₃ y₄ 1 0 0 0 ≡ (N * d₁ + y₁) * (d₂ * d₃ * d₄)
      go N d₁ d₂ d₃ d₄ y₁ y₂ y₃ y₄ = omega arith

  next-3 : num (class 3) n d (quad (suc j)) ≡ (num (class 3) n d k * d₁ * d₂ * d₃ + n ^ suc (suc (suc k))) * d₄
  unfolding class
  next-3 = let c = class-at j in step 3 0 0 1 0 c.2 c.1 c.0 c.3 ∙ go (num (class 3) n d k) d₁ d₂ d₃ d₄ (n ^ suc k) (n ^ suc (suc k)) (n ^ suc (suc (suc k))) (n ^ suc (suc (suc (suc k))))
    where
      go : (N d₁ d₂ d₃ d₄ y₁ y₂ y₃ y₄ : ℕ) → four N d₁ d₂ d₃ d₄ y₁ y₂ y₃ y₄ 0 0 1 0 ≡ (N * d₁ * d₂ * d₃ + y₃) * d₄
      go N d₁ d₂ d₃ d₄ y₁ y₂ y₃ y₄ = omega arith

  next-0 : num (class 0) n d (quad (suc j)) ≡ num (class 0) n d k * (d₁ * d₂ * (d₃ * d₄)) + n ^ suc (suc (suc (suc k)))
  unfolding class
  next-0 = let c = class-at j in step 0 0 0 0 1 c.3 c.2 c.1 c.0 ∙ go (num (class 0) n d k) d₁ d₂ d₃ d₄ (n ^ suc k) (n ^ suc (suc k)) (n ^ suc (suc (suc k))) (n ^ suc (suc (suc (suc k))))
    where
      go : (N d₁ d₂ d₃ d₄ y₁ y₂ y₃ y₄ : ℕ) → four N d₁ d₂ d₃ d₄ y₁ y₂ y₃ y₄ 0 0 0 1 ≡ N * (d₁ * d₂ * (d₃ * d₄)) + y₄
      go N d₁ d₂ d₃ d₄ y₁ y₂ y₃ y₄ = omega arith

  next-2 : num (class 2) n d (quad (suc j)) ≡ (num (class 2) n d k * (d₁ * d₂) + n ^ suc (suc k)) * (d₃ * d₄)
  unfolding class
  next-2 = let c = class-at j in step 2 0 1 0 0 c.1 c.0 c.3 c.2 ∙ go (num (class 2) n d k) d₁ d₂ d₃ d₄ (n ^ suc k) (n ^ suc (suc k)) (n ^ suc (suc (suc k))) (n ^ suc (suc (suc (suc k))))
    where
      go : (N d₁ d₂ d₃ d₄ y₁ y₂ y₃ y₄ : ℕ) → four N d₁ d₂ d₃ d₄ y₁ y₂ y₃ y₄ 0 1 0 0 ≡ (N * (d₁ * d₂) + y₂) * (d₃ * d₄)
      go N d₁ d₂ d₃ d₄ y₁ y₂ y₃ y₄ = omega arith

  -- the factors of `grow`
  sin-g : d * d * Ksin (2 * j) ≡ d₂ * d₃
  sin-g = go (quad j) (quad_is j)
    where
      go : (q : ℕ) → q ≡ 4 * j → d * d * Ksin (2 * j) ≡ d * suc (suc q) * (d * suc (suc (suc q)))
      go q e = subst (λ (x : ℕ). d * d * Ksin (2 * j) ≡ d * suc (suc x) * (d * suc (suc (suc x)))) (sym e) (omega arith)

  sin-h : d * d * Ksin (2 * j + 1) ≡ d₄ * d₅
  sin-h = go (quad j) (quad_is j)
    where
      go : (q : ℕ) → q ≡ 4 * j → d * d * Ksin (2 * j + 1) ≡ d * suc (suc (suc (suc q))) * (d * suc (suc (suc (suc (suc q)))))
      go q e = subst (λ (x : ℕ). d * d * Ksin (2 * j + 1) ≡ d * suc (suc (suc (suc x))) * (d * suc (suc (suc (suc (suc x)))))) (sym e) (omega arith)

  cos-g : d * d * Kcos (2 * j) ≡ d₁ * d₂
  cos-g = go (quad j) (quad_is j)
    where
      go : (q : ℕ) → q ≡ 4 * j → d * d * Kcos (2 * j) ≡ d * suc q * (d * suc (suc q))
      go q e = subst (λ (x : ℕ). d * d * Kcos (2 * j) ≡ d * suc x * (d * suc (suc x))) (sym e) (omega arith)

  cos-h : d * d * Kcos (2 * j + 1) ≡ d₃ * d₄
  cos-h = go (quad j) (quad_is j)
    where
      go : (q : ℕ) → q ≡ 4 * j → d * d * Kcos (2 * j + 1) ≡ d * suc (suc (suc q)) * (d * suc (suc (suc (suc q))))
      go q e = subst (λ (x : ℕ). d * d * Kcos (2 * j + 1) ≡ d * suc (suc (suc x)) * (d * suc (suc (suc (suc x))))) (sym e) (omega arith)

pow-2 : (n k : ℕ) → n ^ suc (suc k) ≡ n ^ k * (n * n)
pow-2 n k = pow-suc n (suc k) ∙ ap (λ (x : ℕ). x * n) (pow-suc n k) ∙ mul_assoc (n ^ k) n n

pow-4 : (n k : ℕ) → n ^ suc (suc (suc (suc k))) ≡ n ^ k * (n * n) * (n * n)
pow-4 n k = pow-2 n (suc (suc k)) ∙ ap (λ (x : ℕ). x * (n * n)) (pow-2 n k)

-- ---- the sine
-- the algebra of one step: g = d₂ d₃, h = d₄ d₅, and f is what full d k lacks to full d (k + 4) but for d₁
module _ (P Q A D N N' F y v d₁ g h f : ℕ) (p : P * F ≡ N * D) (q : Q * F ≡ N' * D) (a : A * (F * d₁) ≡ y * D) where
  plus_step : (P + A) * (g * h) * (F * d₁ * f) ≡ (N * d₁ + y) * f * (D * (g * h))
  plus_step = go (g * h)
    where
      go : (G : ℕ) → (P + A) * G * (F * d₁ * f) ≡ (N * d₁ + y) * f * (D * G)
      go G = omega (arith, ap (λ (x : ℕ). x * (d₁ * f * G)) p, ap (λ (x : ℕ). x * (f * G)) a)

  minus-step : (d₄ : ℕ) → f ≡ g * d₄ → (Q * (g * h) + A * v * h) * (F * d₁ * f) ≡ (N' * (d₁ * g) + y * v) * d₄ * (D * (g * h))
  minus-step d₄ e = ap (λ (x : ℕ). (Q * (g * h) + A * v * h) * (F * d₁ * x)) e ∙ split-up Q A h (F * d₁) ∙ ap₂ (λ (x z : ℕ). x + z) (first (F * d₁)) (second (A * (F * d₁)) (y * D) a) ∙ join
    where
      split-up : (Q A h E : ℕ) → (Q * (g * h) + A * v * h) * (E * (g * d₄)) ≡ Q * E * (g * h * (g * d₄)) + A * E * (v * h * (g * d₄))
      split-up Q A h E = omega arith

      first : (E : ℕ) → Q * (F * d₁) * (g * h * (g * d₄)) ≡ N' * D * d₁ * (g * h * (g * d₄))
      first E = ap (λ (x : ℕ). x * (g * h * (g * d₄))) (sym (mul_assoc Q F d₁) ∙ ap (λ (x : ℕ). x * d₁) q)

      second : (x z : ℕ) → x ≡ z → x * (v * h * (g * d₄)) ≡ z * (v * h * (g * d₄))
      second x z e = ap (λ (t : ℕ). t * (v * h * (g * d₄))) e

      join : N' * D * d₁ * (g * h * (g * d₄)) + y * D * (v * h * (g * d₄)) ≡ (N' * (d₁ * g) + y * v) * d₄ * (D * (g * h))
      join = omega arith

  next-step : (d₅ : ℕ) → f * d₅ ≡ g * h → A * v * v * (F * d₁ * f * d₅) ≡ y * v * v * (D * (g * h))
  next-step d₅ e = go (F * d₁) (g * h) (f * d₅) e a
    where
      go : (E G B : ℕ) → f * d₅ ≡ G → A * E ≡ y * D → A * v * v * (E * f * d₅) ≡ y * v * v * (D * G)
      go E G B e a = omega (arith, ap (λ (x : ℕ). A * v * v * E * x) e, ap (λ (x : ℕ). x * (v * v * G)) a)

sin-start : (n d : ℕ) → SinSame n d 0 (record { den = d; next = n; plus = 0; minus = 0 })
unfolding num full class
sin-start n d = record { plus = omega arith; minus = omega arith; next = go (n ^ 1) (pow-1 n) }
  where
    go : (y : ℕ) → y ≡ n → n * (1 * (d * 1)) ≡ y * d
    go y e = omega (arith, ap (λ (x : ℕ). x * d) e)

sin-grow : (n d j : ℕ) (s : Sums) → SinSame n d (quad j) s → SinSame n d (quad (suc j)) (grow Ksin n d j s)
unfolding quad
sin-grow n d j s I =
    let k = quad j in
    let F = full d k in
    let e₁ = d * suc k in
    let e₂ = d * suc (suc k) in
    let e₃ = d * suc (suc (suc k)) in
    let e₄ = d * suc (suc (suc (suc k))) in
    let e₅ = d * suc (suc (suc (suc (suc k)))) in
    let g = d * d * Ksin (2 * j) in
    let h = d * d * Ksin (2 * j + 1) in
    let G = sin-g n d j in
    let H = sin-h n d j in
    let A : s.next * (F * e₁) ≡ n ^ suc k * s.den = ap (λ (x : ℕ). s.next * x) (sym (full-suc d k)) ∙ I.next in
    let W : full d (quad (suc j)) ≡ F * e₁ * (e₂ * e₃ * e₄) = full-next n d j ∙ regroup F e₁ e₂ e₃ e₄ in
    record {
      plus = ap (λ (x : ℕ). (s.plus + s.next) * (g * h) * x) W
          ∙ plus_step s.plus s.minus s.next s.den (num (class 1) n d k) (num (class 3) n d k) F (n ^ suc k) (n * n) e₁ g h (e₂ * e₃ * e₄) I.plus I.minus A
          ∙ ap (λ (x : ℕ). x * (s.den * (g * h))) (sym (next-1 n d j));
      minus = ap (λ (x : ℕ). (s.minus * (g * h) + s.next * (n * n) * h) * x) W
          ∙ minus-step s.plus s.minus s.next s.den (num (class 1) n d k) (num (class 3) n d k) F (n ^ suc k) (n * n) e₁ g h (e₂ * e₃ * e₄) I.plus I.minus A e₄ (ap (λ (x : ℕ). x * e₄) (sym G))
          ∙ ap (λ (x : ℕ). x * (s.den * (g * h))) (ap₂ (λ (x z : ℕ). (num (class 3) n d k * (e₁ * x) + z) * e₄) G (sym (pow-2 n (suc k))) ∙ flat (num (class 3) n d k) e₁ e₂ e₃ e₄ (n ^ suc (suc (suc k))) ∙ sym (next-3 n d j));
      next = ap (λ (x : ℕ). s.next * (n * n) * (n * n) * x) (full-suc d (quad (suc j)) ∙ ap (λ (x : ℕ). x * e₅) W)
          ∙ next-step s.plus s.minus s.next s.den (num (class 1) n d k) (num (class 3) n d k) F (n ^ suc k) (n * n) e₁ g h (e₂ * e₃ * e₄) I.plus I.minus A e₅ (mul_assoc (e₂ * e₃) e₄ e₅ ∙ ap₂ (λ (x z : ℕ). x * z) (sym G) (sym H))
          ∙ ap (λ (x : ℕ). x * (s.den * (g * h))) (sym (pow-4 n (suc k)));
    }
  where
    regroup : (F a b c e : ℕ) → F * a * b * c * e ≡ F * a * (b * c * e)
    regroup F a b c e = omega arith

    flat : (N a b c e y : ℕ) → (N * (a * (b * c)) + y) * e ≡ (N * a * b * c + y) * e
    flat N a b c e y = omega arith

pub sin-same : (n d j : ℕ) → SinSame n d (quad j) (sums Ksin n d n d j)
unfolding sums quad
sin-same n d zero = sin-start n d
sin-same n d (suc j) = sin-grow n d j (sums Ksin n d n d j) (sin-same n d j)

-- ---- the cosine: its classes at 4 j have one term more
module _ (P Q A D N N' F y v g h : ℕ) (p : (P + A) * F ≡ N * D) (q : Q * F ≡ N' * D) (a : A * F ≡ y * D) where
  plus-cos : ((P + A) * (g * h) + A * v * v) * (F * (g * h)) ≡ (N * (g * h) + y * v * v) * (D * (g * h))
  plus-cos = go (P + A) (g * h) p
    where
      go : (S G : ℕ) → S * F ≡ N * D → (S * G + A * v * v) * (F * G) ≡ (N * G + y * v * v) * (D * G)
      go S G p = omega (arith, ap (λ (x : ℕ). x * (G * G)) p, ap (λ (x : ℕ). x * (v * v * G)) a)

  minus-cos : (Q * (g * h) + A * v * h) * (F * (g * h)) ≡ (N' * g + y * v) * h * (D * (g * h))
  minus-cos = go (g * h)
    where
      go : (G : ℕ) → (Q * (g * h) + A * v * h) * (F * G) ≡ (N' * g + y * v) * h * (D * G)
      go G = omega (arith, ap (λ (x : ℕ). x * (g * h * G)) q, ap (λ (x : ℕ). x * (v * h * G)) a)

  next-cos : A * v * v * (F * (g * h)) ≡ y * v * v * (D * (g * h))
  next-cos = go (g * h)
    where
      go : (G : ℕ) → A * v * v * (F * G) ≡ y * v * v * (D * G)
      go G = omega (arith, ap (λ (x : ℕ). x * (v * v * G)) a)

cos-start : (n d : ℕ) → CosSame n d 0 (record { den = 1; next = 1; plus = 0; minus = 0 })
unfolding num full class
cos-start n d = record { plus = refl; minus = refl; next = ap (λ (x : ℕ). x * 1) (sym (pow-zero n)) }

cos-grow : (n d j : ℕ) (s : Sums) → CosSame n d (quad j) s → CosSame n d (quad (suc j)) (grow Kcos n d j s)
unfolding quad
cos-grow n d j s I =
    let k = quad j in
    let F = full d k in
    let e₁ = d * suc k in
    let e₂ = d * suc (suc k) in
    let e₃ = d * suc (suc (suc k)) in
    let e₄ = d * suc (suc (suc (suc k))) in
    let g = d * d * Kcos (2 * j) in
    let h = d * d * Kcos (2 * j + 1) in
    let G = cos-g n d j in
    let H = cos-h n d j in
    let W : full d (quad (suc j)) ≡ F * (g * h) = full-next n d j ∙ regroup F e₁ e₂ e₃ e₄ ∙ ap₂ (λ (x z : ℕ). F * (x * z)) (sym G) (sym H) in
    record {
      plus = ap (λ (x : ℕ). ((s.plus + s.next) * (g * h) + s.next * (n * n) * (n * n)) * x) W
          ∙ plus-cos s.plus s.minus s.next s.den (num (class 0) n d k) (num (class 2) n d k) F (n ^ k) (n * n) g h I.plus I.minus I.next
          ∙ ap (λ (x : ℕ). x * (s.den * (g * h))) (ap₂ (λ (x z : ℕ). num (class 0) n d k * x + z) (ap₂ (λ (x z : ℕ). x * z) G H) (sym (pow-4 n k)) ∙ sym (next-0 n d j));
      minus = ap (λ (x : ℕ). (s.minus * (g * h) + s.next * (n * n) * h) * x) W
          ∙ minus-cos s.plus s.minus s.next s.den (num (class 0) n d k) (num (class 2) n d k) F (n ^ k) (n * n) g h I.plus I.minus I.next
          ∙ ap (λ (x : ℕ). x * (s.den * (g * h))) (ap₂ (λ (x z : ℕ). (num (class 2) n d k * x + n ^ k * (n * n)) * z) G H ∙ ap (λ (x : ℕ). (num (class 2) n d k * (e₁ * e₂) + x) * (e₃ * e₄)) (sym (pow-2 n k)) ∙ sym (next-2 n d j));
      next = ap (λ (x : ℕ). s.next * (n * n) * (n * n) * x) W
          ∙ next-cos s.plus s.minus s.next s.den (num (class 0) n d k) (num (class 2) n d k) F (n ^ k) (n * n) g h I.plus I.minus I.next
          ∙ ap (λ (x : ℕ). x * (s.den * (g * h))) (sym (pow-4 n k));
    }
  where
    regroup : (F a b c e : ℕ) → F * a * b * c * e ≡ F * (a * b * (c * e))
    regroup F a b c e = omega arith

pub cos-same : (n d j : ℕ) → CosSame n d (quad j) (sums Kcos n d 1 1 j)
unfolding sums quad
cos-same n d zero = cos-start n d
cos-same n d (suc j) = cos-grow n d j (sums Kcos n d 1 1 j) (cos-same n d j)
