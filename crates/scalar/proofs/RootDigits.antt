-- The root of a = m * 2 ^ (h + 23), for an m of 24 digits: a is A * G * G, with A of 49 or 50 digits, so the root is √A * G, and √A has 25 digits before the point.
-- The 24 digits to keep and the next one are those of Q = `root A`. A is even, so √A is never a whole odd number, and no tie arises: the digits to keep are (Q + 1) / 2. Assumes nothing.
use mathlib.Core.Path.{◌≡◌, refl, sym, ap, ◌∙◌}
use mathlib.Core.Logic.{◌⊎◌, inl, inr}
use mathlib.Core.Bool.{Bool, true, false, cond}
use Prim.Native.Nat.{ℕ, zero, suc, ◌+◌, ◌-◌, ◌*◌, ◌/◌, ◌%◌, ◌^◌, ◌≤◌, ◌<◌}
use native.Mathlib.Nat.{le_trans, le_of_eq, lt_of_lt_of_le, not-suc-le-zero, le_of_suc-le-suc, zero-lt-suc, mul_comm, mul_assoc, mul_left_comm, mul-le-mul_right, mul-lt-mul_of_pos_right, eq_of_mul-eq-mul_right, mul-mul-mul_comm, mul-pos, mod-lt, suc-mul, pow-suc, mul-div-mul_right}
use native.Mathlib.Numerals.{add-one}
use native.Mathlib.Omega.{arith}
use lib.Dec.{T, eqb, eqb→eq}
use lib.Pow.{pow-add, pow_pos}
use lib.Ieee.{binary32, round, units, size}
use lib.Ieee.Fits.{round_is}
use lib.Ieee.Nearest.{closest, closest_same}
use lib.Ieee.Order.{drop, kept}
use Rattle.scalar.specs.Root.{root}
use Rattle.scalar.specs.RootPattern.{radicand, root_digits}
use Rattle.scalar.proofs.WholeRoot.{Root, square, root_is, root_ge, root-lt}
use Rattle.rounding.proofs.LastDigit.{size_exact}
use Rattle.scalar.proofs.Closest.{closest-only}

-- a leading digit and the 23 last ones of any number
pub digits_lt : (b : ℕ) → 2 ^ 23 + b % 2 ^ 23 < 2 ^ 24
digits_lt b = omega arith

-- ---- A
abbrev Span : ℕ → Type 0
Span A = (2 ^ 48 ≤ A) × (A < 2 ^ 50) × (A % 2 ≡ 0)

span-at : (m e : ℕ) → e < 2 → 2 ^ 23 ≤ m → m < 2 ^ 24 → Span (m * 2 ^ (25 + e))
span-at m zero l lo hi = (omega arith, omega arith, omega arith)
span-at m (suc zero) l lo hi = (omega arith, omega arith, omega arith)
span-at m (suc (suc e)) l lo hi = absurd (not-suc-le-zero (le_of_suc-le-suc (le_of_suc-le-suc l)))

pub span : (m h : ℕ) → 2 ^ 23 ≤ m → m < 2 ^ 24 → Span (radicand m h)
span m h lo hi = span-at m (h % 2) (mod-lt h (zero-lt-suc 1)) lo hi

-- a fourth of it is what the code roots
pub fourfold : (m h : ℕ) → 4 * (m * (2 ^ 23 + h % 2 * 2 ^ 23)) ≡ radicand m h
fourfold m h = go (h % 2) (mod-lt h (zero-lt-suc 1))
  where
    go : (odd : ℕ) → odd < 2 → 4 * (m * (2 ^ 23 + odd * 2 ^ 23)) ≡ m * 2 ^ (25 + odd)
    go zero l = omega arith
    go (suc zero) l = omega arith
    go (suc (suc odd)) l = absurd (omega arith)

-- a is A * G * G
halves : (h : ℕ) → 2 ≤ h → h + 23 ≡ 25 + h % 2 + (h / 2 - 1 + (h / 2 - 1))
halves h l = omega arith

pub split : (m h : ℕ) → 2 ≤ h → m * 2 ^ (h + 23) ≡ radicand m h * (2 ^ (h / 2 - 1) * 2 ^ (h / 2 - 1))
split m h l =
    ap (λ (x : ℕ). m * 2 ^ x) (halves h l)
    ∙ ap (λ (x : ℕ). m * x) (pow-add 2 (25 + h % 2) (h / 2 - 1 + (h / 2 - 1)) ∙ ap (λ (x : ℕ). 2 ^ (25 + h % 2) * x) (pow-add 2 (h / 2 - 1) (h / 2 - 1)))
    ∙ sym (mul_assoc m (2 ^ (25 + h % 2)) (2 ^ (h / 2 - 1) * 2 ^ (h / 2 - 1)))

-- ---- Q
pub root-low : (A Q : ℕ) → Root A Q → 2 ^ 48 ≤ A → 2 ^ 24 ≤ Q
root-low A Q q l = root_ge A Q (2 ^ 24) q.1 l

pub root-high : (A Q : ℕ) → Root A Q → A < 2 ^ 50 → Q < 2 ^ 25
root-high A Q q l = root-lt A Q (2 ^ 25) q.0 l

-- an odd number's square is odd
odd-square : (Q : ℕ) → Q % 2 ≡ 1 → Q * Q % 2 ≡ 1
odd-square Q o =
    let t = Q / 2 in
    let e : Q ≡ suc (2 * t) = up Q o in
    ap (λ (x : ℕ). x * x % 2) e ∙ ap (λ (x : ℕ). x % 2) (square (2 * t) ∙ ap (λ (x : ℕ). x + 2 * (2 * t) + 1) (mul_assoc 2 t (2 * t))) ∙ end (t * (2 * t)) t
  where
    up : (Q : ℕ) → Q % 2 ≡ 1 → Q ≡ suc (2 * (Q / 2))
    up Q o = omega arith

    end : (x t : ℕ) → (2 * x + 2 * (2 * t) + 1) % 2 ≡ 1
    end x t = omega arith

pub no_tie : (A Q : ℕ) → A % 2 ≡ 0 → Q % 2 ≡ 1 → Q * Q ≡ A → ⊥
no_tie A Q a q e = clash (Q * Q) A a (odd-square Q q) e
  where
    clash : (x y : ℕ) → y % 2 ≡ 0 → x % 2 ≡ 1 → x ≡ y → ⊥
    clash x y h k e = omega arith

-- ---- R, the whole part of the root of A * G * G: Q * G ≤ R < (Q + 1) * G
pub root-from : (A G Q R : ℕ) → Root A Q → Root (A * (G * G)) R → Q * G ≤ R
root-from A G Q R q r = root_ge (A * (G * G)) R (Q * G) r.1 (le_trans (le_of_eq (mul-mul-mul_comm Q G Q G)) (mul-le-mul_right (G * G) q.0))

pub root-to : (A G Q R : ℕ) → 0 < G → Root A Q → Root (A * (G * G)) R → R < Q * G + G
root-to A G Q R g q r =
    lt_of_lt_of_le (root-lt (A * (G * G)) R (suc Q * G) r.0 (lt_of_lt_of_le (mul-lt-mul_of_pos_right q.1 (mul-pos g g)) (le_of_eq (sym (mul-mul-mul_comm (suc Q) G (suc Q) G))))) (le_of_eq (suc-mul Q G))

-- ---- what is handed to `round`: 2 * R, or one more where R is not all of the root
abbrev pub handed : ℕ → ℕ → ℕ
handed a R = cond (eqb (R * R) a) (2 * R) (2 * R + 1)

data Handed (a R : ℕ) : ℕ → Type 0 where
  whole : R * R ≡ a → Handed a R (2 * R)
  part : Handed a R (2 * R + 1)

handed-is : (a R : ℕ) → Handed a R (handed a R)
handed-is a R = go (eqb (R * R) a) (eqb→eq (R * R) a)
  where
    go : (b : Bool) → (T b → R * R ≡ a) → Handed a R (cond b (2 * R) (2 * R + 1))
    go true h = whole (h tt)
    go false h = part

handed-half : (a R B : ℕ) → Handed a R B → B / 2 ≡ R
handed-half a R B (whole e) = omega arith
handed-half a R B part = omega arith

-- ---- the digits to keep, (Q + 1) / 2 of 4 * G
even-c : (Q : ℕ) → Q % 2 ≡ 0 → 2 * ((Q + 1) / 2) ≡ Q
even-c Q h = omega arith

odd-c : (Q : ℕ) → Q % 2 ≡ 1 → 2 * ((Q + 1) / 2) ≡ Q + 1
odd-c Q h = omega arith

four : (c G : ℕ) → c * (2 * (G * 2)) ≡ 2 * (2 * c * G)
four c G = mul_left_comm c 2 (G * 2) ∙ ap (λ (x : ℕ). 2 * x) (sym (mul_assoc c G 2) ∙ mul_comm (c * G) 2 ∙ sym (mul_assoc 2 c G))

module _ (A G Q R : ℕ) (g : 0 < G) (even : A % 2 ≡ 0) (q : Root A Q) (r : Root (A * (G * G)) R) where
  -- at an odd Q, R is above Q * G if it is the whole root
  above : Q % 2 ≡ 1 → R * R ≡ A * (G * G) → Q * G < R
  above o e = go (root-from A G Q R q r) (λ (i : Q * G ≡ R). no_tie A Q even o (eq_of_mul-eq-mul_right (G * G) (mul-pos g g) (Q * Q) A (sym (mul-mul-mul_comm Q G Q G) ∙ ap (λ (x : ℕ). x * x) i ∙ e)))
    where
      go : Q * G ≤ R → (Q * G ≡ R → ⊥) → Q * G < R
      go l n = omega arith

  -- the bounds that `closest-only` asks, with X for c * b, where c is (Q + 1) / 2 and b is 4 * G
  at-even : (B X W : ℕ) → X ≡ 2 * W → W ≤ R → R < W + G → (B ≡ 2 * R) ⊎ (B ≡ 2 * R + 1) → (2 * X < 2 * B + 2 * (G * 2)) × (2 * B < 2 * X + 2 * (G * 2))
  at-even B X W e l h (inl i) = (omega arith, omega arith)
  at-even B X W e l h (inr i) = (omega arith, omega arith)

  at-odd : (B X W : ℕ) → X ≡ 2 * (W + G) → W ≤ R → R < W + G → 2 * W < B → B ≤ 2 * R + 1 → (2 * X < 2 * B + 2 * (G * 2)) × (2 * B < 2 * X + 2 * (G * 2))
  at-odd B X W e l h i j = (omega arith, omega arith)

  bounds : (B : ℕ) → Handed (A * (G * G)) R B → (2 * ((Q + 1) / 2 * (2 * (G * 2))) < 2 * B + 2 * (G * 2)) × (2 * B < 2 * ((Q + 1) / 2 * (2 * (G * 2))) + 2 * (G * 2))
  bounds B k = go (Q % 2) refl (mod-lt Q (zero-lt-suc 1))
    where
      lo : Q * G ≤ R
      lo = root-from A G Q R q r

      hi : R < Q * G + G
      hi = root-to A G Q R g q r

      two : (B : ℕ) → Handed (A * (G * G)) R B → (B ≡ 2 * R) ⊎ (B ≡ 2 * R + 1)
      two B (whole e) = inl refl
      two B part = inr refl

      most : (B : ℕ) → Handed (A * (G * G)) R B → B ≤ 2 * R + 1
      most B (whole e) = omega arith
      most B part = omega arith

      least : (o : Q % 2 ≡ 1) (B : ℕ) → Handed (A * (G * G)) R B → 2 * (Q * G) < B
      least o B (whole e) = let l = above o e in omega arith
      least o B part = let l = lo in omega arith

      go : (b : ℕ) → Q % 2 ≡ b → b < 2 → (2 * ((Q + 1) / 2 * (2 * (G * 2))) < 2 * B + 2 * (G * 2)) × (2 * B < 2 * ((Q + 1) / 2 * (2 * (G * 2))) + 2 * (G * 2))
      go zero e l = at-even B ((Q + 1) / 2 * (2 * (G * 2))) (Q * G) (four ((Q + 1) / 2) G ∙ ap (λ (x : ℕ). 2 * (x * G)) (even-c Q e)) lo hi (two B k)
      go (suc zero) e l = at-odd B ((Q + 1) / 2 * (2 * (G * 2))) (Q * G) (four ((Q + 1) / 2) G ∙ ap (λ (x : ℕ). 2 * (x * G)) (odd-c Q e) ∙ ap (λ (x : ℕ). 2 * x) (plus Q)) lo hi (least e B k) (most B k)
        where
          plus : (Q : ℕ) → (Q + 1) * G ≡ Q * G + G
          plus Q = ap (λ (x : ℕ). x * G) (add-one Q) ∙ suc-mul Q G
      go (suc (suc b)) e l = absurd (not-suc-le-zero (le_of_suc-le-suc (le_of_suc-le-suc l)))

-- ---- `round` drops g + 1 digits and keeps (Q + 1) / 2
next : (g x y : ℕ) → x < 2 ^ 25 → y < x * 2 ^ g + 2 ^ g → y < 2 ^ suc (24 + g)
next g x y h k = lt_of_lt_of_le k (le_trans (le_of_eq (sym (suc-mul x (2 ^ g)))) (le_trans (mul-le-mul_right (2 ^ g) h) (le_of_eq (sym (pow-add 2 25 g) ∙ ap (λ (z : ℕ). 2 ^ z) (go g)))))
  where
    go : (g : ℕ) → 25 + g ≡ suc (24 + g)
    go g = omega arith

size-root : (g Q R : ℕ) → 2 ^ 24 ≤ Q → Q < 2 ^ 25 → Q * 2 ^ g ≤ R → R < Q * 2 ^ g + 2 ^ g → size R ≡ suc (24 + g)
size-root g Q R lo hi l h = size_exact (24 + g) R (le_trans (le_of_eq (pow-add 2 24 g)) (le_trans (mul-le-mul_right (2 ^ g) lo) l)) (next g Q R hi h)

left : (g : ℕ) → suc (24 + g) - 24 ≡ suc g
left g = omega arith

module _ (A g Q R L : ℕ) (lp : 0 < L) (even : A % 2 ≡ 0) (q : Root A Q) (r : Root (A * (2 ^ g * 2 ^ g)) R) (lo : 2 ^ 24 ≤ Q) (hi : Q < 2 ^ 25) where
  drops : (B : ℕ) → Handed (A * (2 ^ g * 2 ^ g)) R B → drop 24 (B * L) (2 * L) ≡ suc g
  drops B k =
      ap (λ (x : ℕ). size x - 24) (mul-div-mul_right B 2 lp ∙ handed-half (A * (2 ^ g * 2 ^ g)) R B k)
      ∙ ap (λ (x : ℕ). x - 24) (size-root g Q R lo hi (root-from A (2 ^ g) Q R q r) (root-to A (2 ^ g) Q R (pow_pos g) q r))
      ∙ left g

  keeps : (B : ℕ) → Handed (A * (2 ^ g * 2 ^ g)) R B → kept 24 (B * L) (2 * L) ≡ (Q + 1) / 2
  keeps B k =
      let G = 2 ^ g in
      let b = bounds A G Q R (pow_pos g) even q r B k in
      let four-pos : 0 < 2 * (G * 2) = mul-pos (zero-lt-suc 1) (mul-pos (pow_pos g) (zero-lt-suc 1)) in
      ap (λ (x : ℕ). closest (B * L) (2 * L * 2 ^ x)) (drops B k)
      ∙ closest_same (B * L) (2 * L * 2 ^ suc g) B (2 * (G * 2)) (mul-pos (mul-pos (zero-lt-suc 1) lp) (pow_pos (suc g))) four-pos
      (simp (pow-suc, mul_assoc, mul_comm, mul_left_comm))
      ∙ closest-only B (2 * (G * 2)) ((Q + 1) / 2) four-pos b.0 b.1

-- all of it, at A and Q
pub up_one : (h : ℕ) → 2 ≤ h → suc (h / 2 - 1) ≡ h / 2
up_one h l = omega arith

pub rounds : (m h : ℕ) → 2 ^ 23 ≤ m → m < 2 ^ 24 → 2 ≤ h
    → round binary32 false (handed (m * 2 ^ (h + 23)) (root (m * 2 ^ (h + 23)))) (2 * 2 ^ 149) ≡ units binary32 false (root_digits m h) (h / 2)
rounds m h lo hi H =
    let g = h / 2 - 1 in
    let A = radicand m h in
    let a = A * (2 ^ g * 2 ^ g) in
    let Q = root A in
    let R = root a in
    let s = span m h lo hi in
    let B = handed a R in
    let Qlo = root-low A Q (root_is A) s.0 in
    let Qhi = root-high A Q (root_is A) s.1 in
    ap (λ (x : ℕ). round binary32 false (handed x (root x)) (2 * 2 ^ 149)) (split m h H)
    ∙ round_is binary32 false B (2 * 2 ^ 149)
    ∙ ap (λ (x : ℕ). units binary32 false x (drop 24 (B * 2 ^ 149) (2 * 2 ^ 149))) (keeps A g Q R (2 ^ 149) (pow_pos 149) s.2 (root_is A) (root_is a) Qlo Qhi B (handed-is a R))
    ∙ ap (λ (x : ℕ). units binary32 false (root_digits m h) x) (drops A g Q R (2 ^ 149) (pow_pos 149) s.2 (root_is A) (root_is a) Qlo Qhi B (handed-is a R) ∙ up_one h H)
