-- A sine n with its cosine r is a small turn away from its node of the arc sine's table.
-- With n = y + e and x = r + f the sine of that turn is x n - y r = r e + n f; and f is at most 8/7 e + 2, since x² - r² and n² - y² are the same to within 2 r + 1.
use mathlib.Core.Path.{◌≡◌, sym, subst, subst₂}
use Prim.Native.Nat.{ℕ, ◌+◌, ◌-◌, ◌*◌, ◌/◌, ◌^◌, ◌≤◌, ◌<◌}
use native.Mathlib.Nat.{lt_of_le_of_lt, mul-le-mul, mul-le-mul_left, le_of_mul-le-mul_right}
use native.Mathlib.Omega.{arith}
use lib.Dec.{lit<}
use Rattle.scalar.proofs.WholeRoot.{root_is, root_ge, root-lt}
use Rattle.arc_tables.specs.Tables.{cosine_of, cosine_at}
use Rattle.arc_tables.proofs.Nodes.{Norm, cosine_lt, cosine-norm, node, node-slope, square_le}
use Rattle.arcs.specs.Asin.{sixth_of, arc_of}

-- a sine n with its cosine r, against a node's angle below it with the cosine x and the sine y
pub record Placed (n r x y : ℕ) : Type 0 where
  pub least : y * r + 2 ^ 47 ≤ x * n
  pub most : x * n ≤ y * r + 2 ^ 57

-- ---- the turn from a node
module _ (r f y e : ℕ) (up : (r + f) * (r + f) + y * y ≤ 2 ^ 64) (down : 2 ^ 64 ≤ (r + 1) * (r + 1) + (y + e) * (y + e)) (large : 2 ^ 31 ≤ r) (even : 7 * (y + e + y) ≤ 8 * (r + f + r)) where
  turn-f : 7 * f ≤ 8 * e + 14
  turn-f = le_of_mul-le-mul_right {k = r + f + r} (go (mul-le-mul_left e even)) (omega arith)
    where
      go : e * (7 * (y + e + y)) ≤ e * (8 * (r + f + r)) → 7 * f * (r + f + r) ≤ (8 * e + 14) * (r + f + r)
      go m = omega (arith, m, up, down, large)

  turn : r ≤ 2 ^ 32 → y + e ≤ 182 * 2 ^ 24 → 2 ^ 16 ≤ e → e ≤ 2 ^ 24 + 2 ^ 16 → Placed (y + e) r (r + f) y
  turn small low far near =
      record {
        least = least (mul-le-mul large far);
        most = most (mul-le-mul_left e small) (mul-le-mul_left f low) turn-f;
      }
    where
      least : 2 ^ 31 * 2 ^ 16 ≤ r * e → y * r + 2 ^ 47 ≤ (r + f) * (y + e)
      least m = omega (arith, m)

      most : e * r ≤ e * 2 ^ 32 → f * (y + e) ≤ f * (182 * 2 ^ 24) → 7 * f ≤ 8 * e + 14 → (r + f) * (y + e) ≤ y * r + 2 ^ 57
      most a b c = omega (arith, a, b, c, near)

-- the same of n and x, once it is known that r is not above x
place :
    (n r x y : ℕ) → x * x + y * y ≤ 2 ^ 64 → 2 ^ 64 ≤ (r + 1) * (r + 1) + n * n → (2 ^ 31 ≤ r) × (r ≤ 2 ^ 32) × (n ≤ 182 * 2 ^ 24) → 7 * (n + y) ≤ 8 * (x + r)
    → r ≤ x → y + 2 ^ 16 ≤ n → n ≤ y + (2 ^ 24 + 2 ^ 16) → Placed n r x y
place n r x y up down sizes even above far near = go (n - y) (x - r) (omega arith) (omega arith) (omega arith) (omega arith)
  where
    go : (e f : ℕ) → y + e ≡ n → r + f ≡ x → 2 ^ 16 ≤ e → e ≤ 2 ^ 24 + 2 ^ 16 → Placed n r x y
    go e f p q a b =
        subst₂ (λ (n x : ℕ). Placed n r x y) p q
        (turn r f y e
        (subst (λ (x : ℕ). x * x + y * y ≤ 2 ^ 64) (sym q) up)
        (subst (λ (n : ℕ). 2 ^ 64 ≤ (r + 1) * (r + 1) + n * n) (sym p) down)
        sizes.0
        (subst₂ (λ (n x : ℕ). 7 * (n + y) ≤ 8 * (x + r)) (sym p) (sym q) even)
        sizes.1 (subst (λ (n : ℕ). n ≤ 182 * 2 ^ 24) (sym p) sizes.2) a b)

-- ---- 3037000500 is the root of 1/2, rounded up: it parts the two cases
pub gentle-cosine : (n : ℕ) → n ≤ 3037000499 → (3037000499 ≤ cosine_of n) × (cosine_of n < 2 ^ 32)
unfolding cosine_of
gentle-cosine n h =
    let s = mul-le-mul h h in
    (root_ge (2 ^ 64 - 1 - n * n) (cosine_of n) 3037000499 (root_is (2 ^ 64 - 1 - n * n)).1 (omega (arith, s)), cosine_lt n)

pub steep-cosine : (n : ℕ) → 3037000500 ≤ n → cosine_of n ≤ 3037000499
unfolding cosine_of
steep-cosine n h =
    let s = mul-le-mul h h in
    let l = root-lt (2 ^ 64 - 1 - n * n) (cosine_of n) 3037000500 (root_is (2 ^ 64 - 1 - n * n)).0 (omega (arith, s)) in
    omega arith

pub gentle-placed : (n : ℕ) → 2 ^ 25 ≤ n → n ≤ 3037000499 → let i = (n - 2 ^ 16) / 2 ^ 24 in (1 ≤ i) × (i ≤ 181) × Placed n (cosine_of n) (cosine_at i) (i * 2 ^ 24)
gentle-placed n l h =
    let i = (n - 2 ^ 16) / 2 ^ 24 in
    let b : i ≤ 181 = omega arith in
    (omega arith, b, go i (cosine_of n) (cosine_at i) (omega arith) (omega arith) (cosine-norm n (omega arith)) (gentle-cosine n h) (node i (omega arith)) b)
  where
    go : (i r x : ℕ) → i * 2 ^ 24 + 2 ^ 16 ≤ n → n ≤ i * 2 ^ 24 + (2 ^ 24 + 2 ^ 16) → Norm r n → (3037000499 ≤ r) × (r < 2 ^ 32) → Norm x (i * 2 ^ 24) → i ≤ 181 → Placed n r x (i * 2 ^ 24)
    go i r x far near C R N b = place n r x (i * 2 ^ 24) N.low C.high (omega (arith, R.0), omega (arith, R.1), omega arith) (let a = above in omega (arith, R.0)) above far near
      where
        above : r ≤ x
        above = let m = mul-le-mul far far in square_le r x (omega (arith, m, C.low, N.high))

pub steep-placed : (n : ℕ) → 3037000500 ≤ n → n < 2 ^ 32 → let j = (cosine_of n + 2 ^ 16) / 2 ^ 24 + 1 in (1 ≤ j) × (j ≤ 182) × Placed n (cosine_of n) (j * 2 ^ 24) (cosine_at j)
steep-placed n l h = go (cosine_of n) (steep-cosine n l) (cosine-norm n h)
  where
    go : (r : ℕ) → r ≤ 3037000499 → Norm r n → let j = (r + 2 ^ 16) / 2 ^ 24 + 1 in (1 ≤ j) × (j ≤ 182) × Placed n r (j * 2 ^ 24) (cosine_at j)
    go r R C =
        let j = (r + 2 ^ 16) / 2 ^ 24 + 1 in
        let b : j ≤ 182 = omega arith in
        (omega arith, b, at j (cosine_at j) (omega arith) (omega arith) (node j (omega arith)) (node-slope j (omega arith)) b)
      where
        -- sine and cosine change places
        at : (j y : ℕ) → r + 2 ^ 16 ≤ j * 2 ^ 24 → j * 2 ^ 24 ≤ r + (2 ^ 24 + 2 ^ 16) → Norm y (j * 2 ^ 24) → (y < 2 ^ 32) × (2 ^ 32 ≤ y + 1 + j * (7 * 2 ^ 20)) → j ≤ 182 → Placed n r (j * 2 ^ 24) y
        at j y far near N S b = turned (place (j * 2 ^ 24) y n r (omega (arith, C.low)) N.high (omega (arith, S.1), omega (arith, S.0), omega arith) (omega (arith, S.1)) above far near)
          where
            above : y ≤ n
            above = let m = mul-le-mul far far in square_le y n (omega (arith, m, C.high, N.low))

            turned : Placed (j * 2 ^ 24) y n r → Placed n r (j * 2 ^ 24) y
            turned P =
                record {
                  least = omega (arith, P.least);
                  most = omega (arith, P.most);
                }

-- the sine of the turn, in units of 2 ^ -56
pub turn-size : (n r x y : ℕ) → Placed n r x y → (2 ^ 39 ≤ (x * n - y * r) / 2 ^ 8) × ((x * n - y * r) / 2 ^ 8 ≤ 2 ^ 49)
turn-size n r x y P = go (x * n) (y * r) P.least P.most
  where
    go : (a b : ℕ) → b + 2 ^ 47 ≤ a → a ≤ b + 2 ^ 57 → (2 ^ 39 ≤ (a - b) / 2 ^ 8) × ((a - b) / 2 ^ 8 ≤ 2 ^ 49)
    go a b l h = (omega arith, omega arith)

-- sine times cosine
pub product-fits : (x n : ℕ) → x < 2 ^ 32 → n < 2 ^ 32 → x * n < 2 ^ 64
product-fits x n h k = let a : x ≤ 2 ^ 32 - 1 = omega arith in let b : n ≤ 2 ^ 32 - 1 = omega arith in lt_of_le_of_lt (mul-le-mul a b) (lit< tt)

-- ---- s³ / 6: its two products, and itself
pub sixth-fits : (t : ℕ) → t ≤ 2 ^ 26 → (t * t ≤ 2 ^ 52) × (t * t / 2 ^ 20 * t ≤ 2 ^ 58)
sixth-fits t h =
    let q : t * t ≤ 2 ^ 52 = mul-le-mul h h in
    let u : t * t / 2 ^ 20 ≤ 2 ^ 32 = omega arith in
    (q, mul-le-mul u h)

pub sixth-small : (s : ℕ) → s < 2 ^ 50 → sixth_of s ≤ 2 ^ 38
sixth-small s h = go (s / 2 ^ 24) (omega arith)
  where
    go : (t : ℕ) → t ≤ 2 ^ 26 → t * t / 2 ^ 20 * t / 2 ^ 20 / 6 ≤ 2 ^ 38
    go t l = let f = (sixth-fits t l).1 in omega arith

-- ---- the angle: what `pack` asks
pub arc-big : (A s : ℕ) → A ≤ 2 ^ 57 → 2 ^ 39 ≤ s → s ≤ 2 ^ 49 → (2 ^ 30 ≤ arc_of A s) × (arc_of A s < 2 ^ 64)
arc-big A s a l h = go (sixth_of s) (sixth-small s (omega arith))
  where
    go : (w : ℕ) → w ≤ 2 ^ 38 → (2 ^ 30 ≤ A + (s + w)) × (A + (s + w) < 2 ^ 64)
    go w k = (omega arith, omega arith)
