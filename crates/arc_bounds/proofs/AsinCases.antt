-- The angle that the arc sine's definition brings every x from 2 ^ -12 on and below 1 to: with no table below 2 ^ -7, and a node of it from there.
use mathlib.Core.Path.{◌≡◌, refl, ap, ◌∙◌, subst}
use mathlib.Core.Logic.{inl, inr}
use Prim.Native.Nat.{ℕ, ◌+◌, ◌-◌, ◌*◌, ◌/◌, ◌^◌, ◌≤◌, ◌<◌}
use native.Mathlib.Nat.{le_trans, le_of_lt, lt_of_le_of_lt, mul-le-mul}
use native.Mathlib.Omega.{arith}
use lib.Dec.{lit≤, lit<}
use lib.ListN.{get_or}
use Rattle.series.specs.Series.{full, num, class}
use Rattle.cases.proofs.Cases.{split}
use Rattle.series.proofs.Sharp.{portion}
use Rattle.fixed.specs.Fixed.{digits, scaled_of}
use Rattle.scalar.specs.Root.{root}
use Rattle.arc_tables.specs.Tables.{cosine_of, cosine_at, arcs, half_pi}
use Rattle.arcs.specs.Asin.{arc_of, asin_mag}
use Rattle.arc_tables.proofs.Angles.{Entry, entry, good}
use Rattle.arcs.proofs.Cosine.{under, Cosine, cosine-of}
use Rattle.arc_tables.proofs.Nodes.{Norm, cosine-norm, node, node-slope}
use Rattle.arcs.proofs.Arcs.{Placed, gentle-placed, steep-placed, turn-size}
use Rattle.arcs.proofs.Reduce.{powers}
use Rattle.arcs.proofs.AsinBits.{gentle-is, steep-is, low-is, mid-is, low-range, mid-range}
use Rattle.arc_bounds.proofs.Nodes.{gentle-node, steep-node}
use Rattle.arc_bounds.proofs.AsinEnds.{Turned}

-- x is X / 2 ^ 35
pub record Case (a : ℕ) : Type 0 where
  pub X : ℕ
  pub r : ℕ
  pub A : ℕ
  pub s : ℕ
  pub turned : Turned X r A s
  pub cosine : Cosine X r
  pub X-lt : X < 2 ^ 35
  pub is : asin_mag a ≡ arc_of A s
  pub value : digits a * 2 ^ (a / 2 ^ 23 - 1) ≡ X * 2 ^ 114

-- ---- below 2 ^ -7
zero-entry : Entry (2 ^ 25) (2 ^ 32) 0 0
unfolding good portion num full class
zero-entry = entry (2 ^ 25) (2 ^ 32) 0 0 tt

low-turned : (X : ℕ) → 2 ^ 23 ≤ X → X ≤ 2 ^ 28 → Turned X (root (under X)) 0 (X * 2 ^ 21)
low-turned X l h =
    record {
      x₀ = 2 ^ 32;
      y₀ = 0;
      R = 2 ^ 32 * X;
      entry = zero-entry;
      norm-low = lit≤ tt;
      norm-high = lit≤ tt;
      e_r = omega arith;
      R-large = omega arith;
      s-low = omega arith;
      s-high = omega arith;
      most = omega arith;
      large = omega arith;
      way = inl refl;
    }

-- ---- from 2 ^ -7 on: a sine n against a node's angle
node-turned : (n r x y A : ℕ) → Placed n r x y → Entry (2 ^ 25) x y A → x * x + y * y ≤ 2 ^ 64 → 2 ^ 64 - 2 ^ 34 ≤ x * x + y * y → 2 ^ 24 ≤ y → y ≤ 2 ^ 32 → Turned (8 * n) r A ((x * n - y * r) / 2 ^ 8)
node-turned n r x y A P E l h low high =
    let S = turn-size n r x y P in
    record {
      x₀ = x;
      y₀ = y;
      R = 8 * (x * n - y * r);
      entry = E;
      norm-low = l;
      norm-high = h;
      e_r = same P.least;
      R-large = far (x * n) (y * r) P.least;
      s-low = (eighth (x * n - y * r)).0;
      s-high = (eighth (x * n - y * r)).1;
      most = S.1;
      large = large ((x * n - y * r) / 2 ^ 8) E.least;
      way = inr (le_trans (lit≤ tt) S.0);
    }
  where
    same : y * r + 2 ^ 47 ≤ x * n → 8 * (x * n - y * r) + y * (8 * r) ≡ x * (8 * n)
    same k = omega (arith, k)

    far : (p q : ℕ) → q + 2 ^ 47 ≤ p → y * 16 ≤ 8 * (p - q)
    far p q k = omega (arith, k, high)

    eighth : (z : ℕ) → (z / 2 ^ 8 * 2 ^ 11 ≤ 8 * z) × (8 * z ≤ (z / 2 ^ 8 + 1) * 2 ^ 11)
    eighth z = (omega arith, omega arith)

    large : (s : ℕ) → y * 2 ^ 48 ≤ 2 ^ 25 * A → 2 ^ 43 ≤ A + s
    large s k = omega (arith, k, low)

norm-most : (x y : ℕ) → Norm x y → x < 2 ^ 32 → 2 ^ 64 - 2 ^ 34 ≤ x * x + y * y
norm-most x y N h = omega (arith, N.high, h)

gentle-turned : (n : ℕ) → 2 ^ 25 ≤ n → n ≤ 3037000499 → let i = (n - 2 ^ 16) / 2 ^ 24 in Turned (8 * n) (cosine_of n) (get_or arcs i 0) ((cosine_at i * n - i * 2 ^ 24 * cosine_of n) / 2 ^ 8)
gentle-turned n l h =
    let i = (n - 2 ^ 16) / 2 ^ 24 in
    let P = gentle-placed n l h in
    let k : i < 183 = omega (arith, P.1) in
    node-turned n (cosine_of n) (cosine_at i) (i * 2 ^ 24) (get_or arcs i 0) P.2 (gentle-node i k) (node i k).low (norm-most (cosine_at i) (i * 2 ^ 24) (node i k) (node-slope i k).0) (omega (arith, P.0)) (omega (arith, P.1))

steep-turned : (n : ℕ) → 3037000500 ≤ n → n < 2 ^ 32 → let j = (cosine_of n + 2 ^ 16) / 2 ^ 24 + 1 in Turned (8 * n) (cosine_of n) (half_pi - get_or arcs j 0) ((j * 2 ^ 24 * n - cosine_at j * cosine_of n) / 2 ^ 8)
steep-turned n l h =
    let j = (cosine_of n + 2 ^ 16) / 2 ^ 24 + 1 in
    let P = steep-placed n l h in
    at j P.0 P.1 P.2
  where
    swap : (x y : ℕ) → x * x + y * y ≡ y * y + x * x
    swap x y = omega arith

    at : (j : ℕ) → 1 ≤ j → j ≤ 182 → Placed n (cosine_of n) (j * 2 ^ 24) (cosine_at j) → Turned (8 * n) (cosine_of n) (half_pi - get_or arcs j 0) ((j * 2 ^ 24 * n - cosine_at j * cosine_of n) / 2 ^ 8)
    at j a b P =
        let k : j < 183 = omega arith in
        let y = cosine_at j in
        let S = node-slope j k in
        node-turned n (cosine_of n) (j * 2 ^ 24) y (half_pi - get_or arcs j 0) P (steep-node j a k)
        (subst (λ (z : ℕ). z ≤ 2 ^ 64) (swap y (j * 2 ^ 24)) (node j k).low) (subst (λ (z : ℕ). 2 ^ 64 - 2 ^ 34 ≤ z) (swap y (j * 2 ^ 24)) (norm-most y (j * 2 ^ 24) (node j k) S.0))
        (least y S.1) (le_of_lt S.0)
      where
        least : (y : ℕ) → 2 ^ 32 ≤ y + 1 + j * (7 * 2 ^ 20) → 2 ^ 24 ≤ y
        least y h = omega arith

mid-cosine : (n : ℕ) → 2 ^ 25 ≤ n → n < 2 ^ 32 → Cosine (8 * n) (cosine_of n)
mid-cosine n l h = go (cosine_of n) (cosine-norm n h)
  where
    go : (r : ℕ) → Norm r n → Cosine (8 * n) r
    go r N =
        record {
          r-lt = split r (2 ^ 32) (λ k. k) (λ k. absurd (no (mul-le-mul k k) (mul-le-mul l l)));
          low = omega (arith, N.low);
          high = omega (arith, N.high);
        }
      where
        no : 2 ^ 32 * 2 ^ 32 ≤ r * r → 2 ^ 25 * 2 ^ 25 ≤ n * n → ⊥
        no a b = omega (arith, a, b, N.low)

-- ---- the two ranges
low-case : (a : ℕ) → 0x3980_0000 ≤ a → a < 0x3c00_0000 → Case a
low-case a l h =
    let X = scaled_of a 115 in
    let e : scaled_of a 94 ≡ X * 2 ^ 21 = powers (digits a) (a / 2 ^ 23 - 94) (a / 2 ^ 23 - 115) 21 (omega arith) in
    let R = low-range a l h in
    let S = sizes X (subst (λ (y : ℕ). 2 ^ 44 ≤ y) e R.0) (subst (λ (y : ℕ). y ≤ 2 ^ 49) e R.1) in
    record {
      X = X;
      r = root (under X);
      A = 0;
      s = X * 2 ^ 21;
      turned = low-turned X S.0 S.1;
      cosine = cosine-of X (lt_of_le_of_lt S.1 (lit< tt));
      X-lt = lt_of_le_of_lt S.1 (lit< tt);
      is = low-is a h ∙ ap (λ (y : ℕ). arc_of 0 y) e;
      value = powers (digits a) (a / 2 ^ 23 - 1) (a / 2 ^ 23 - 115) 114 (omega arith);
    }
  where
    sizes : (X : ℕ) → 2 ^ 44 ≤ X * 2 ^ 21 → X * 2 ^ 21 ≤ 2 ^ 49 → (2 ^ 23 ≤ X) × (X ≤ 2 ^ 28)
    sizes X a b = (omega arith, omega arith)

mid-case : (a : ℕ) → 0x3c00_0000 ≤ a → a < 0x3f80_0000 → Case a
mid-case a l h = split n 3037000500 gentle steep
  where
    n : ℕ
    n = scaled_of a 118

    R : (2 ^ 25 ≤ n) × (n < 2 ^ 32)
    R = mid-range a l h

    top : (n : ℕ) → n < 2 ^ 32 → 8 * n < 2 ^ 35
    top n k = omega arith

    value : digits a * 2 ^ (a / 2 ^ 23 - 1) ≡ 8 * n * 2 ^ 114
    value = powers (digits a) (a / 2 ^ 23 - 1) (a / 2 ^ 23 - 118) 117 (omega arith) ∙ go n (2 ^ 114)
      where
        go : (n t : ℕ) → n * (8 * t) ≡ 8 * n * t
        go n t = omega arith

    gentle : n < 3037000500 → Case a
    gentle k =
        record {
          X = 8 * n;
          r = cosine_of n;
          A = get_or arcs ((n - 2 ^ 16) / 2 ^ 24) 0;
          s = (cosine_at ((n - 2 ^ 16) / 2 ^ 24) * n - (n - 2 ^ 16) / 2 ^ 24 * 2 ^ 24 * cosine_of n) / 2 ^ 8;
          turned = gentle-turned n R.0 (omega arith);
          cosine = mid-cosine n R.0 R.1;
          X-lt = top n R.1;
          is = mid-is a l ∙ gentle-is n (omega arith);
          value = value;
        }

    steep : 3037000500 ≤ n → Case a
    steep k =
        record {
          X = 8 * n;
          r = cosine_of n;
          A = half_pi - get_or arcs ((cosine_of n + 2 ^ 16) / 2 ^ 24 + 1) 0;
          s = (((cosine_of n + 2 ^ 16) / 2 ^ 24 + 1) * 2 ^ 24 * n - cosine_at ((cosine_of n + 2 ^ 16) / 2 ^ 24 + 1) * cosine_of n) / 2 ^ 8;
          turned = steep-turned n k R.1;
          cosine = mid-cosine n R.0 R.1;
          X-lt = top n R.1;
          is = mid-is a l ∙ steep-is n (omega arith);
          value = value;
        }

pub case : (a : ℕ) → 0x3980_0000 ≤ a → a < 0x3f80_0000 → Case a
case a l h = split a 0x3c00_0000 (λ x. low-case a l x) (λ x. mid-case a x h)
