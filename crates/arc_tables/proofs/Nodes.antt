-- The arc sine's table: each node is a point of the circle to within one unit, and the cosines fall.
use Prim.Native.Nat.{ℕ, ◌+◌, ◌-◌, ◌*◌, ◌^◌, ◌≤◌, ◌<◌}
use mathlib.Core.Path.{◌≡◌, ap}
use native.Mathlib.Nat.{mul-le-mul, mul-le-mul_right}
use native.Mathlib.Omega.{arith}
use lib.Dec.{leb, leb→le}
use lib.ListN.{get_or}
use Rattle.scalar.proofs.WholeRoot.{root_is, root_ge, root-lt, square-back}
use Rattle.scalar.specs.Root.{root}
use Rattle.cases.proofs.Entries as table
use Rattle.arc_tables.specs.Tables.{cosine_of, cosine_at, arcs, half_pi}

-- a node of the table: its cosine x and its sine y
pub record Norm (x y : ℕ) : Type 0 where
  pub low : x * x + y * y ≤ 2 ^ 64
  pub high : 2 ^ 64 ≤ (x + 1) * (x + 1) + y * y

-- ---- a sine and its cosine
pub cosine_lt : (n : ℕ) → cosine_of n < 2 ^ 32
unfolding cosine_of
cosine_lt n = go _ (omega arith)
  where
    go : (m : ℕ) → m < 2 ^ 64 → root m < 2 ^ 32
    go m h = root-lt m (root m) (2 ^ 32) (root_is m).0 (omega (arith, h))

pub cosine-norm : (n : ℕ) → n < 2 ^ 32 → Norm (cosine_of n) n
unfolding cosine_of
cosine-norm n h = go _ (let l : n ≤ 2 ^ 32 - 1 = omega arith in let s = mul-le-mul l l in omega (arith, s))
  where
    go : (m : ℕ) → m + 1 + n * n ≡ 2 ^ 64 → Norm (root m) n
    go m e =
        let R = root_is m in
        record {
          low = omega (arith, R.0, e);
          high = omega (arith, R.1, e);
        }

-- ---- the table: the circle, and a cosine that is never further below 1 than 7/16 of the sine
pub node : (i : ℕ) → i < 183 → Norm (cosine_at i) (i * 2 ^ 24)
unfolding cosine_at
node i h = cosine-norm (i * 2 ^ 24) (omega arith)

pub node-slope : (i : ℕ) → i < 183 → (cosine_at i < 2 ^ 32) × (2 ^ 32 ≤ cosine_at i + 1 + i * (7 * 2 ^ 20))
unfolding cosine_at
node-slope i h = (cosine_lt (i * 2 ^ 24), go (cosine_at i) (2 ^ 32 - i * (7 * 2 ^ 20)) (omega arith) (node i h).high (mul-le-mul_right i (most i h)))
  where
    most : (i : ℕ) → i < 183 → i ≤ 182
    most i h = omega arith

    go : (x z : ℕ) → z + i * (7 * 2 ^ 20) ≡ 2 ^ 32 → 2 ^ 64 ≤ (x + 1) * (x + 1) + i * 2 ^ 24 * (i * 2 ^ 24) → i * i ≤ 182 * i → 2 ^ 32 ≤ x + 1 + i * (7 * 2 ^ 20)
    go x z e k s = let b = square-back z (x + 1) (omega (arith, k, s, ap (λ (t : ℕ). t * z) e, ap (λ (t : ℕ). t * i) e)) in omega (arith, e)

-- by the squares
pub square_le : (a b : ℕ) → a * a < (b + 1) * (b + 1) → a ≤ b
square_le a b h = root_ge (a * a) b a (omega (arith, h)) (omega arith)

-- the cosines fall
pub node-falls : (i : ℕ) → i < 182 → cosine_at (i + 1) ≤ cosine_at i
node-falls i h = go (cosine_at i) (cosine_at (i + 1)) (node i (omega arith)) (node (i + 1) (omega arith))
  where
    go : (x z : ℕ) → Norm x (i * 2 ^ 24) → Norm z ((i + 1) * 2 ^ 24) → z ≤ x
    go x z N M = square_le z x (omega (arith, N.high, M.low))

pub arc-most : (i : ℕ) → i < 183 → get_or arcs i 0 ≤ half_pi
unfolding arcs
arc-most i h = leb→le _ _ (table.entry (λ i A. leb A half_pi) arcs tt i h)
