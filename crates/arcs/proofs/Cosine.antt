-- The cosine to a sine X in units of 2 ^ -35, as a whole root: with r its eighth, (8 r)² + X² is at most 2 ^ 70, and (8 r + 8)² + X² is not below it.
use Prim.Native.Nat.{ℕ, suc, ◌+◌, ◌-◌, ◌*◌, ◌/◌, ◌^◌, ◌≤◌, ◌<◌}
use native.Mathlib.Nat.{mul-le-mul}
use native.Mathlib.Omega.{arith}
use Rattle.scalar.specs.Root.{root}
use Rattle.scalar.proofs.WholeRoot.{root_is, root-lt}

-- 1 - x²
abbrev pub under : ℕ → ℕ
under X = 2 ^ 64 - 1 - X * X / 2 ^ 6

pub record Cosine (X r : ℕ) : Type 0 where
  pub r-lt : r < 2 ^ 32
  pub low : 8 * r * (8 * r) + X * X ≤ 2 ^ 70
  pub high : 2 ^ 70 ≤ (8 * r + 8) * (8 * r + 8) + X * X

module _ (X : ℕ) (h : X < 2 ^ 35) where
  sq-most : X * X ≤ (2 ^ 35 - 1) * (2 ^ 35 - 1)
  sq-most = let l : X ≤ 2 ^ 35 - 1 = omega arith in mul-le-mul l l

  pub sq-fits : X * X / 2 ^ 6 ≤ 2 ^ 64 - 2
  sq-fits = let l = sq-most in omega arith

  pub cosine-of : Cosine X (root (under X))
  cosine-of =
      let R = root_is (under X) in
      record {
        r-lt = root-lt (under X) (root (under X)) (2 ^ 32) R.0 (omega arith);
        low = low (X * X) (root (under X)) R.0 sq-fits;
        high = high (X * X) (root (under X)) R.1 sq-fits;
      }
    where
      low : (s r : ℕ) → r * r ≤ 2 ^ 64 - 1 - s / 2 ^ 6 → s / 2 ^ 6 ≤ 2 ^ 64 - 2 → 8 * r * (8 * r) + s ≤ 2 ^ 70
      low s r a b = omega (arith, a, b)

      high : (s r : ℕ) → 2 ^ 64 - 1 - s / 2 ^ 6 < suc r * suc r → s / 2 ^ 6 ≤ 2 ^ 64 - 2 → 2 ^ 70 ≤ (8 * r + 8) * (8 * r + 8) + s
      high s r a b = omega (arith, a, b)
