-- The rounded root of n is the r with r * r - r < n ≤ r * r + r: then the root of 4 * n is at least 2 * r - 1 and below 2 * r + 1. Assumes nothing.
use mathlib.Core.Path.{◌≡◌}
use Prim.Native.Nat.{ℕ, zero, suc, ◌+◌, ◌*◌, ◌/◌, ◌≤◌, ◌<◌}
use native.Mathlib.Omega.{arith}
use Rattle.scalar.specs.Root.{root}
use Rattle.scalar.proofs.WholeRoot.{root_is, root_ge, root-lt}

lower : (n k : ℕ) → suc k * suc k < n + suc k → suc (2 * k) * suc (2 * k) ≤ 4 * n
lower n k h = omega arith

upper : (n k : ℕ) → n ≤ suc k * suc k + suc k → 4 * n < suc (suc (suc (2 * k))) * suc (suc (suc (2 * k)))
upper n k h = omega arith

half : (Q k : ℕ) → suc (2 * k) ≤ Q → Q < suc (suc (suc (2 * k))) → suc k ≡ (Q + 1) / 2
half Q k a b = omega arith

pub rounded : (n r : ℕ) → r * r < n + r → n ≤ r * r + r → r ≡ (root (4 * n) + 1) / 2
rounded n zero h l = absurd (omega arith)
rounded n (suc k) h l =
    let q = root_is (4 * n) in
    half (root (4 * n)) k (root_ge (4 * n) (root (4 * n)) (suc (2 * k)) q.1 (lower n k h)) (root-lt (4 * n) (root (4 * n)) (suc (suc (suc (2 * k)))) q.0 (upper n k l))
