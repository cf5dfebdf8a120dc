-- The four cases of the arc tangent's definition by bit patterns, and the range of the angle that is packed.
use mathlib.Core.Path.{◌≡◌, ap, ap₂, ◌∙◌}
use mathlib.Core.Bool.{Bool}
use Prim.Native.Nat.{ℕ, ◌+◌, ◌-◌, ◌*◌, ◌/◌, ◌%◌, ◌^◌, ◌≤◌, ◌<◌}
use native.Mathlib.Nat.{le_trans, le_of_lt}
use native.Mathlib.Omega.{arith}
use lib.Dec.{leb, ltb, lit≤}
use borrow.Author.Tests.{le-leb, lt-leb, le-ltb, lt-ltb}
use Rattle.fixed.specs.Fixed.{pick, pattern}
use Rattle.arcs.specs.Atan.{cube_of, angle_of, atan_mag, atan_bits}
use Rattle.arcs.proofs.Angle.{Reduced, cube-small}
use Rattle.arcs.proofs.Signed.{sign}

-- ---- what the pattern is
pub small-bits : (b : ℕ) → b % 2 ^ 31 < 0x3980_0000 → atan_bits b ≡ b
unfolding atan_bits
small-bits b h = ap (λ (x : Bool). pick x b (pick (ltb (b % 2 ^ 31) 0x4c80_0000) (sign b + pattern (atan_mag (b % 2 ^ 31))) (pick (leb (b % 2 ^ 31) 0x7f80_0000) (sign b + 0x3fc9_0fdb) b))) (lt-ltb _ _ h)

pub mid-bits : (b : ℕ) → 0x3980_0000 ≤ b % 2 ^ 31 → b % 2 ^ 31 < 0x4c80_0000 → atan_bits b ≡ b / 2 ^ 31 * 2 ^ 31 + pattern (atan_mag (b % 2 ^ 31))
unfolding atan_bits
mid-bits b l h = ap₂ (λ (x y : Bool). pick x b (pick y (sign b + pattern (atan_mag (b % 2 ^ 31))) (pick (leb (b % 2 ^ 31) 0x7f80_0000) (sign b + 0x3fc9_0fdb) b))) (le-ltb _ _ l) (lt-ltb _ _ h)

pub big-bits : (b : ℕ) → 0x4c80_0000 ≤ b % 2 ^ 31 → b % 2 ^ 31 ≤ 0x7f80_0000 → atan_bits b ≡ b / 2 ^ 31 * 2 ^ 31 + 0x3fc9_0fdb
unfolding atan_bits
big-bits b l h =
    ap₂ (λ (x y : Bool). pick x b (pick y (sign b + pattern (atan_mag (b % 2 ^ 31))) (pick (leb (b % 2 ^ 31) 0x7f80_0000) (sign b + 0x3fc9_0fdb) b))) (le-ltb _ _ (le_trans (lit≤ tt) l)) (le-ltb _ _ l)
    ∙ ap (λ (x : Bool). pick x (sign b + 0x3fc9_0fdb) b) (le-leb _ _ h)

pub nan-bits : (b : ℕ) → 0x7f80_0000 < b % 2 ^ 31 → atan_bits b ≡ b
unfolding atan_bits
nan-bits b h =
    ap₂ (λ (x y : Bool). pick x b (pick y (sign b + pattern (atan_mag (b % 2 ^ 31))) (pick (leb (b % 2 ^ 31) 0x7f80_0000) (sign b + 0x3fc9_0fdb) b))) (le-ltb _ _ (le_trans (lit≤ tt) (le_of_lt h))) (le-ltb _ _ (le_trans (lit≤ tt) (le_of_lt h)))
    ∙ ap (λ (x : Bool). pick x (sign b + 0x3fc9_0fdb) b) (lt-leb _ _ h)

-- ---- from 2 ^ -12 to 2 ^ 26
pub angle-big : (n c A q : ℕ) → Reduced n c A q → (2 ^ 30 ≤ angle_of A q) × (angle_of A q < 2 ^ 64)
angle-big n c A q X = (go A q (cube_of q) (cube-small q (omega (arith, X.most))) X.large, up A q (cube_of q) X.most X.entry.most)
  where
    go : (A q j : ℕ) → 4 * j ≤ q → 2 ^ 43 ≤ A + q → 2 ^ 30 ≤ A + (q - j)
    go A q j h l = omega arith

    up : (A q j : ℕ) → q ≤ 2 ^ 49 + 2 ^ 41 → A ≤ 2 ^ 57 - 2 ^ 50 → A + (q - j) < 2 ^ 64
    up A q j h l = omega arith
