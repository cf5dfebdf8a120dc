-- The magnitude of a float from 2 ^ -12 to 4, as a whole number of units 2 ^ -61: at most 2 ^ 63, and a multiple of 2 ^ 26; from 1 on a multiple of 2 ^ 38.
use mathlib.Core.Path.{◌≡◌, refl, sym, ap, ◌∙◌}
use mathlib.Core.Logic.{◌⊎◌, inl, inr}
use Prim.Native.Nat.{ℕ, ◌+◌, ◌-◌, ◌*◌, ◌/◌, ◌%◌, ◌^◌, ◌≤◌, ◌<◌}
use native.Mathlib.Nat.{le_trans, le_of_eq, mul-pos, mul-le-mul, mul-le-mul_right}
use native.Mathlib.Omega.{arith}
use lib.Dec.{lit≤}
use lib.Pow.{pow_pos, pow_mono, pow-add}
use Rattle.cases.proofs.Cases.{split}
use Rattle.fixed.specs.Fixed.{scaled_of}
use Rattle.waves.specs.SinCos.{mag_of}

abbrev Which : ℕ → ℕ → Type 0
Which m e = (e ≤ 13) ⊎ ((e ≡ 14) × (m ≡ 2 ^ 23))

which : (a : ℕ) → a ≤ 0x4080_0000 → Which (2 ^ 23 + a % 2 ^ 23) (a / 2 ^ 23 - 115)
which a h = split (a / 2 ^ 23 - 115) 14 (λ x. inl (omega arith)) (λ x. inr (omega arith, omega arith))

le-at : (m e : ℕ) → m ≤ 2 ^ 24 → Which m e → m * 2 ^ e ≤ 2 ^ 37
le-at m e h (inl l) = le_trans (mul-le-mul h (pow_mono l)) (lit≤ tt)
le-at m e h (inr k) = le_trans (mul-le-mul (le_of_eq k.1) (pow_mono (le_of_eq k.0))) (lit≤ tt)

m-le : (a : ℕ) → 2 ^ 23 + a % 2 ^ 23 ≤ 2 ^ 24
m-le a = omega arith

pub scaled-le : (a : ℕ) → a ≤ 0x4080_0000 → scaled_of a 115 ≤ 2 ^ 37
scaled-le a h = le-at (2 ^ 23 + a % 2 ^ 23) (a / 2 ^ 23 - 115) (m-le a) (which a h)

pub scaled-pos : (a : ℕ) → 0 < scaled_of a 115
scaled-pos a = mul-pos (go a) (pow_pos (a / 2 ^ 23 - 115))
  where
    go : (a : ℕ) → 0 < 2 ^ 23 + a % 2 ^ 23
    go a = omega arith

pub mag-le : (a : ℕ) → a ≤ 0x4080_0000 → mag_of a ≤ 2 ^ 63
mag-le a h = mul-le-mul_right (2 ^ 26) (scaled-le a h)

-- at least 2 ^ -12
pub mag-ge : (a : ℕ) → 2 ^ 49 ≤ mag_of a
mag-ge a = mul-le-mul_right (2 ^ 26) (le_trans (le_of_eq refl) (mul-le-mul (m-ge a) (pow_pos (a / 2 ^ 23 - 115))))
  where
    m-ge : (a : ℕ) → 2 ^ 23 ≤ 2 ^ 23 + a % 2 ^ 23
    m-ge a = omega arith

-- what the folds ask of an angle: it is positive, at most 4, and a multiple of 2 ^ 26, which no turn is
abbrev pub Turnable : ℕ → Type 0
Turnable X = (0 < X) × ((X ≤ 2 ^ 63) × (X % 2 ^ 26 ≡ 0))

pub turnable : (a : ℕ) → a ≤ 0x4080_0000 → Turnable (mag_of a)
turnable a h = (go (mag_of a) (mag-ge a), (mag-le a h, multiple (scaled_of a 115)))
  where
    go : (x : ℕ) → 2 ^ 49 ≤ x → 0 < x
    go x l = omega arith

    multiple : (x : ℕ) → x * 2 ^ 26 % 2 ^ 26 ≡ 0
    multiple x = omega arith

-- below 1, or a multiple of 2 ^ -23
pub grain : (a : ℕ) → (mag_of a < 2 ^ 61) ⊎ ((k : ℕ) × (mag_of a ≡ k * 2 ^ 38))
grain a = split (a / 2 ^ 23 - 115) 12 (λ h. inl (below h)) (λ h. inr ((2 ^ 23 + a % 2 ^ 23) * 2 ^ (a / 2 ^ 23 - 115 - 12), multiple h))
  where
    below : a / 2 ^ 23 - 115 < 12 → mag_of a < 2 ^ 61
    below h = go ((2 ^ 23 + a % 2 ^ 23) * 2 ^ (a / 2 ^ 23 - 115)) (le_trans (mul-le-mul (top a) (pow_mono {i = a / 2 ^ 23 - 115} {j = 11} (omega arith))) (lit≤ tt))
      where
        top : (a : ℕ) → 2 ^ 23 + a % 2 ^ 23 ≤ 2 ^ 24 - 1
        top a = omega arith

        go : (x : ℕ) → x ≤ (2 ^ 24 - 1) * 2 ^ 11 → x * 2 ^ 26 < 2 ^ 61
        go x l = omega arith

    multiple : 12 ≤ a / 2 ^ 23 - 115 → mag_of a ≡ (2 ^ 23 + a % 2 ^ 23) * 2 ^ (a / 2 ^ 23 - 115 - 12) * 2 ^ 38
    multiple h = go (2 ^ 23 + a % 2 ^ 23) (2 ^ (a / 2 ^ 23 - 115 - 12)) (2 ^ (a / 2 ^ 23 - 115)) (ap (λ (x : ℕ). 2 ^ x) (sym (back (a / 2 ^ 23 - 115) h)) ∙ pow-add 2 (a / 2 ^ 23 - 115 - 12) 12)
      where
        back : (e : ℕ) → 12 ≤ e → e - 12 + 12 ≡ e
        back e l = omega arith

        go : (m x y : ℕ) → y ≡ x * 2 ^ 12 → m * y * 2 ^ 26 ≡ m * x * 2 ^ 38
        go m x y e = omega (arith, ap (λ (t : ℕ). m * t) e)
