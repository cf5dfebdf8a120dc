-- The angles of a table, each with its tangent: one computed test on sharp enclosures of sine and cosine shows an entry; here for the tangents i / 128, and 128 / j, j from 1 on, by half pi less the angle.
use mathlib.Core.Path.{◌≡◌, sym, subst₂}
use mathlib.Core.Logic.{◌⊎◌, inl, inr}
use mathlib.Core.Bool.{Bool, true, ◌&&◌, ◌||◌}
use mathlib.Core.List.{List, [], ◌∷◌}
use Prim.Native.Nat.{ℕ, ◌+◌, ◌-◌, ◌*◌, ◌^◌, ◌≤◌, ◌<◌}
use native.Mathlib.Omega.{arith}
use lib.Dec.{T, eqb, eqb→eq, leb, leb→le}
use lib.ListN.{get_or}
use mir.Facts.{or_yes}
use Rattle.series.specs.Series.{full, num, class}
use Rattle.arc_tables.specs.Tables.{angles, half_pi}
use Rattle.cases.proofs.Entries as table
use Rattle.series.proofs.Waves.{Enc4}
use Rattle.series.proofs.Sharp.{portion, part, sharp}
use lib.Ieee.Fits.{and_l, and_r}
use Rattle.arc_tables.proofs.Tangent.{Angle}

-- a list of inequalities: its test, and what that says
abbrev all_le : List ℕ → Bool
all_le [] = true
all_le (x ∷ []) = true
all_le (x ∷ y ∷ r) = leb x y && all_le r

abbrev AllLe : List ℕ → Type 0
AllLe [] = Unit {0}
AllLe (x ∷ []) = Unit {0}
AllLe (x ∷ y ∷ r) = (x ≤ y) × AllLe r

sound : (xs : List ℕ) → T (all_le xs) → AllLe xs
sound [] t = tt
sound (x ∷ []) t = tt
sound (x ∷ y ∷ r) t = (leb→le x y (and_l (leb x y) (all_le r) t), sound r (and_r (leb x y) (all_le r) t))

-- of an angle A whose tangent is y / x, these being m times numbers of up to 256 or so
abbrev rules : (m x y A p₀ p₁ p₂ p₃ : ℕ) → List ℕ
rules m x y A p₀ p₁ p₂ p₃ =
    p₂ ∷ p₀
    ∷ p₃ ∷ p₁
    ∷ (x * (p₁ - p₃)) ∷ (y * (p₀ - p₂) + 80 * (x + y))
    ∷ (y * (p₀ - p₂)) ∷ (x * (p₁ - p₃) + 80 * (x + y))
    ∷ (p₀ + p₁ + p₂ + p₃) ∷ (512 * 2 ^ 56)
    ∷ (x + y) ∷ (257 * x)
    ∷ (x * (64 * 2 ^ 56)) ∷ (256 * (m * (p₀ - p₂)))
    ∷ 1 ∷ x
    ∷ A ∷ (2 ^ 57 - 2 ^ 50)
    ∷ (y * 2 ^ 48) ∷ (m * A)
    ∷ 1 ∷ m
    ∷ []

unfoldable pub good : (m x y A : ℕ) → Bool
unfolding portion
good m x y A = all_le (rules m x y A (part 0 A) (part 1 A) (part 2 A) (part 3 A))

pub angle : (i : ℕ) → i < 130 → T (good 1 128 i (get_or angles i 0))
unfolding good angles portion num full class
angle i h = table.entry (λ i A. good 1 128 i A) angles tt i h

-- what a test of half pi less each angle leaves out is the first
pub past_first : (j : ℕ) (b : Bool) → 1 ≤ j → T (eqb j 0 || b) → T b
past_first j b h t = go (or_yes (eqb j 0) b t)
  where
    positive : j ≡ 0 → ⊥
    positive e = omega (arith, h)

    go : T (eqb j 0) ⊎ T b → T b
    go (inl u) = absurd (positive (eqb→eq j 0 u))
    go (inr u) = u

steep-test : (j : ℕ) → j < 130 → T (eqb j 0 || good 1 j 128 (half_pi - get_or angles j 0))
unfolding good angles portion num full class
steep-test j h = table.entry (λ j A. eqb j 0 || good 1 j 128 (half_pi - A)) angles tt j h

pub steep-angle : (j : ℕ) → 1 ≤ j → j < 130 → T (good 1 j 128 (half_pi - get_or angles j 0))
steep-angle j l h = past_first j (good 1 j 128 (half_pi - get_or angles j 0)) l (steep-test j h)

-- the angle of a table's entry, with what the proof needs of it
pub record Entry (m x₀ y₀ A : ℕ) : Type 0 where
  pub C : ℕ
  pub S : ℕ
  pub a₂ : ℕ
  pub a₃ : ℕ
  pub fit : Angle m x₀ y₀ A (2 ^ 56) C S a₂ a₃
  pub most : A ≤ 2 ^ 57 - 2 ^ 50
  pub least : y₀ * 2 ^ 48 ≤ m * A

pub entry : (m x y A : ℕ) → T (good m x y A) → Entry m x y A
unfolding good
entry m x y A t = go (part 0 A) (part 1 A) (part 2 A) (part 3 A) (sharp A) (sound (rules m x y A (part 0 A) (part 1 A) (part 2 A) (part 3 A)) t)
  where
    go : (p₀ p₁ p₂ p₃ : ℕ) → (A ≤ 2 ^ 57 → Enc4 A (2 ^ 56) (2 ^ 62) p₀ p₁ p₂ p₃ (p₀ + 2) (p₁ + 2) (p₂ + 2) (p₃ + 2)) → AllLe (rules m x y A p₀ p₁ p₂ p₃) → Entry m x y A
    go p₀ p₁ p₂ p₃ E s₀ =
        let s₄ = s₀.1.1.1.1 in
        let e₀ : p₂ + (p₀ - p₂) ≡ p₀ = omega (arith, s₀.0) in
        let e₁ : p₃ + (p₁ - p₃) ≡ p₁ = omega (arith, s₀.1.0) in
        record {
          C = p₀ - p₂;
          S = p₁ - p₃;
          a₂ = p₂;
          a₃ = p₃;
          fit = record {
            scale-pos = s₄.1.1.1.1.1.1.0;
            enc = subst₂ (λ (u v : ℕ). Enc4 A (2 ^ 56) (2 ^ 62) u v p₂ p₃ (u + 2) (v + 2) (p₂ + 2) (p₃ + 2)) (sym e₀) (sym e₁) (E (omega (arith, s₄.1.1.1.1.0)));
            left-pos = s₄.1.1.1.0;
            slope-low = s₀.1.1.0;
            slope-high = s₀.1.1.1.0;
            sum = omega (arith, s₄.0, e₀, e₁);
            steep = s₄.1.0;
            cosine = s₄.1.1.0;
          };
          most = s₄.1.1.1.1.0;
          least = s₄.1.1.1.1.1.0;
        }
