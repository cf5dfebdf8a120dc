-- cos² + sin² = 1 for the bounds that enclosures give of sine and cosine: u and k above and below, within the enclosures' width e. What asin needs.
use mathlib.Core.Path.{◌≡◌, ap}
use Prim.Native.Nat.{ℕ, suc, ◌+◌, ◌*◌, ◌≤◌, ◌<◌}
use native.Mathlib.Nat.{mul-le-mul, mul-le-mul_right}
use native.Mathlib.Omega.{arith}
use Rattle.series.proofs.Waves.{Enc4}
use Rattle.cases.proofs.Cases.{split}
use Rattle.series.proofs.Pythagoras.{pythagoras}

-- the sine is at most u, the cosine at least k
above : (m l₀ l₁ l₂ l₃ e u k : ℕ) → l₀ * l₀ + l₁ * l₁ + l₂ * l₂ + l₃ * l₃ ≤ m * m + ((l₀ + e) * (l₂ + e) + (l₁ + e) * (l₃ + e) + (l₂ + e) * (l₀ + e) + (l₃ + e) * (l₁ + e))
    → u + l₃ ≡ l₁ + e → k + (l₂ + e) ≡ l₀ → u * u + k * k ≤ m * m + 4 * (e * (l₁ + e + (l₂ + e)))
above m l₀ l₁ l₂ l₃ e u k h a b =
    let p : (u + l₃) * (u + l₃) ≡ (l₁ + e) * (l₁ + e) = ap (λ (x : ℕ). x * x) a in
    let q : (k + (l₂ + e)) * (k + (l₂ + e)) ≡ l₀ * l₀ = ap (λ (x : ℕ). x * x) b in
    let r : (u + l₃) * l₃ ≡ (l₁ + e) * l₃ = ap (λ (x : ℕ). x * l₃) a in
    let s : (k + (l₂ + e)) * l₂ ≡ l₀ * l₂ = ap (λ (x : ℕ). x * l₂) b in
    let t : (k + (l₂ + e)) * e ≡ l₀ * e = ap (λ (x : ℕ). x * e) b in
    let v : (u + l₃) * e ≡ (l₁ + e) * e = ap (λ (x : ℕ). x * e) a in
    omega (arith, h, p, q, r, s, t, v)

pub circle-above : (y d m l₀ l₁ l₂ l₃ e u k : ℕ) → 0 < d → Enc4 y d m l₀ l₁ l₂ l₃ (l₀ + e) (l₁ + e) (l₂ + e) (l₃ + e) → u + l₃ ≡ l₁ + e → k + (l₂ + e) ≡ l₀ → u * u + k * k ≤ m * m + 4 * (e * (l₁ + e + (l₂ + e)))
circle-above y d m l₀ l₁ l₂ l₃ e u k D E a b = above m l₀ l₁ l₂ l₃ e u k (pythagoras y d m l₀ l₁ l₂ l₃ (l₀ + e) (l₁ + e) (l₂ + e) (l₃ + e) D E).0 a b

-- the sine is at least u, the cosine at most k
below : (m l₀ l₁ l₂ l₃ e u k : ℕ) → m * m + (l₀ * l₂ + l₁ * l₃ + l₂ * l₀ + l₃ * l₁) ≤ (l₀ + e) * (l₀ + e) + (l₁ + e) * (l₁ + e) + (l₂ + e) * (l₂ + e) + (l₃ + e) * (l₃ + e)
    → u + (l₃ + e) ≡ l₁ → k + l₂ ≡ l₀ + e → m * m ≤ u * u + k * k + 4 * (e * (l₁ + e + (l₂ + e)))
below m l₀ l₁ l₂ l₃ e u k h a b =
    let p : (u + (l₃ + e)) * (u + (l₃ + e)) ≡ l₁ * l₁ = ap (λ (x : ℕ). x * x) a in
    let q : (k + l₂) * (k + l₂) ≡ (l₀ + e) * (l₀ + e) = ap (λ (x : ℕ). x * x) b in
    let r : (u + (l₃ + e)) * l₃ ≡ l₁ * l₃ = ap (λ (x : ℕ). x * l₃) a in
    let s : (k + l₂) * l₂ ≡ (l₀ + e) * l₂ = ap (λ (x : ℕ). x * l₂) b in
    let t : (k + l₂) * e ≡ (l₀ + e) * e = ap (λ (x : ℕ). x * e) b in
    let v : (u + (l₃ + e)) * e ≡ l₁ * e = ap (λ (x : ℕ). x * e) a in
    omega (arith, h, p, q, r, s, t, v)

pub circle-below : (y d m l₀ l₁ l₂ l₃ e u k : ℕ) → 0 < d → Enc4 y d m l₀ l₁ l₂ l₃ (l₀ + e) (l₁ + e) (l₂ + e) (l₃ + e) → u + (l₃ + e) ≡ l₁ → k + l₂ ≡ l₀ + e → m * m ≤ u * u + k * k + 4 * (e * (l₁ + e + (l₂ + e)))
circle-below y d m l₀ l₁ l₂ l₃ e u k D E a b = below m l₀ l₁ l₂ l₃ e u k (pythagoras y d m l₀ l₁ l₂ l₃ (l₀ + e) (l₁ + e) (l₂ + e) (l₃ + e) D E).1 a b

-- ---- from the tangent to the sine, where c² + n² is about D²: s is the room that the tangent leaves, ε what the circle lacks
pub sine-under : (u k n c D m s ε : ℕ) → u * c + s ≤ k * n → D * D ≤ c * c + n * n → u * u + k * k ≤ m * m + ε → ε * (n * n) ≤ 2 * (u * c * s) → u * D ≤ n * m
sine-under u k n c D m s ε h d o r = split (n * m) (u * D) (λ l. absurd (no (mul-le-mul h h) (mul-le-mul_right (u * u) d) (mul-le-mul_right (n * n) o) (mul-le-mul l l))) (λ l. l)
  where
    no : (u * c + s) * (u * c + s) ≤ k * n * (k * n) → D * D * (u * u) ≤ (c * c + n * n) * (u * u) → (u * u + k * k) * (n * n) ≤ (m * m + ε) * (n * n) → suc (n * m) * suc (n * m) ≤ u * D * (u * D) → ⊥
    no a b e f = omega (arith, a, b, e, f, r)

pub sine-over : (u k n c D m s x ε : ℕ) → k * n ≤ x → x + s ≡ u * c → c * c + n * n ≤ D * D → m * m ≤ u * u + k * k + ε → ε * (n * n) ≤ 2 * (x * s) + s * s → n * m ≤ u * D
sine-over u k n c D m s x ε h e d o r = split (u * D) (n * m) (λ l. absurd (no (mul-le-mul h h) (ap (λ (y : ℕ). y * y) e) (mul-le-mul_right (u * u) d) (mul-le-mul_right (n * n) o) (mul-le-mul l l))) (λ l. l)
  where
    no : k * n * (k * n) ≤ x * x → (x + s) * (x + s) ≡ u * c * (u * c) → (c * c + n * n) * (u * u) ≤ D * D * (u * u) → m * m * (n * n) ≤ (u * u + k * k + ε) * (n * n) → suc (u * D) * suc (u * D) ≤ n * m * (n * m) → ⊥
    no a b f g i = omega (arith, a, b, f, g, i, r)
