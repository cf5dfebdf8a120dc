-- `Nearest` and `TiesToEven` leave no choice: below the limit the value that `round` gives is the only one that is `Nearest`, so a function that meets `TiesToEven` is `round` (`only-round`). Assumes nothing.
use mathlib.Core.Path.{◌≡◌, refl, sym, ap, ◌∙◌, subst}
use mathlib.Core.Logic.{◌⊎◌, inl, inr}
use mathlib.Core.Bool.{Bool, true, false, not}
use Prim.Native.Nat.{ℕ, zero, suc, ◌+◌, ◌-◌, ◌*◌, ◌/◌, ◌%◌, ◌^◌, ◌≤◌, ◌<◌, compare, Ordering}
use native.Mathlib.Nat.{le_trans, le_antisymm, suc-mul, mul-pos, eq_of_mul-eq-mul_right, mod-lt, div-add-mod', div-div-eq-div-mul}
use native.Mathlib.Omega.{arith}
use lib.IntN.{ℤ}
use lib.Dec.{T, ltb, ltb→lt, nltb→le}
use lib.Arith.{lt_of_le-ne}
use lib.Pow.{pow_pos}
use lib.Ieee.{Float, nan, inf, fin, Format, prec, low, up, down, nearest, round, to_bits}
use lib.Ieee.Fits.{two, two-le_pos, kept-lt, down_pos}
use lib.Ieee.Exact.{HasValue}
use lib.Ieee.Order.{drop, kept}
use lib.Ieee.Scale.{grid}
use Rattle.std.proofs.lemmas.Bool.{cases_eq}
use Rattle.rounding.specs.TiesToEven.{gap, off, limit, Nearest}
use Rattle.rounding.specs.Laws.{OnlyRound}
use Rattle.rounding.proofs.Cells.{Out, Cmp, cmp, outside, steps-ge, regroup}
use Rattle.rounding.proofs.Limit.{round-value}
use Rattle.rounding.proofs.Units.{on-grid, in-units, units_of, dist, own-dist, pattern_of, bits_of, same-value}
use Rattle.rounding.proofs.LastDigit.{pow_even, odd-bits}
use Rattle.rounding.proofs.TiesToEven.{round-ties-to-even}

-- ---- the other end of the cell
other : ℕ → ℕ
other w = w + (1 - w % 2)

other-odd : (w : ℕ) → other w % 2 ≡ 1
unfolding other
other-odd w = omega arith

other-ge : (w : ℕ) → w ≤ other w
unfolding other
other-ge w = omega arith

other-le : (w : ℕ) → other w ≤ suc w
unfolding other
other-le w = omega arith

low-v : (W u r v : ℕ) → r * 2 ≡ u → v ≤ W → gap W (W + r) ≡ gap v (W + r) → v ≡ W
low-v W u r v c h e = omega arith

high-v : (W u r v : ℕ) → r * 2 ≡ u → W + u ≤ v → gap W (W + r) ≡ gap v (W + r) → v ≡ W + u
high-v W u r v c h e = omega arith

-- at a tie both ends are as near
both : (W u r : ℕ) → r * 2 ≡ u → gap (W + u) (W + r) ≡ gap W (W + r)
both W u r c = omega arith

-- v is as near as the chosen end: it is that end, or the other one and there is a tie
abbrev Ends : ℕ → Ordering → ℕ → ℕ → Type 0
Ends w o u v = (v ≡ nearest w o * u) ⊎ (v ≡ other w * u)

ends-eq : (w u r v : ℕ) → r * 2 ≡ u → Out (w * u) u v → gap ((w + w % 2) * u) (w * u + r) ≡ gap v (w * u + r) → Ends w Ordering.eq u v
unfolding other
ends-eq w u r v c o e = go (w % 2) refl (mod-lt w (native.Mathlib.Nat.zero-lt-suc 1)) o
  where
    even_up : w % 2 ≡ 0 → w + w % 2 ≡ w
    even_up e = omega arith

    even-other : w % 2 ≡ 0 → w + (1 - w % 2) ≡ suc w
    even-other e = omega arith

    odd-up : w % 2 ≡ 1 → w + w % 2 ≡ suc w
    odd-up e = omega arith

    odd-other : w % 2 ≡ 1 → w + (1 - w % 2) ≡ w
    odd-other e = omega arith

    near-low : w % 2 ≡ 0 → gap (w * u) (w * u + r) ≡ gap v (w * u + r)
    near-low z = ap (λ (x : ℕ). gap (x * u) (w * u + r)) (sym (even_up z)) ∙ e

    near-high : w % 2 ≡ 1 → gap (w * u) (w * u + r) ≡ gap v (w * u + r)
    near-high z = sym (both (w * u) u r c) ∙ ap (λ (x : ℕ). gap x (w * u + r)) (sym (ap (λ (x : ℕ). x * u) (odd-up z) ∙ suc-mul w u)) ∙ e

    go : (b : ℕ) → w % 2 ≡ b → b < 2 → Out (w * u) u v → (v ≡ (w + w % 2) * u) ⊎ (v ≡ (w + (1 - w % 2)) * u)
    go zero z l (inl h) = inl (low-v (w * u) u r v c h (near-low z) ∙ ap (λ (x : ℕ). x * u) (sym (even_up z)))
    go zero z l (inr h) = inr (high-v (w * u) u r v c h (near-low z) ∙ sym (suc-mul w u) ∙ ap (λ (x : ℕ). x * u) (sym (even-other z)))
    go (suc zero) z l (inl h) = inr (low-v (w * u) u r v c h (near-high z) ∙ ap (λ (x : ℕ). x * u) (sym (odd-other z)))
    go (suc zero) z l (inr h) = inl (high-v (w * u) u r v c h (near-high z) ∙ sym (suc-mul w u) ∙ ap (λ (x : ℕ). x * u) (sym (odd-up z)))
    go (suc (suc b)) z l o = absurd (no b l)
      where
        no : (b : ℕ) → suc (suc b) < 2 → ⊥
        no b h = omega arith

ends : (w u r v : ℕ) (o : Ordering) → Cmp o (r * 2) u → r < u → Out (w * u) u v → gap (nearest w o * u) (w * u + r) ≡ gap v (w * u + r) → Ends w o u v
ends w u r v Ordering.lt c l (inl h) e = inl (go (w * u) u r v c h e)
  where
    go : (W u r v : ℕ) → r * 2 < u → v ≤ W → gap W (W + r) ≡ gap v (W + r) → v ≡ W
    go W u r v c h e = omega arith
ends w u r v Ordering.lt c l (inr h) e = absurd (go (w * u) u r v c h e)
  where
    go : (W u r v : ℕ) → r * 2 < u → W + u ≤ v → gap W (W + r) ≡ gap v (W + r) → ⊥
    go W u r v c h e = omega arith
ends w u r v Ordering.eq c l o e = ends-eq w u r v c o e
ends w u r v Ordering.gt c l (inl h) e = absurd (go (w * u) u r v c l h (ap (λ (x : ℕ). gap x (w * u + r)) (sym (suc-mul w u)) ∙ e))
  where
    go : (W u r v : ℕ) → u < r * 2 → r < u → v ≤ W → gap (W + u) (W + r) ≡ gap v (W + r) → ⊥
    go W u r v c l h e = omega arith
ends w u r v Ordering.gt c l (inr h) e = inl (go (w * u) u r v c l h (ap (λ (x : ℕ). gap x (w * u + r)) (sym (suc-mul w u)) ∙ e) ∙ sym (suc-mul w u))
  where
    go : (W u r v : ℕ) → u < r * 2 → r < u → W + u ≤ v → gap (W + u) (W + r) ≡ gap v (W + r) → v ≡ W + u
    go W u r v c l h e = omega arith

-- ---- a value as near as the rounded one, in units: the same, or an odd number of steps
abbrev Other : ℕ → ℕ → ℕ → ℕ → Type 0
Other p n c M = (d : ℕ) × (M ≡ d * 2 ^ drop p n c) × (d % 2 ≡ 1) × (d < 2 ^ p) × (0 < drop p n c → 2 ^ (p - 1) ≤ d)

odd-below : (p d : ℕ) → 1 ≤ p → d % 2 ≡ 1 → d ≤ 2 ^ p → d < 2 ^ p
odd-below p d h o l = lt_of_le-ne l (λ (e : d ≡ 2 ^ p). clash (d % 2) (ap (λ (x : ℕ). x % 2) e ∙ pow_even p h) o)
  where
    clash : (a : ℕ) → a ≡ 0 → a ≡ 1 → ⊥
    clash a x y = omega arith

as-near : (p n c q j : ℕ) → 0 < p → 0 < c → q < 2 ^ p → gap (kept p n c * 2 ^ drop p n c * c) n ≡ gap (q * 2 ^ j * c) n
    → (q * 2 ^ j ≡ kept p n c * 2 ^ drop p n c) ⊎ Other p n c (q * 2 ^ j)
as-near p n c q j P C Q e =
    let k = drop p n c in
    let u = c * 2 ^ k in
    let w = n / u in
    let r = n % u in
    let U : 0 < u = mul-pos C (pow_pos k) in
    go k w (steps-ge p n c P) (subst (λ (x : ℕ). x < 2 ^ p) (div-div-eq-div-mul n c (2 ^ k)) (kept-lt p (n / c))) (compare (r * 2) u)
    (ends w u r (q * 2 ^ j * c) (compare (r * 2) u) (cmp (r * 2) u) (mod-lt n U) (outside p n c q j P Q)
    (subst (λ (x : ℕ). gap (kept p n c * u) x ≡ gap (q * 2 ^ j * c) x) (sym (div-add-mod' n u)) (subst (λ (x : ℕ). gap x n ≡ gap (q * 2 ^ j * c) n) (regroup (kept p n c) c k) e)))
  where
    cancel : (x k : ℕ) → q * 2 ^ j * c ≡ x * (c * 2 ^ k) → q * 2 ^ j ≡ x * 2 ^ k
    cancel x k h = eq_of_mul-eq-mul_right c C (q * 2 ^ j) (x * 2 ^ k) (h ∙ sym (regroup x c k))

    go : (k w : ℕ) → (0 < k → 2 ^ (p - 1) ≤ w) → w < 2 ^ p → (o : Ordering) → Ends w o (c * 2 ^ k) (q * 2 ^ j * c)
        → (q * 2 ^ j ≡ nearest w o * 2 ^ k) ⊎ ((d : ℕ) × (q * 2 ^ j ≡ d * 2 ^ k) × (d % 2 ≡ 1) × (d < 2 ^ p) × (0 < k → 2 ^ (p - 1) ≤ d))
    go k w W L o (inl h) = inl (cancel (nearest w o) k h)
    go k w W L o (inr h) = inr (other w, cancel (other w) k h, other-odd w, odd-below p (other w) P (other-odd w) (le_trans (other-le w) L), λ x. le_trans (W x) (other-ge w))

-- ---- two that are `Nearest`
pub only : (f : Format) (s : Bool) (a c : ℕ) → 0 < c → (x r : Float) → HasValue x s (grid f a c) (2 ^ low f) → Nearest f s a c x → Nearest f s a c r → r ≡ x
only f s a c C nan r v p q = absurd v
only f s a c C (inf t) r v p q = absurd v
only f s a c C (fin t m e) nan v p q = absurd q.is_finite
only f s a c C (fin t m e) (inf u) v p q = absurd q.is_finite
only f s a c C (fin t m e) (fin u n d) v p q =
    let g = on-grid f u n d q.held in
    go g.0 g.1 g.3 (as-near (prec f) (a * L) c g.0 g.1 (two-le_pos (prec f) (two f)) C g.2 (same_gap g.0 g.1 g.3))
  where
    L : ℕ
    L = 2 ^ low f

    N : ℕ
    N = grid f a c

    far : (t : Bool) (m : ℕ) (e : ℤ) (M : ℕ) → t ≡ s → m * up e * L ≡ M * down e → off s a c (fin t m e) * L ≡ gap (M * c) (a * L) * down e
    far t m e M i w = in-units s t a c m e M L w ∙ ap (λ (b : Bool). dist s b M c (a * L) * down e) i ∙ ap (λ (y : ℕ). y * down e) (own-dist s M c (a * L))

    same_gap : (q' j : ℕ) → n * up d * L ≡ q' * 2 ^ j * down d → gap (N * c) (a * L) ≡ gap (q' * 2 ^ j * c) (a * L)
    same_gap q' j w =
        units_of (off s a c (fin t m e)) (off s a c (fin u n d)) L (down d) (down e) (gap (N * c) (a * L)) (gap (q' * 2 ^ j * c) (a * L)) (down_pos d) (down_pos e)
        (far t m e N v.0 v.1) (far u n d (q' * 2 ^ j) q.sign w) (le_antisymm (p.nearest (fin u n d) q.held tt) (q.nearest (fin t m e) p.held tt))

    -- the other end has an odd last digit, so it is no tie's winner, unless it is the same value after all
    clash : (b : ℕ) → b ≡ 0 → b ≡ 1 → ⊥
    clash b x y = omega arith

    one : (q' j : ℕ) → n * up d * L ≡ q' * 2 ^ j * down d → q' * 2 ^ j ≡ N → fin u n d ≡ fin t m e
    one q' j w i = same-value f u t n d m e N q.held p.held (q.sign ∙ sym v.0) (w ∙ ap (λ (y : ℕ). y * down d) i) v.1

    sized : (x : Float) (M K : ℕ) → HasValue x s M L → HasValue x s K L → M ≡ K
    sized nan M K a b = absurd a
    sized (inf z) M K a b = absurd a
    sized (fin z i k) M K a b = eq_of_mul-eq-mul_right (down k) (down_pos k) M K (sym a.1 ∙ b.1)

    differs : (q' j : ℕ) → n * up d * L ≡ q' * 2 ^ j * down d → (q' * 2 ^ j ≡ N → ⊥) → fin t m e ≡ fin u n d → ⊥
    differs q' j w no_eq i = no_eq (sized (fin u n d) (q' * 2 ^ j) N (q.sign, w) (subst (λ (x : Float). HasValue x s N L) i v))

    go : (q' j : ℕ) → n * up d * L ≡ q' * 2 ^ j * down d → (q' * 2 ^ j ≡ N) ⊎ Other (prec f) (a * L) c (q' * 2 ^ j) → fin u n d ≡ fin t m e
    go q' j w (inl i) = one q' j w i
    go q' j w (inr o) = pick (cases_eq (q' * 2 ^ j) N)
      where
        pick : (q' * 2 ^ j ≡ N) ⊎ (q' * 2 ^ j ≡ N → ⊥) → fin u n d ≡ fin t m e
        pick (inl i) = one q' j w i
        pick (inr no_eq) =
            absurd (clash (to_bits f (fin u n d) % 2)
            (q.even (fin t m e) p.held tt (le_antisymm (q.nearest (fin t m e) p.held tt) (p.nearest (fin u n d) q.held tt)) (differs q' j w no_eq))
            (ap (λ (x : ℕ). x % 2) (bits_of f u n d (q' * 2 ^ j) w ∙ ap (λ (x : ℕ). pattern_of f u x) o.1) ∙ odd-bits f u o.0 (drop (prec f) (a * L) c) o.2 o.3 o.4))

-- what meets `TiesToEven` is `round`
pub only-round : OnlyRound
only-round f s a c r C h = go (ltb a (limit f * c)) (ltb→lt a (limit f * c)) (nltb→le a (limit f * c))
  where
    go : (b : Bool) → (T b → a < limit f * c) → (T (not b) → limit f * c ≤ a) → r ≡ round f s a c
    go true x y = only f s a c C (round f s a c) r (round-value f s a c C (x tt)) ((round-ties-to-even f s a c C).below (x tt)) (h.below (x tt))
    go false x y = h.above (y tt) ∙ sym ((round-ties-to-even f s a c C).above (y tt))
