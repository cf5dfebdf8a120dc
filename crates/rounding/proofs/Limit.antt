-- Where `round` gives an infinity: exactly from half a step above the largest finite value on, `limit`. Below it `round` gives a whole number of steps, `grid`. Assumes nothing.
use mathlib.Core.Path.{◌≡◌, refl, sym, ap, ◌∙◌, subst}
use mathlib.Core.Bool.{Bool, true, false, not, cond}
use Prim.Native.Nat.{ℕ, suc, ◌+◌, ◌-◌, ◌*◌, ◌^◌, ◌≤◌, ◌<◌}
use native.Mathlib.Nat.{le_trans, le_of_eq, lt_of_lt_of_le, le_of_suc-le-suc, lt_of_not-le, zero-lt-suc, mul-one, mul_assoc, mul_right_comm, add-mul, mul-pos, mul-le-mul_right, mul-lt-mul_of_pos_right}
use native.Mathlib.Omega.{arith}
use lib.Dec.{T, ltb, lit<}
use lib.Arith.{le→nltb}
use lib.Pow.{pow_pos}
use lib.Ieee.{nan, Float, inf, fin, Format, binary32, binary64, prec, emax, low, odd, units, round, le}
use lib.Ieee.Fits.{two, two-le_pos, round_is}
use lib.Ieee.Exact.{HasValue, units_val}
use lib.Ieee.Order.{drop, kept, round_mono}
use lib.Ieee.Scale.{grid, overflow, round_val}
use Rattle.rounding.specs.TiesToEven.{gap, limit}
use Rattle.rounding.specs.Laws.{LimitBinary32}
use Rattle.rounding.proofs.Cells.{grid-nearest}

-- the number that the standard names
pub limit-binary32 : LimitBinary32
limit-binary32 = refl

-- the largest finite value in units, (2 ^ prec - 1) * 2 ^ last, and half a step there
abbrev last : Format → ℕ
last f = low f + suc (emax f) - prec f

abbrev half : Format → ℕ
half f = 2 ^ (low f + emax f - prec f)

top_split : (f : Format) → overflow f ≡ (2 ^ prec f - 1) * 2 ^ last f + 2 * half f
top_split binary32 = refl
top_split binary64 = refl

limit-units : (f : Format) → limit f * 2 ^ low f + half f ≡ overflow f
limit-units binary32 = refl
limit-units binary64 = refl

below-pow : (f : Format) → 2 ^ prec f - 1 < 2 ^ prec f
below-pow binary32 = lit< tt
below-pow binary64 = lit< tt

too_far : (Mc Uc Tc l n X : ℕ) → Tc ≡ Mc + 2 * Uc → l + Uc ≡ Tc → n < l → Tc ≤ X → 0 < Uc → gap X n ≤ gap Mc n → ⊥
too_far Mc Uc Tc l n X a b c d e g = omega arith

pub grid-under : (f : Format) (a c : ℕ) → 0 < c → a < limit f * c → grid f a c < overflow f
grid-under f a c C h = lt_of_not-le (λ (g : overflow f ≤ grid f a c).
    let L = 2 ^ low f in
    let M = (2 ^ prec f - 1) * 2 ^ last f in
    too_far (M * c) (half f * c) (overflow f * c) (limit f * L * c) (a * L) (grid f a c * c)
    (ap (λ (x : ℕ). x * c) (top_split f) ∙ add-mul M (2 * half f) c ∙ ap (λ (x : ℕ). M * c + x) (mul_assoc 2 (half f) c))
    (sym (add-mul (limit f * L) (half f) c) ∙ ap (λ (x : ℕ). x * c) (limit-units f))
    (lt_of_lt_of_le (mul-lt-mul_of_pos_right h (pow_pos (low f))) (le_of_eq (mul_right_comm (limit f) c L)))
    (mul-le-mul_right c g)
    (mul-pos (pow_pos (low f + emax f - prec f)) C)
    (grid-nearest (prec f) (a * L) c (2 ^ prec f - 1) (last f) (two-le_pos (prec f) (two f)) C (below-pow f)))

limit-is-inf : (f : Format) → round f false (limit f) 1 ≡ inf false
unfolding round
limit-is-inf binary32 = refl
limit-is-inf binary64 = refl

no-fin-above : (x : Float) (s : Bool) (a c : ℕ) → HasValue x s a c → T (le (inf false) x) → ⊥
unfolding le
no-fin-above nan s a c v h = elim v [ ]
no-fin-above (inf _) s a c v h = elim v [ ]
no-fin-above (fin t m e) s a c v h = h

pub grid-over : (f : Format) (a c : ℕ) → 0 < c → limit f * c ≤ a → overflow f ≤ grid f a c
grid-over f a c C h = le_of_suc-le-suc (lt_of_not-le (λ (g : suc (grid f a c) ≤ overflow f).
    no-fin-above (round f false a c) false (grid f a c) (2 ^ low f) (round_val f a c g)
    (subst (λ (x : Float). T (le x (round f false a c))) (limit-is-inf f) (round_mono f (limit f) 1 a c (zero-lt-suc 0) C (le_trans h (le_of_eq (sym (mul-one a))))))))

units-inf : (f : Format) (s : Bool) (q k : ℕ) → overflow f ≤ q * 2 ^ k → units f s q k ≡ inf s
unfolding units
units-inf f s q k h = go (ltb (q * 2 ^ k) (overflow f)) (le→nltb (q * 2 ^ k) (overflow f) h)
  where
    go : (b : Bool) → T (not b) → cond b (odd (suc (prec f)) s q k (low f)) (inf s) ≡ inf s
    go true t = absurd t
    go false t = refl

pub round-inf : (f : Format) (s : Bool) (a c : ℕ) → 0 < c → limit f * c ≤ a → round f s a c ≡ inf s
round-inf f s a c C h = round_is f s a c ∙ units-inf f s (kept (prec f) (a * 2 ^ low f) c) (drop (prec f) (a * 2 ^ low f) c) (grid-over f a c C h)

-- ---- the value below the limit
pub round-value : (f : Format) (s : Bool) (a c : ℕ) → 0 < c → a < limit f * c → HasValue (round f s a c) s (grid f a c) (2 ^ low f)
round-value f s a c C h =
    subst (λ (z : Float). HasValue z s (grid f a c) (2 ^ low f)) (sym (round_is f s a c))
    (units_val f s (kept (prec f) (a * 2 ^ low f) c) (drop (prec f) (a * 2 ^ low f) c) (grid-under f a c C h))
