-- The order of floats is the order of their keys.
use mathlib.Core.Path.{◌≡◌, refl, sym, ap, ◌∙◌, subst}
use mathlib.Core.Logic.{◌⊎◌, inl, inr}
use Prim.Native.Nat.{ℕ, zero, suc, ◌+◌, ◌-◌, ◌*◌, ◌/◌, ◌%◌, ◌^◌, ◌≤◌, ◌<◌, zero-le}
use native.Mathlib.Nat.{le_of_eq, lt_of_lt_of_le, lt_of_le_of_lt, lt_irrefl, zero-mul, mul_comm, mul_assoc, mul_right_comm, mul-pos, mul-lt-mul_of_pos_right, lt_of_mul-lt-mul_right, eq_of_mul-eq-mul_right, mul-div_cancel, le_of_lt, le_refl, eq-or-lt_of_le, add-lt-add_of_le_of_lt, add_left_cancel}
use native.Mathlib.Omega.{arith}
use mathlib.Core.Bool.{Bool, true, false, not, ◌&&◌, ◌||◌, beq}
use lib.IntN.{ℤ}
use lib.Dec.{T, leb, ltb, eqb, leb→le, le→leb, ltb→lt, lt→ltb, eqb→eq, eqb_refl}
use lib.Pow.{pow-add, pow_pos}
use lib.Ieee.{Float, nan, inf, fin, Format, prec, emax, low, up, down, below, level, lt, eq, le, fits}
use lib.Ieee.Fits.{down_pos, and_l, and_r, and_i, eq→eqb}
use lib.Ieee.Scale.{overflow}
use mir.Facts.{or_yes}
use lib.Arith.{add-lt_cancel_left}
use Rattle.rounding.proofs.Units.{on-grid}
use Rattle.order.specs.Units.{real, key_of, mag, key}

pub same_test : (a b : Bool) → (T a → T b) → (T b → T a) → a ≡ b
same_test true true g h = refl
same_test true false g h = absurd (g tt)
same_test false true g h = absurd (h tt)
same_test false false g h = refl

pub or_l : (a b : Bool) → T a → T (a || b)
or_l true b t = tt
or_l false b t = absurd t

pub or_r : (a b : Bool) → T b → T (a || b)
or_r true b t = tt
or_r false b t = t

-- ---- x and y against u and v, where x * L is u * W and y * L is v * W
pub scaled-lt : (x y u v L W : ℕ) → 0 < L → x * L ≡ u * W → y * L ≡ v * W → x < y → u < v
scaled-lt x y u v L W l p q h = lt_of_mul-lt-mul_right W (lt_of_le_of_lt (le_of_eq (sym p)) (lt_of_lt_of_le (mul-lt-mul_of_pos_right h l) (le_of_eq q)))

pub cross : (m' E D L u : ℕ) → m' * L ≡ u * D → m' * E * L ≡ u * (D * E)
cross m' E D L u p = mul_right_comm m' E L ∙ ap (λ (z : ℕ). z * E) p ∙ mul_assoc u D E

pub cross' : (n' D E L v : ℕ) → n' * L ≡ v * E → n' * D * L ≡ v * (D * E)
cross' n' D E L v p = mul_right_comm n' D L ∙ ap (λ (z : ℕ). z * D) p ∙ mul_assoc v E D ∙ ap (λ (z : ℕ). v * z) (mul_comm E D)

scaled-eq : (x y u v L W : ℕ) → 0 < W → x * L ≡ u * W → y * L ≡ v * W → x ≡ y → u ≡ v
scaled-eq x y u v L W w p q e = eq_of_mul-eq-mul_right W w u v (sym p ∙ ap (λ (z : ℕ). z * L) e ∙ q)

-- ---- in whole numbers: C is the key of zero, a and b compare as u and v do
pub record Alike (a b u v : ℕ) : Type 0 where
  pub lt→ : a < b → u < v
  pub lt← : u < v → a < b
  pub gt→ : b < a → v < u
  pub gt← : v < u → b < a
  pub eq→ : a ≡ b → u ≡ v
  pub eq← : u ≡ v → a ≡ b

alike : (x y u v L W : ℕ) → 0 < L → 0 < W → x * L ≡ u * W → y * L ≡ v * W → Alike x y u v
alike x y u v L W l w p q = record {
  lt→ = scaled-lt x y u v L W l p q;
  lt← = scaled-lt u v x y W L w (sym p) (sym q);
  gt→ = scaled-lt y x v u L W l q p;
  gt← = scaled-lt v u y x W L w (sym q) (sym p);
  eq→ = scaled-eq x y u v L W w p q;
  eq← = scaled-eq u v x y W L l (sym p) (sym q);
}

n2 : (C u v : ℕ) → C + u < C - v → ⊥
n2 C u v h = omega arith

n3 : (C u v : ℕ) → 0 < C → C - u < C + v → 0 < u ⊎ 0 < v
n3 C zero zero c h = absurd (no C c h)
  where
    no : (C : ℕ) → 0 < C → C - 0 < C + 0 → ⊥
    no C c h = omega arith
n3 C (suc u) v c h = inl (omega arith)
n3 C zero (suc v) c h = inr (omega arith)

n4 : (C u v : ℕ) → 0 < C → 0 < u + v → C - u < C + v
n4 C u v c h = omega arith

n5 : (C u v : ℕ) → u ≤ C → v ≤ C → C - u < C - v → v < u
n5 C u v a b h = omega arith

n5' : (C u v : ℕ) → u ≤ C → v ≤ C → v < u → C - u < C - v
n5' C u v a b h = omega arith

n7 : (C u v : ℕ) → v ≤ C → C + u ≡ C - v → (u ≡ 0) × (v ≡ 0)
n7 C u v a h = (omega arith, omega arith)

n8 : (C u v : ℕ) → u ≤ C → v ≤ C → C - u ≡ C - v → u ≡ v
n8 C u v a b h = omega arith

some-pos : (u v a b : ℕ) → (0 < u → 0 < a) → (0 < v → 0 < b) → 0 < u ⊎ 0 < v → 0 < a + b
some-pos u v a b p q h = elim h [ inl x ↦ l (p x) | inr y ↦ r (q y) ]
  where
    l : 0 < a → 0 < a + b
    l x = omega arith

    r : 0 < b → 0 < a + b
    r x = omega arith

sum-pos : (a b : ℕ) → 0 < a + b → 0 < a ⊎ 0 < b
sum-pos zero b h = inr (omega arith)
sum-pos (suc a) b h = inl (omega arith)

plus-pos : (u v : ℕ) → 0 < u ⊎ 0 < v → 0 < u + v
plus-pos u v h = elim h [ inl x ↦ l x | inr y ↦ r y ]
  where
    l : 0 < u → 0 < u + v
    l x = omega arith

    r : 0 < v → 0 < u + v
    r x = omega arith

below_key : (C : ℕ) (s : Bool) (a u : ℕ) (t : Bool) (b v : ℕ) → 0 < C → u ≤ C → v ≤ C → Alike a b u v → Alike 0 a 0 u → Alike 0 b 0 v → below s a t b ≡ ltb (key_of C s u) (key_of C t v)
below_key C false a u false b v c p q k ka kb = same_test (ltb a b) (ltb (C + u) (C + v)) (λ h. lt→ltb (C + u) (C + v) (add-lt-add_of_le_of_lt (le_refl C) (k.lt→ (ltb→lt a b h)))) (λ h. lt→ltb a b (k.lt← (add-lt_cancel_left C (ltb→lt (C + u) (C + v) h))))
below_key C false a u true b v c p q k ka kb = same_test false (ltb (C + u) (C - v)) (λ h. absurd h) (λ h. absurd (n2 C u v (ltb→lt (C + u) (C - v) h)))
below_key C true a u false b v c p q k ka kb =
    same_test (ltb 0 (a + b)) (ltb (C - u) (C + v))
    (λ h. lt→ltb (C - u) (C + v) (n4 C u v c (some-pos a b u v ka.lt→ kb.lt→ (sum-pos a b (ltb→lt 0 (a + b) h)))))
    (λ h. lt→ltb 0 (a + b) (some-pos u v a b ka.lt← kb.lt← (n3 C u v c (ltb→lt (C - u) (C + v) h))))
below_key C true a u true b v c p q k ka kb = same_test (ltb b a) (ltb (C - u) (C - v)) (λ h. lt→ltb (C - u) (C - v) (n5' C u v p q (k.gt→ (ltb→lt b a h)))) (λ h. lt→ltb b a (k.gt← (n5 C u v p q (ltb→lt (C - u) (C - v) h))))

and-true : (a : Bool) → T a → T (a && true)
and-true true t = tt
and-true false t = t

zeros : (C u v : ℕ) → 0 ≡ u → 0 ≡ v → C + u ≡ C - v
zeros C u v x y = omega arith

level-key : (C : ℕ) (s : Bool) (a u : ℕ) (t : Bool) (b v : ℕ) → u ≤ C → v ≤ C → Alike a b u v → Alike 0 a 0 u → Alike 0 b 0 v → level s a t b ≡ eqb (key_of C s u) (key_of C t v)
level-key C false a u false b v p q k ka kb =
    same_test (eqb a b && true) (eqb (C + u) (C + v))
    (λ h. eq→eqb (ap (λ (z : ℕ). C + z) (k.eq→ (eqb→eq a b (and_l (eqb a b) true h)))))
    (λ h. and-true (eqb a b) (eq→eqb (k.eq← (add_left_cancel C (eqb→eq (C + u) (C + v) h)))))
level-key C false a u true b v p q k ka kb =
    same_test (eqb a b && eqb a 0) (eqb (C + u) (C - v))
    (λ h. let z = eqb→eq a 0 (and_r (eqb a b) (eqb a 0) h) in eq→eqb (zeros C u v (ka.eq→ (sym z)) (kb.eq→ (sym z ∙ eqb→eq a b (and_l (eqb a b) (eqb a 0) h)))))
    (λ h. let w = n7 C u v q (eqb→eq (C + u) (C - v) h) in let za = ka.eq← (sym w.0) in and_i (eqb a b) (eqb a 0) (eq→eqb (sym za ∙ kb.eq← (sym w.1))) (eq→eqb (sym za)))
level-key C true a u false b v p q k ka kb =
    same_test (eqb a b && eqb a 0) (eqb (C - u) (C + v))
    (λ h. let z = eqb→eq a 0 (and_r (eqb a b) (eqb a 0) h) in eq→eqb (sym (zeros C v u (kb.eq→ (sym z ∙ eqb→eq a b (and_l (eqb a b) (eqb a 0) h))) (ka.eq→ (sym z)))))
    (λ h. let w = n7 C v u p (sym (eqb→eq (C - u) (C + v) h)) in let za = ka.eq← (sym w.1) in and_i (eqb a b) (eqb a 0) (eq→eqb (sym za ∙ kb.eq← (sym w.0))) (eq→eqb (sym za)))
level-key C true a u true b v p q k ka kb =
    same_test (eqb a b && true) (eqb (C - u) (C - v))
    (λ h. eq→eqb (ap (λ (z : ℕ). C - z) (k.eq→ (eqb→eq a b (and_l (eqb a b) true h)))))
    (λ h. and-true (eqb a b) (eq→eqb (k.eq← (n8 C u v p q (eqb→eq (C - u) (C - v) h)))))

-- ---- a value that the format holds, in units
pub mag_of : (f : Format) (s : Bool) (m : ℕ) (e : ℤ) (u : ℕ) → m * up e * 2 ^ low f ≡ u * down e → mag f (fin s m e) ≡ u
unfolding mag
mag_of f s m e u h = ap (λ (z : ℕ). z / down e) h ∙ mul-div_cancel u (down_pos e)

pub mag-inf : (f : Format) (s : Bool) → overflow f ≡ mag f (inf s)
unfolding mag
mag-inf f s = refl

pub mag-val : (f : Format) (s : Bool) (m : ℕ) (e : ℤ) → T (fits f (fin s m e)) → m * up e * 2 ^ low f ≡ mag f (fin s m e) * down e
mag-val f s m e t = let g = on-grid f s m e t in g.3 ∙ ap (λ (z : ℕ). z * down e) (sym (mag_of f s m e (g.0 * 2 ^ g.1) g.3))

in-range : (f : Format) (s : Bool) (m : ℕ) (e : ℤ) → T (fits f (fin s m e)) → m * up e < 2 ^ suc (emax f) * down e
unfolding fits
in-range f s zero e t = lt_of_le_of_lt (le_of_eq (zero-mul (up e))) (mul-pos (pow_pos (suc (emax f))) (down_pos e))
in-range f s (suc m) e t =
    let a : Bool = eqb (suc m % 2) 1 in
    let b : Bool = ltb (suc m) (2 ^ prec f) in
    let c : Bool = leb (down e) (2 ^ low f) in
    let d : Bool = ltb (suc m * up e) (2 ^ suc (emax f) * down e) in
    ltb→lt (suc m * up e) (2 ^ suc (emax f) * down e) (and_r (a && b && c) d t)

pub mag-lt : (f : Format) (s : Bool) (m : ℕ) (e : ℤ) → T (fits f (fin s m e)) → mag f (fin s m e) < overflow f
mag-lt f s m e t =
    let L = 2 ^ low f in
    let E = 2 ^ suc (emax f) in
    lt_of_mul-lt-mul_right (down e)
    (lt_of_le_of_lt (le_of_eq (sym (mag-val f s m e t)))
    (lt_of_lt_of_le (mul-lt-mul_of_pos_right (in-range f s m e t) (pow_pos (low f)))
    (le_of_eq (mul_right_comm E (down e) L ∙ ap (λ (z : ℕ). z * down e) (mul_comm E L ∙ sym (pow-add 2 (low f) (suc (emax f))))))))

pub mag-le : (f : Format) (x : Float) → T (fits f x) → mag f x ≤ overflow f
mag-le f nan t = unfold mag in zero-le
mag-le f (inf s) t = unfold mag in le_refl (overflow f)
mag-le f (fin s m e) t = le_of_lt (mag-lt f s m e t)

pub overflow-pos : (f : Format) → 0 < overflow f
overflow-pos f = pow_pos (low f + suc (emax f))

-- ---- the tests by keys
fin-alike : (f : Format) (s : Bool) (m : ℕ) (e : ℤ) (t : Bool) (n : ℕ) (d : ℤ) → T (fits f (fin s m e)) → T (fits f (fin t n d)) → Alike (m * up e * down d) (n * up d * down e) (mag f (fin s m e)) (mag f (fin t n d))
fin-alike f s m e t n d p q =
    alike (m * up e * down d) (n * up d * down e) (mag f (fin s m e)) (mag f (fin t n d)) (2 ^ low f) (down e * down d) (pow_pos (low f)) (mul-pos (down_pos e) (down_pos d))
    (cross (m * up e) (down d) (down e) (2 ^ low f) (mag f (fin s m e)) (mag-val f s m e p))
    (cross' (n * up d) (down e) (down d) (2 ^ low f) (mag f (fin t n d)) (mag-val f t n d q))

zero-alike : (f : Format) (s : Bool) (m : ℕ) (e : ℤ) (D : ℕ) → 0 < D → T (fits f (fin s m e)) → Alike 0 (m * up e * D) 0 (mag f (fin s m e))
zero-alike f s m e D h p =
    alike 0 (m * up e * D) 0 (mag f (fin s m e)) (2 ^ low f) (down e * D) (pow_pos (low f)) (mul-pos (down_pos e) h)
    (zero-mul (2 ^ low f) ∙ sym (zero-mul (down e * D)))
    (cross (m * up e) D (down e) (2 ^ low f) (mag f (fin s m e)) (mag-val f s m e p))

inf-lt : (C : ℕ) (s t : Bool) → 0 < C → (s && not t) ≡ ltb (key_of C s C) (key_of C t C)
inf-lt C true true c = same_test false (ltb (C - C) (C - C)) (λ h. absurd h) (λ h. absurd (lt_irrefl (C - C) (ltb→lt (C - C) (C - C) h)))
inf-lt C true false c = same_test true (ltb (C - C) (C + C)) (λ h. lt→ltb (C - C) (C + C) (omega arith)) (λ h. tt)
inf-lt C false true c = same_test false (ltb (C + C) (C - C)) (λ h. absurd h) (λ h. absurd (n2 C C C (ltb→lt (C + C) (C - C) h)))
inf-lt C false false c = same_test false (ltb (C + C) (C + C)) (λ h. absurd h) (λ h. absurd (lt_irrefl (C + C) (ltb→lt (C + C) (C + C) h)))

low_end : (C : ℕ) (t : Bool) (v : ℕ) → v < C → C - C < key_of C t v
low_end C true v h = omega arith
low_end C false v h = omega arith

high_end : (C : ℕ) (t : Bool) (v : ℕ) → v < C → key_of C t v < C + C
high_end C true v h = omega arith
high_end C false v h = omega arith

pub lt-asym : {a b : ℕ} → a < b → b < a → ⊥
lt-asym {a} {b} h k = omega arith

inf-fin : (C : ℕ) (s t : Bool) (v : ℕ) → v < C → s ≡ ltb (key_of C s C) (key_of C t v)
inf-fin C true t v h = same_test true (ltb (C - C) (key_of C t v)) (λ x. lt→ltb (C - C) (key_of C t v) (low_end C t v h)) (λ x. tt)
inf-fin C false t v h = same_test false (ltb (C + C) (key_of C t v)) (λ x. absurd x) (λ x. absurd (lt-asym (ltb→lt (C + C) (key_of C t v) x) (high_end C t v h)))

fin-inf : (C : ℕ) (s t : Bool) (u : ℕ) → u < C → not t ≡ ltb (key_of C s u) (key_of C t C)
fin-inf C s true u h = same_test false (ltb (key_of C s u) (C - C)) (λ x. absurd x) (λ x. absurd (lt-asym (ltb→lt (key_of C s u) (C - C) x) (low_end C s u h)))
fin-inf C s false u h = same_test true (ltb (key_of C s u) (C + C)) (λ x. lt→ltb (key_of C s u) (C + C) (high_end C s u h)) (λ x. tt)

pub lt-key : (f : Format) (x y : Float) → T (fits f x) → T (fits f y) → T (real x) → T (real y) → lt x y ≡ ltb (key f x) (key f y)
unfolding lt
lt-key f nan y p q a b = absurd a
lt-key f (inf s) nan p q a b = absurd b
lt-key f (inf s) (inf t) p q a b = unfold mag in inf-lt (overflow f) s t (overflow-pos f)
lt-key f (inf s) (fin t n d) p q a b = subst (λ (z : ℕ). s ≡ ltb (key_of (overflow f) s z) (key f (fin t n d))) (mag-inf f s) (inf-fin (overflow f) s t (mag f (fin t n d)) (mag-lt f t n d q))
lt-key f (fin s m e) nan p q a b = absurd b
lt-key f (fin s m e) (inf t) p q a b = subst (λ (z : ℕ). not t ≡ ltb (key f (fin s m e)) (key_of (overflow f) t z)) (mag-inf f t) (fin-inf (overflow f) s t (mag f (fin s m e)) (mag-lt f s m e p))
lt-key f (fin s m e) (fin t n d) p q a b =
    below_key (overflow f) s (m * up e * down d) (mag f (fin s m e)) t (n * up d * down e) (mag f (fin t n d)) (overflow-pos f) (mag-le f (fin s m e) p) (mag-le f (fin t n d) q)
    (fin-alike f s m e t n d p q) (zero-alike f s m e (down d) (down_pos d) p) (zero-alike f t n d (down e) (down_pos e) q)

eq-inf : (C : ℕ) (s t : Bool) → 0 < C → beq s t ≡ eqb (key_of C s C) (key_of C t C)
eq-inf C true true c = same_test true (eqb (C - C) (C - C)) (λ h. eqb_refl (C - C)) (λ h. tt)
eq-inf C true false c = same_test false (eqb (C - C) (C + C)) (λ h. absurd h) (λ h. absurd (no (eqb→eq (C - C) (C + C) h)))
  where
    no : C - C ≡ C + C → ⊥
    no e = omega arith
eq-inf C false true c = same_test false (eqb (C + C) (C - C)) (λ h. absurd h) (λ h. absurd (no (eqb→eq (C + C) (C - C) h)))
  where
    no : C + C ≡ C - C → ⊥
    no e = omega arith
eq-inf C false false c = same_test true (eqb (C + C) (C + C)) (λ h. eqb_refl (C + C)) (λ h. tt)

no_eq : (a b : ℕ) → a < b → false ≡ eqb a b
no_eq a b h = same_test false (eqb a b) (λ x. absurd x) (λ x. absurd (lt_irrefl a (lt_of_lt_of_le h (le_of_eq (sym (eqb→eq a b x))))))

no-eq' : (a b : ℕ) → b < a → false ≡ eqb a b
no-eq' a b h = same_test false (eqb a b) (λ x. absurd x) (λ x. absurd (lt_irrefl b (lt_of_lt_of_le h (le_of_eq (eqb→eq a b x)))))

ends : (C : ℕ) (s t : Bool) (v : ℕ) → v < C → false ≡ eqb (key_of C s C) (key_of C t v)
ends C true t v h = no_eq (C - C) (key_of C t v) (low_end C t v h)
ends C false t v h = no-eq' (C + C) (key_of C t v) (high_end C t v h)

ends' : (C : ℕ) (s t : Bool) (v : ℕ) → v < C → false ≡ eqb (key_of C t v) (key_of C s C)
ends' C true t v h = no-eq' (key_of C t v) (C - C) (low_end C t v h)
ends' C false t v h = no_eq (key_of C t v) (C + C) (high_end C t v h)

pub eq-key : (f : Format) (x y : Float) → T (fits f x) → T (fits f y) → T (real x) → T (real y) → eq x y ≡ eqb (key f x) (key f y)
unfolding eq
eq-key f nan y p q a b = absurd a
eq-key f (inf s) nan p q a b = absurd b
eq-key f (inf s) (inf t) p q a b = unfold mag in eq-inf (overflow f) s t (overflow-pos f)
eq-key f (inf s) (fin t n d) p q a b = subst (λ (z : ℕ). false ≡ eqb (key_of (overflow f) s z) (key f (fin t n d))) (mag-inf f s) (ends (overflow f) s t (mag f (fin t n d)) (mag-lt f t n d q))
eq-key f (fin s m e) nan p q a b = absurd b
eq-key f (fin s m e) (inf t) p q a b = subst (λ (z : ℕ). false ≡ eqb (key f (fin s m e)) (key_of (overflow f) t z)) (mag-inf f t) (ends' (overflow f) t s (mag f (fin s m e)) (mag-lt f s m e p))
eq-key f (fin s m e) (fin t n d) p q a b =
    level-key (overflow f) s (m * up e * down d) (mag f (fin s m e)) t (n * up d * down e) (mag f (fin t n d)) (mag-le f (fin s m e) p) (mag-le f (fin t n d) q)
    (fin-alike f s m e t n d p q) (zero-alike f s m e (down d) (down_pos d) p) (zero-alike f t n d (down e) (down_pos e) q)

lt-or-eq : (a b : ℕ) → (ltb a b || eqb a b) ≡ leb a b
lt-or-eq a b = same_test (ltb a b || eqb a b) (leb a b) there (λ h. elim (eq-or-lt_of_le (leb→le a b h)) [ inl x ↦ or_r (ltb a b) (eqb a b) (eq→eqb x) | inr y ↦ or_l (ltb a b) (eqb a b) (lt→ltb a b y) ])
  where
    there : T (ltb a b || eqb a b) → T (leb a b)
    there h = elim (or_yes (ltb a b) (eqb a b) h) [ inl x ↦ le→leb a b (le_of_lt (ltb→lt a b x)) | inr y ↦ le→leb a b (le_of_eq (eqb→eq a b y)) ]

le_is : (x y : Float) → le x y ≡ (lt x y || eq x y)
unfolding le
le_is x y = refl

pub le-key : (f : Format) (x y : Float) → T (fits f x) → T (fits f y) → T (real x) → T (real y) → le x y ≡ leb (key f x) (key f y)
le-key f x y p q a b = le_is x y ∙ ap (λ (z : Bool). z || eq x y) (lt-key f x y p q a b) ∙ ap (λ (z : Bool). ltb (key f x) (key f y) || z) (eq-key f x y p q a b) ∙ lt-or-eq (key f x) (key f y)
