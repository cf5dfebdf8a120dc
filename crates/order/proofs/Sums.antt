-- Sums and differences by keys: `add` never falls as an operand rises, and a difference is below zero exactly where its first operand is below its second.
use mathlib.Core.Path.{◌≡◌, refl, sym, ap, ap₂, ◌∙◌, subst}
use mathlib.Core.Logic.{inl, inr}
use Prim.Native.Nat.{ℕ, suc, ◌+◌, ◌-◌, ◌*◌, ◌^◌, ◌≤◌, ◌<◌, min}
use native.Mathlib.Nat.{le_trans, le_of_eq, le_of_lt, le_refl, le_antisymm, lt_of_lt_of_le, lt_of_le_of_lt, mul_comm, add-mul, mul-pos, mul-sub, le_of_mul-le-mul_right, mul-le-mul_right, min-eq_left, min-eq_right, min-le_right, add-le-add, sub-le-sub_left, sub-le, le-add_right}
use native.Mathlib.Omega.{arith}
use mathlib.Core.Bool.{Bool, true, false, not, ◌&&◌, beq, cond}
use lib.Dec.{T, leb, ltb, leb→le, le→leb, ltb→lt, nltb→le, lit<}
use lib.Pow.{pow_pos}
use lib.Arith.{add-le_cancel_left}
use Rattle.std.proofs.lemmas.Bool.{cases_lt}
use lib.Ieee.{Float, nan, inf, fin, Format, binary32, binary64, prec, low, up, down, fits, odd, units, round, neg, sum, add, sub}
use lib.Ieee.Fits.{down_pos, round_is, round-fits, neg-fits}
use lib.Ieee.Scale.{grid, overflow, finite}
use lib.Ieee.Order.{drop, kept, round_mono}
use lib.Ieee.Exact.{HasValue, odd_sign, round_exact}
use Rattle.order.specs.Units.{real, key_of, sgn, mag, key, rounded, total}
use Rattle.order.proofs.Keys.{le-key, mag_of, mag-val, mag-le, mag-inf, overflow-pos, cross, cross'}

-- ---- what `round` gives
pub sized : (f : Format) (x : Float) (s : Bool) (u : ℕ) → HasValue x s u (2 ^ low f) → (mag f x ≡ u) × (sgn x ≡ s) × T (real x)
sized f nan s u h = absurd h
sized f (inf t) s u h = absurd h
sized f (fin t m e) s u h = (mag_of f t m e u h.1, h.0, tt)

-- the key of a value, and the negative of one
pub sized-key : (f : Format) (x : Float) (s : Bool) (v : ℕ) → HasValue x s v (2 ^ low f) → (key f x ≡ key_of (overflow f) s v) × T (real x)
sized-key f x s v h = let z = sized f x s v h in (ap₂ (λ (t : Bool) (u : ℕ). key_of (overflow f) t u) z.1 z.0, z.2)

pub neg_value : (x : Float) (v c : ℕ) → HasValue x false v c → HasValue (neg x) true v c
unfolding neg
neg_value nan v c h = h
neg_value (inf s) v c h = h
neg_value (fin s m e) v c h = (ap not h.0, h.1)

units-as : (f : Format) (s : Bool) (q k : ℕ) → (mag f (units f s q k) ≡ min (q * 2 ^ k) (overflow f)) × (sgn (units f s q k) ≡ s) × T (real (units f s q k))
unfolding units
units-as f s q k = go (ltb (q * 2 ^ k) (overflow f)) (ltb→lt (q * 2 ^ k) (overflow f)) (nltb→le (q * 2 ^ k) (overflow f))
  where
    go : (b : Bool) → (T b → q * 2 ^ k < overflow f) → (T (not b) → overflow f ≤ q * 2 ^ k)
        → (mag f (cond b (odd (suc (prec f)) s q k (low f)) (inf s)) ≡ min (q * 2 ^ k) (overflow f)) × (sgn (cond b (odd (suc (prec f)) s q k (low f)) (inf s)) ≡ s) × T (real (cond b (odd (suc (prec f)) s q k (low f)) (inf s)))
    go true h g = let w = sized f (odd (suc (prec f)) s q k (low f)) s (q * 2 ^ k) (odd_sign (suc (prec f)) s q k (low f)) in (w.0 ∙ sym (min-eq_left (le_of_lt (h tt))), w.1, w.2)
    go false h g = (sym (mag-inf f s) ∙ sym (min-eq_right (g tt)), refl, tt)

pub round-as : (f : Format) (s : Bool) (a c : ℕ) → (mag f (round f s a c) ≡ rounded f a c) × (sgn (round f s a c) ≡ s) × T (real (round f s a c))
round-as f s a c =
    subst (λ (z : Float). (mag f z ≡ rounded f a c) × (sgn z ≡ s) × T (real z)) (sym (round_is f s a c)) (units-as f s (kept (prec f) (a * 2 ^ low f) c) (drop (prec f) (a * 2 ^ low f) c))

pub round-key : (f : Format) (s : Bool) (a c : ℕ) → key f (round f s a c) ≡ key_of (overflow f) s (rounded f a c)
round-key f s a c = let w = round-as f s a c in ap (λ (z : ℕ). key_of (overflow f) (sgn (round f s a c)) z) w.0 ∙ ap (λ (z : Bool). key_of (overflow f) z (rounded f a c)) w.1

pub rounded-mono : (f : Format) (a b c d : ℕ) → 0 < b → 0 < d → a * d ≤ c * b → rounded f a b ≤ rounded f c d
rounded-mono f a b c d B D h =
    let x = round f false a b in
    let y = round f false c d in
    let k : key f x ≤ key f y = leb→le (key f x) (key f y) (subst (λ (z : Bool). T z) (le-key f x y (round-fits f false a b) (round-fits f false c d) (round-as f false a b).2 (round-as f false c d).2) (round_mono f a b c d B D h)) in
    add-le_cancel_left (overflow f) (le_trans (le_of_eq (sym (round-key f false a b))) (le_trans k (le_of_eq (round-key f false c d))))

pub rounded-same : (f : Format) (a b c d : ℕ) → 0 < b → 0 < d → a * d ≡ c * b → rounded f a b ≡ rounded f c d
rounded-same f a b c d B D e = le_antisymm (rounded-mono f a b c d B D (le_of_eq e)) (rounded-mono f c d a b D B (le_of_eq (sym e)))

pub rounded-le : (f : Format) (a c : ℕ) → rounded f a c ≤ overflow f
rounded-le f a c = min-le_right (grid f a c) (overflow f)

-- ---- in units: n units, rounded
abbrev R : Format → ℕ → ℕ
R f n = rounded f n (2 ^ low f)

R-mono : (f : Format) (n m : ℕ) → n ≤ m → R f n ≤ R f m
R-mono f n m h = rounded-mono f n (2 ^ low f) m (2 ^ low f) (pow_pos (low f)) (pow_pos (low f)) (mul-le-mul_right (2 ^ low f) h)

-- a format has more than one digit
pub more-digits : (f : Format) → 1 < 2 ^ prec f
more-digits binary32 = lit< tt
more-digits binary64 = lit< tt

one-fine : (f : Format) → 1 * 2 ^ 0 < overflow f
one-fine binary32 = lit< tt
one-fine binary64 = lit< tt

pub R-one : (f : Format) → R f 1 ≡ 1
R-one f = sym (round-as f false 1 (2 ^ low f)).0 ∙ (sized f (round f false 1 (2 ^ low f)) false 1 (round_exact f false 1 (2 ^ low f) 1 0 (pow_pos (low f)) (more-digits f) (one-fine f) refl)).0

pub R-zero : (f : Format) → R f 0 ≡ 0
R-zero f = sym (round-as f false 0 (2 ^ low f)).0 ∙ (sized f (round f false 0 (2 ^ low f)) false 0 (round_exact f false 0 (2 ^ low f) 0 0 (pow_pos (low f)) (le_trans (le_of_lt (more-digits f)) (le_refl (2 ^ prec f))) (overflow-pos f) refl)).0

-- gradual underflow: what is not zero does not round to zero
pub R-pos : (f : Format) (n : ℕ) → 0 < n → 0 < R f n
R-pos f n h = le_trans (le_of_eq (sym (R-one f))) (R-mono f 1 n h)

-- ---- `total`
pub total-up : (f : Format) (n : ℕ) → overflow f + overflow f ≤ n → total f n ≡ overflow f + R f (n - (overflow f + overflow f))
unfolding total
total-up f n h = go (leb (overflow f + overflow f) n) (le→leb (overflow f + overflow f) n h)
  where
    go : (b : Bool) → T b → cond b (overflow f + R f (n - (overflow f + overflow f))) (overflow f - R f (overflow f + overflow f - n)) ≡ overflow f + R f (n - (overflow f + overflow f))
    go true t = refl
    go false t = absurd t

met : (C n : ℕ) → C ≤ n → n ≤ C → (n - C ≡ 0) × (C - n ≡ 0)
met C n a b = (omega arith, omega arith)

flat : (C r q : ℕ) → r ≡ 0 → q ≡ 0 → C + r ≡ C - q
flat C r q a b = omega arith

pub total-down : (f : Format) (n : ℕ) → n ≤ overflow f + overflow f → total f n ≡ overflow f - R f (overflow f + overflow f - n)
unfolding total
total-down f n h = go (leb (overflow f + overflow f) n) (leb→le (overflow f + overflow f) n)
  where
    C : ℕ
    C = overflow f

    go : (b : Bool) → (T b → C + C ≤ n) → cond b (C + R f (n - (C + C))) (C - R f (C + C - n)) ≡ C - R f (C + C - n)
    go true t = let w = met (C + C) n (t tt) h in flat C (R f (n - (C + C))) (R f (C + C - n)) (ap (R f) w.0 ∙ R-zero f) (ap (R f) w.1 ∙ R-zero f)
    go false t = refl

less-up : (K n m : ℕ) → n ≤ m → n - K ≤ m - K
less-up K n m h = omega arith

pub total_mono : (f : Format) (n m : ℕ) → n ≤ m → total f n ≤ total f m
total_mono f n m h =
    elim (cases_lt (overflow f + overflow f) n) [
      | inr x ↦
          elim (cases_lt (overflow f + overflow f) m) [
            | inr y ↦ le_trans (le_of_eq (total-down f n x)) (le_trans (sub-le-sub_left (R-mono f (overflow f + overflow f - m) (overflow f + overflow f - n) (sub-le-sub_left h (overflow f + overflow f))) (overflow f)) (le_of_eq (sym (total-down f m y))))
            | inl y ↦ le_trans (le_of_eq (total-down f n x)) (le_trans (le_trans (sub-le (overflow f) (R f (overflow f + overflow f - n))) (le-add_right (overflow f) (R f (m - (overflow f + overflow f))))) (le_of_eq (sym (total-up f m (le_of_lt y)))))
          ]
      | inl x ↦ le_trans (le_of_eq (total-up f n (le_of_lt x))) (le_trans (add-le-add (le_refl (overflow f)) (R-mono f (n - (overflow f + overflow f)) (m - (overflow f + overflow f)) (less-up (overflow f + overflow f) n m h))) (le_of_eq (sym (total-up f m (le_trans (le_of_lt x) h)))))
    ]

gap-pos : (n K : ℕ) → n < K → 0 < K - n
gap-pos n K h = omega arith

under : (C r : ℕ) → 0 < C → 0 < r → C - r < C
under C r c h = omega arith

over : (C r : ℕ) → 0 < r → C < C + r
over C r h = omega arith

-- zero's key is overflow f, and the sum of two opposite values' keys twice that
pub total-below : (f : Format) (n : ℕ) → n < overflow f + overflow f → total f n < overflow f
total-below f n h = lt_of_le_of_lt (le_of_eq (total-down f n (le_of_lt h))) (under (overflow f) (R f (overflow f + overflow f - n)) (overflow-pos f) (R-pos f (overflow f + overflow f - n) (gap-pos n (overflow f + overflow f) h)))

pub total-above : (f : Format) (n : ℕ) → overflow f + overflow f < n → overflow f < total f n
total-above f n h = lt_of_lt_of_le (over (overflow f) (R f (n - (overflow f + overflow f))) (R-pos f (n - (overflow f + overflow f)) (gap-pos (overflow f + overflow f) n h))) (le_of_eq (sym (total-up f n (le_of_lt h))))

pub total-from : (f : Format) (n : ℕ) → overflow f + overflow f ≤ n → overflow f ≤ total f n
total-from f n h = le_trans (le-add_right (overflow f) (R f (n - (overflow f + overflow f)))) (le_of_eq (sym (total-up f n h)))

pub total-upto : (f : Format) (n : ℕ) → n ≤ overflow f + overflow f → total f n ≤ overflow f
total-upto f n h = le_trans (le_of_eq (total-down f n h)) (sub-le (overflow f) (R f (overflow f + overflow f - n)))

-- ---- ±a / c + ±b / c, where a / c is u units and b / c is v units
s1 : (C u v : ℕ) → (C + C ≤ (C + u) + (C + v)) × ((C + u) + (C + v) - (C + C) ≡ u + v)
s1 C u v = (omega arith, omega arith)

s2 : (C u v : ℕ) → u ≤ C → v ≤ C → ((C - u) + (C - v) ≤ C + C) × (C + C - ((C - u) + (C - v)) ≡ u + v)
s2 C u v p q = (omega arith, omega arith)

s3 : (C u v : ℕ) → v ≤ C → u ≤ v → ((C + u) + (C - v) ≤ C + C) × (C + C - ((C + u) + (C - v)) ≡ v - u)
s3 C u v p q = (omega arith, omega arith)

s4 : (C u v : ℕ) → v ≤ C → v ≤ u → (C + C ≤ (C + u) + (C - v)) × ((C + u) + (C - v) - (C + C) ≡ u - v)
s4 C u v p q = (omega arith, omega arith)

s5 : (C u v : ℕ) → u ≤ C → u ≤ v → (C + C ≤ (C - u) + (C + v)) × ((C - u) + (C + v) - (C + C) ≡ v - u)
s5 C u v p q = (omega arith, omega arith)

s6 : (C u v : ℕ) → u ≤ C → v ≤ u → ((C - u) + (C + v) ≤ C + C) × (C + C - ((C - u) + (C + v)) ≡ u - v)
s6 C u v p q = (omega arith, omega arith)

up_way : (f : Format) (a c w n : ℕ) → 0 < c → a * 2 ^ low f ≡ w * c → (overflow f + overflow f ≤ n) × (n - (overflow f + overflow f) ≡ w) → key f (round f false a c) ≡ total f n
up_way f a c w n C h k = round-key f false a c ∙ ap (λ (z : ℕ). overflow f + z) (rounded-same f a c w (2 ^ low f) C (pow_pos (low f)) h ∙ ap (R f) (sym k.1)) ∙ sym (total-up f n k.0)

down-way : (f : Format) (a c w n : ℕ) → 0 < c → a * 2 ^ low f ≡ w * c → (n ≤ overflow f + overflow f) × (overflow f + overflow f - n ≡ w) → key f (round f true a c) ≡ total f n
down-way f a c w n C h k = round-key f true a c ∙ ap (λ (z : ℕ). overflow f - z) (rounded-same f a c w (2 ^ low f) C (pow_pos (low f)) h ∙ ap (R f) (sym k.1)) ∙ sym (total-down f n k.0)

diff : (a b c u v L : ℕ) → a * L ≡ u * c → b * L ≡ v * c → (a - b) * L ≡ (u - v) * c
diff a b c u v L p q = mul_comm (a - b) L ∙ mul-sub L a b ∙ ap (λ (z : ℕ). z - L * b) (mul_comm L a ∙ p ∙ mul_comm u c) ∙ ap (λ (z : ℕ). c * u - z) (mul_comm L b ∙ q ∙ mul_comm v c) ∙ sym (mul-sub c u v) ∙ mul_comm c (u - v)

plus : (a b c u v L : ℕ) → a * L ≡ u * c → b * L ≡ v * c → (a + b) * L ≡ (u + v) * c
plus a b c u v L p q = add-mul a b L ∙ ap (λ (z : ℕ). z + b * L) p ∙ ap (λ (z : ℕ). u * c + z) q ∙ sym (add-mul u v c)

scaled-le : (a b c u v L : ℕ) → 0 < c → a * L ≡ u * c → b * L ≡ v * c → a ≤ b → u ≤ v
scaled-le a b c u v L C p q h = le_of_mul-le-mul_right (le_trans (le_of_eq (sym p)) (le_trans (mul-le-mul_right L h) (le_of_eq q))) C

pub sum-key : (f : Format) (s : Bool) (a : ℕ) (t : Bool) (b c u v : ℕ) → 0 < c → u ≤ overflow f → v ≤ overflow f → a * 2 ^ low f ≡ u * c → b * 2 ^ low f ≡ v * c
    → key f (sum f s a t b c) ≡ total f (key_of (overflow f) s u + key_of (overflow f) t v)
unfolding sum
sum-key f false a false b c u v C x y p q = up_way f (a + b) c (u + v) ((overflow f + u) + (overflow f + v)) C (plus a b c u v (2 ^ low f) p q) (s1 (overflow f) u v)
sum-key f true a true b c u v C x y p q = down-way f (a + b) c (u + v) ((overflow f - u) + (overflow f - v)) C (plus a b c u v (2 ^ low f) p q) (s2 (overflow f) u v x y)
sum-key f false a true b c u v C x y p q = go (ltb a b) (ltb→lt a b) (nltb→le a b)
  where
    go : (r : Bool) → (T r → a < b) → (T (not r) → b ≤ a) → key f (cond r (round f true (b - a) c) (round f false (a - b) c)) ≡ total f ((overflow f + u) + (overflow f - v))
    go true h k = down-way f (b - a) c (v - u) ((overflow f + u) + (overflow f - v)) C (diff b a c v u (2 ^ low f) q p) (s3 (overflow f) u v y (scaled-le a b c u v (2 ^ low f) C p q (le_of_lt (h tt))))
    go false h k = up_way f (a - b) c (u - v) ((overflow f + u) + (overflow f - v)) C (diff a b c u v (2 ^ low f) p q) (s4 (overflow f) u v y (scaled-le b a c v u (2 ^ low f) C q p (k tt)))
sum-key f true a false b c u v C x y p q = go (ltb a b) (ltb b a) (ltb→lt a b) (nltb→le a b) (nltb→le b a)
  where
    n : ℕ
    n = (overflow f - u) + (overflow f + v)

    go : (r r' : Bool) → (T r → a < b) → (T (not r) → b ≤ a) → (T (not r') → a ≤ b) → key f (cond r (round f false (b - a) c) (round f r' (a - b) c)) ≡ total f n
    go true r' h k l = up_way f (b - a) c (v - u) n C (diff b a c v u (2 ^ low f) q p) (s5 (overflow f) u v x (scaled-le a b c u v (2 ^ low f) C p q (le_of_lt (h tt))))
    go false true h k l = down-way f (a - b) c (u - v) n C (diff a b c u v (2 ^ low f) p q) (s6 (overflow f) u v x (scaled-le b a c v u (2 ^ low f) C q p (k tt)))
    go false false h k l = up_way f (a - b) c (u - v) n C (diff a b c u v (2 ^ low f) p q) (none (overflow f) u v x (scaled-le b a c v u (2 ^ low f) C q p (k tt)) (scaled-le a b c u v (2 ^ low f) C p q (l tt)))
      where
        none : (C u v : ℕ) → u ≤ C → v ≤ u → u ≤ v → (C + C ≤ (C - u) + (C + v)) × ((C - u) + (C + v) - (C + C) ≡ u - v)
        none C u v p q r = (omega arith, omega arith)

-- ---- the operations
pub add-key : (f : Format) (x y : Float) → T (fits f x) → T (fits f y) → T (finite x) → T (finite y) → key f (add f x y) ≡ total f (key f x + key f y)
unfolding add
add-key f nan y p q a b = absurd a
add-key f (inf s) y p q a b = absurd a
add-key f (fin s m e) nan p q a b = absurd b
add-key f (fin s m e) (inf t) p q a b = absurd b
add-key f (fin s m e) (fin t n d) p q a b =
    sum-key f s (m * up e * down d) t (n * up d * down e) (down e * down d) (mag f (fin s m e)) (mag f (fin t n d)) (mul-pos (down_pos e) (down_pos d)) (mag-le f (fin s m e) p) (mag-le f (fin t n d) q)
    (cross (m * up e) (down d) (down e) (2 ^ low f) (mag f (fin s m e)) (mag-val f s m e p))
    (cross' (n * up d) (down e) (down d) (2 ^ low f) (mag f (fin t n d)) (mag-val f t n d q))

turn : (C : ℕ) (s : Bool) (u : ℕ) → u ≤ C → key_of C (not s) u ≡ C + C - key_of C s u
turn C true u h = omega arith
turn C false u h = omega arith

neg-mag : (f : Format) (y : Float) → T (real y) → (mag f (neg y) ≡ mag f y) × (sgn (neg y) ≡ not (sgn y))
unfolding neg mag
neg-mag f nan h = absurd h
neg-mag f (inf s) h = (refl, refl)
neg-mag f (fin s m e) h = (refl, refl)

pub neg-key : (f : Format) (y : Float) → T (fits f y) → T (real y) → key f (neg y) ≡ overflow f + overflow f - key f y
neg-key f y p h =
    let w = neg-mag f y h in
    ap (λ (z : ℕ). key_of (overflow f) (sgn (neg y)) z) w.0 ∙ ap (λ (z : Bool). key_of (overflow f) z (mag f y)) w.1 ∙ turn (overflow f) (sgn y) (mag f y) (mag-le f y p)

neg-finite : (y : Float) → T (finite y) → T (finite (neg y))
unfolding neg
neg-finite nan h = absurd h
neg-finite (inf s) h = absurd h
neg-finite (fin s m e) h = tt

pub finite-real : (y : Float) → T (finite y) → T (real y)
finite-real nan h = absurd h
finite-real (inf s) h = absurd h
finite-real (fin s m e) h = tt

sub_is : (f : Format) (x y : Float) → sub f x y ≡ add f x (neg y)
unfolding sub
sub_is f x y = refl

pub sub-key : (f : Format) (x y : Float) → T (fits f x) → T (fits f y) → T (finite x) → T (finite y) → key f (sub f x y) ≡ total f (key f x + (overflow f + overflow f - key f y))
sub-key f x y p q a b =
    ap (key f) (sub_is f x y) ∙ add-key f x (neg y) p (neg-fits f y q) a (neg-finite y b) ∙ ap (λ (z : ℕ). total f (key f x + z)) (neg-key f y q (finite-real y b))

sum-real : (f : Format) (s : Bool) (a : ℕ) (t : Bool) (b c : ℕ) → T (real (sum f s a t b c))
unfolding sum
sum-real f s a t b c = pick (beq s t) (round f s (a + b) c) (cond (ltb a b) (round f t (b - a) c) (round f (s && ltb b a) (a - b) c)) (round-as f s (a + b) c).2 (pick (ltb a b) (round f t (b - a) c) (round f (s && ltb b a) (a - b) c) (round-as f t (b - a) c).2 (round-as f (s && ltb b a) (a - b) c).2)
  where
    pick : (r : Bool) (x y : Float) → T (real x) → T (real y) → T (real (cond r x y))
    pick true x y p q = p
    pick false x y p q = q

pub add-real : (f : Format) (x y : Float) → T (finite x) → T (finite y) → T (real (add f x y))
unfolding add
add-real f nan y a b = absurd a
add-real f (inf s) y a b = absurd a
add-real f (fin s m e) nan a b = absurd b
add-real f (fin s m e) (inf t) a b = absurd b
add-real f (fin s m e) (fin t n d) a b = sum-real f s (m * up e * down d) t (n * up d * down e) (down e * down d)

pub sub-real : (f : Format) (x y : Float) → T (finite x) → T (finite y) → T (real (sub f x y))
sub-real f x y a b = subst (λ (z : Float). T (real z)) (sym (sub_is f x y)) (add-real f x (neg y) a (neg-finite y b))
