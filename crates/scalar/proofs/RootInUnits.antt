-- In units: for every f32 that is finite and above zero `sqrt_of` is the correctly rounded root. With Q the root's digits and one more, the result is Q rounded up to an even number;
-- no value of the format lies inside the cell that holds the root, and the middle of two values is below or above √x as its square is below or above x. Assumes nothing.
use mathlib.Core.Path.{◌≡◌, refl, sym, ap, ◌∙◌, subst}
use mathlib.Core.Logic.{◌⊎◌, inl, inr}
use mathlib.Core.Bool.{true, false, ◌&&◌}
use Prim.Native.Nat.{ℕ, zero, suc, ◌+◌, ◌-◌, ◌*◌, ◌/◌, ◌%◌, ◌^◌, ◌≤◌, ◌<◌}
use native.Mathlib.Nat.{le_trans, le_of_eq, le_of_lt, le_of_suc-le-suc, lt_of_lt_of_le, lt_of_le_of_lt, zero-lt-suc, eq-or-lt_of_le, mul_comm, mul_assoc, mul_right_comm, mul-le-mul, mul-le-mul_left, mul-le-mul_right, mul-lt-mul_of_pos_right, mul-lt-mul_of_pos_left, lt_of_mul-lt-mul_right, mul-mul-mul_comm, mul-pos, mod-lt, suc-mul, pow-suc, not-suc-le-zero}
use native.Mathlib.Omega.{arith}
use lib.IntN.{ℤ}
use lib.Dec.{T, leb, ltb, eqb, ltb→lt}
use lib.Pow.{pow-add, pow_pos}
use lib.Ieee.{Float, nan, inf, fin, binary32, up, down, fits}
use lib.Ieee.Fits.{up_pos, and_r}
use lib.Ieee.Exact.{HasValue}
use lib.Ieee.Scale.{finite}
use lib.Ieee.Positive.{positive, positive_of_value, first_pos}
use Rattle.rounding.proofs.Cells.{Out, cell}
use Rattle.rounding.proofs.Units.{on-grid}
use Rattle.scalar.specs.Root.{root, root_of_units, sqrt_of, steps}
use Rattle.scalar.specs.RootPattern.{radicand, root_digits}
use lib.Count.{count_leading_zeros}
use Rattle.scalar.proofs.WholeRoot.{Root, root_is}
use Rattle.scalar.proofs.RootDigits.{span, split, root-low, no_tie, up_one}
use Rattle.scalar.proofs.RootPattern.{digits_in, root-fits, root-value}
use Rattle.scalar.proofs.Normalise.{Shifted, shifted, pow_lt_back}
use Rattle.scalar.proofs.Patterns.{steps-is, sqrt-at}

-- r is the correctly rounded root of x, in units: √x is √(x * 2 ^ 149) units
pub record IsRoot (x r : Float) : Type 0 where
  pub held : T (fits binary32 r)
  pub is_positive : T (positive r)
  pub below : (y : Float) → T (fits binary32 y) → T (finite y) → steps y < steps r → (steps y + steps r) * (steps y + steps r) < 4 * (steps x * 2 ^ 149)
  pub above : (y : Float) → T (fits binary32 y) → T (finite y) → steps r < steps y → 4 * (steps x * 2 ^ 149) < (steps y + steps r) * (steps y + steps r)

-- ---- a finite value above zero: its units N are q * 2 ^ j with q below 2 ^ 24, and N * 2 ^ 149 is m * 2 ^ (h + 23) with an m of 24 digits
record Normal (N : ℕ) : Type 0 where
  m : ℕ
  h : ℕ
  lo : 2 ^ 23 ≤ m
  hi : m < 2 ^ 24
  least : 2 ≤ h
  most : h ≤ 400
  is : N * 2 ^ 149 ≡ m * 2 ^ (h + 23)

normal : (q j : ℕ) → 0 < q → q < 2 ^ 24 → q * 2 ^ j < 2 ^ 277 → Normal (q * 2 ^ j)
normal q j p l b = go (count_leading_zeros 32 q - 8) (shifted q j p l)
  where
    go : (z : ℕ) → Shifted q j z (q * 2 ^ z) (j + 126 - z) → Normal (q * 2 ^ j)
    go z s =
        let few : 23 + j < 277 + z =
        pow_lt_back (23 + j) (277 + z)
        (lt_of_le_of_lt (le_trans (le_of_eq (pow-add 2 23 j)) (le_trans (mul-le-mul_right (2 ^ j) s.low) (le_of_eq (mul_right_comm q (2 ^ z) (2 ^ j)))))
        (lt_of_lt_of_le (mul-lt-mul_of_pos_right b (pow_pos z)) (le_of_eq (sym (pow-add 2 277 z))))) in
        record {
          m = q * 2 ^ z;
          h = j + 126 - z;
          lo = s.low;
          hi = s.high;
          least = omega (arith, s.most);
          most = omega arith;
          is = s.exact;
        }

-- ---- squares
square-lt : (u v : ℕ) → u < v → u * u < v * v
square-lt u v h = lt_of_le_of_lt (mul-le-mul_right u (le_of_lt h)) (mul-lt-mul_of_pos_left h (pos u v h))
  where
    pos : (u v : ℕ) → u < v → 0 < v
    pos u v h = omega arith

-- with S for the sum, P for Q * G: S ≤ 2 * P gives S * S ≤ 4 * A * G * G, and 2 * P + 2 * G ≤ S gives more
module _ (A Q G : ℕ) (q : Root A Q) (g : 0 < G) where
  under : (S : ℕ) → S ≤ 2 * (Q * G) → S * S ≤ 4 * (A * (G * G))
  under S h = le_trans (mul-le-mul h h) (le_trans (le_of_eq (mul-mul-mul_comm 2 (Q * G) 2 (Q * G) ∙ ap (λ (x : ℕ). 4 * x) (mul-mul-mul_comm Q G Q G))) (mul-le-mul_left 4 (mul-le-mul_right (G * G) q.0)))

  under-sum : (S : ℕ) → S < 2 * (Q * G) → S * S < 4 * (A * (G * G))
  under-sum S h = lt_of_lt_of_le (square-lt S (2 * (Q * G)) h) (under (2 * (Q * G)) (le_of_eq refl))

  under-root : (S : ℕ) → S ≤ 2 * (Q * G) → Q * Q < A → S * S < 4 * (A * (G * G))
  under-root S h k =
      lt_of_le_of_lt (mul-le-mul h h)
      (lt_of_le_of_lt (le_of_eq (mul-mul-mul_comm 2 (Q * G) 2 (Q * G) ∙ ap (λ (x : ℕ). 4 * x) (mul-mul-mul_comm Q G Q G))) (mul-lt-mul_of_pos_left (mul-lt-mul_of_pos_right k (mul-pos g g)) (zero-lt-suc 3)))

  over : (S : ℕ) → 2 * (Q * G + G) ≤ S → 4 * (A * (G * G)) < S * S
  over S h =
      lt_of_lt_of_le (mul-lt-mul_of_pos_left (mul-lt-mul_of_pos_right q.1 (mul-pos g g)) (zero-lt-suc 3))
      (le_trans (le_of_eq (sym (mul-mul-mul_comm 2 (suc Q * G) 2 (suc Q * G) ∙ ap (λ (x : ℕ). 4 * x) (mul-mul-mul_comm (suc Q) G (suc Q) G))))
      (mul-le-mul (le_trans (le_of_eq (ap (λ (x : ℕ). 2 * x) (suc-mul Q G))) h) (le_trans (le_of_eq (ap (λ (x : ℕ). 2 * x) (suc-mul Q G))) h)))

-- ---- the result against Q: N is (Q + 1) / 2 steps of 2 * G, and the cell below the root begins at Q / 2 steps
data Parity (Q G N W : ℕ) : Type 0 where
  even : N ≡ Q * G → W ≡ Q * G → Parity Q G N W
  odd : Q % 2 ≡ 1 → N ≡ Q * G + G → W + G ≡ Q * G → Parity Q G N W

two-of : (c G : ℕ) → c * (G * 2) ≡ 2 * c * G
two-of c G = sym (mul_assoc c G 2) ∙ mul_comm (c * G) 2 ∙ sym (mul_assoc 2 c G)

parity : (Q G : ℕ) → Parity Q G ((Q + 1) / 2 * (G * 2)) (Q / 2 * (G * 2))
parity Q G = go (Q % 2) refl (mod-lt Q (zero-lt-suc 1))
  where
    up-even : (Q : ℕ) → Q % 2 ≡ 0 → 2 * ((Q + 1) / 2) ≡ Q
    up-even Q h = omega arith

    down-even : (Q : ℕ) → Q % 2 ≡ 0 → 2 * (Q / 2) ≡ Q
    down-even Q h = omega arith

    up-odd : (Q : ℕ) → Q % 2 ≡ 1 → 2 * ((Q + 1) / 2) ≡ suc Q
    up-odd Q h = omega arith

    down-odd : (Q : ℕ) → Q % 2 ≡ 1 → suc (2 * (Q / 2)) ≡ Q
    down-odd Q h = omega arith

    go : (b : ℕ) → Q % 2 ≡ b → b < 2 → Parity Q G ((Q + 1) / 2 * (G * 2)) (Q / 2 * (G * 2))
    go zero e l = even (two-of ((Q + 1) / 2) G ∙ ap (λ (x : ℕ). x * G) (up-even Q e)) (two-of (Q / 2) G ∙ ap (λ (x : ℕ). x * G) (down-even Q e))
    go (suc zero) e l =
        odd e (two-of ((Q + 1) / 2) G ∙ ap (λ (x : ℕ). x * G) (up-odd Q e) ∙ suc-mul Q G)
        (ap (λ (x : ℕ). x + G) (two-of (Q / 2) G) ∙ sym (suc-mul (2 * (Q / 2)) G) ∙ ap (λ (x : ℕ). x * G) (down-odd Q e))
    go (suc (suc b)) e l = absurd (not-suc-le-zero (le_of_suc-le-suc (le_of_suc-le-suc l)))

module _ (A Q G N W : ℕ) (q : Root A Q) (g : 0 < G) (no-odd-root : Q % 2 ≡ 1 → Q * Q < A) where
  -- a value Y of the format below N, and one above it
  lower : (Y : ℕ) → Parity Q G N W → Out W (G * 2) Y → Y < N → (Y + N) * (Y + N) < 4 * (A * (G * G))
  lower Y (even e w) o h = under-sum A Q G q g (Y + N) (omega arith)
  lower Y (odd p e w) (inl o) h = under-root A Q G q g (Y + N) (omega arith) (no-odd-root p)
  lower Y (odd p e w) (inr o) h = absurd (omega arith)

  upper : (Y : ℕ) → Parity Q G N W → Out W (G * 2) Y → N < Y → 4 * (A * (G * G)) < (Y + N) * (Y + N)
  upper Y (even e w) (inl o) h = absurd (omega arith)
  upper Y (even e w) (inr o) h = over A Q G q g (Y + N) (omega arith)
  upper Y (odd p e w) o h = over A Q G q g (Y + N) (omega arith)

-- ---- the theorem, of a value of N units
module _ (x : Float) (N : ℕ) (X : HasValue x false N (2 ^ 149)) (p : 0 < N) (n : Normal N) where
  root-of : IsRoot x (root_of_units N)
  root-of = record {
    held = root-fits N m h lo hi least most is;
    is_positive = positive_of_value r M (2 ^ 149) value (mul-pos (lt_of_lt_of_le (pow_pos 23) d.0) (pow_pos (h / 2)));
    below = λ y k z. go-below y k z;
    above = λ y k z. go-above y k z;
  }
    where
      m : ℕ
      m = n.m

      h : ℕ
      h = n.h

      lo : 2 ^ 23 ≤ m
      lo = n.lo

      hi : m < 2 ^ 24
      hi = n.hi

      least : 2 ≤ h
      least = n.least

      most : h ≤ 400
      most = n.most

      is : N * 2 ^ 149 ≡ m * 2 ^ (h + 23)
      is = n.is

      r : Float
      r = root_of_units N

      M : ℕ
      M = root_digits m h * 2 ^ (h / 2)

      value : HasValue r false M (2 ^ 149)
      value = root-value N m h lo hi least most is

      d : (2 ^ 23 ≤ root_digits m h) × (root_digits m h ≤ 2 ^ 24)
      d = digits_in m h lo hi

      A : ℕ
      A = radicand m h

      G : ℕ
      G = 2 ^ (h / 2 - 1)

      Q : ℕ
      Q = root A

      W : ℕ
      W = Q / 2 * (G * 2)

      g-pos : 0 < G
      g-pos = pow_pos (h / 2 - 1)

      step_is : 2 ^ (h / 2) ≡ G * 2
      step_is = ap (λ (y : ℕ). 2 ^ y) (sym (up_one h least)) ∙ pow-suc 2 (h / 2 - 1)

      par : Parity Q G M W
      par = subst (λ (y : ℕ). Parity Q G (root_digits m h * y) W) (sym step_is) (parity Q G)

      a-is : steps x * 2 ^ 149 ≡ A * (G * G)
      a-is = ap (λ (y : ℕ). y * 2 ^ 149) (steps-is x false N X) ∙ is ∙ split m h least

      r-is : steps r ≡ M
      r-is = steps-is r false M value

      no-odd : Q % 2 ≡ 1 → Q * Q < A
      no-odd o = strict (eq-or-lt_of_le (root_is A).0)
        where
          strict : (Q * Q ≡ A) ⊎ (Q * Q < A) → Q * Q < A
          strict (inl e) = absurd (no_tie A Q (span m h lo hi).2 o e)
          strict (inr l) = l

      half-low-Q : 2 ^ 23 ≤ Q / 2
      half-low-Q = go Q (root-low A Q (root_is A) (span m h lo hi).0)
        where
          go : (Q : ℕ) → 2 ^ 24 ≤ Q → 2 ^ 23 ≤ Q / 2
          go Q l = omega arith

      -- any value of the format is outside the cell
      out : (y : Float) → T (fits binary32 y) → T (finite y) → Out W (G * 2) (steps y)
      out nan k z = absurd z
      out (inf t) k z = absurd z
      out (fin t a e) k z =
          let o = on-grid binary32 t a e k in
          subst (λ (v : ℕ). Out W (G * 2) v) (sym (steps-is (fin t a e) t (o.0 * 2 ^ o.1) (refl, o.3)))
          (subst (λ (v : ℕ). Out (Q / 2 * v) v (o.0 * 2 ^ o.1)) step_is (cell 24 (Q / 2) (h / 2) o.0 o.1 (zero-lt-suc 23) (λ _. half-low-Q) o.2))

      go-below : (y : Float) → T (fits binary32 y) → T (finite y) → steps y < steps r
          → (steps y + steps r) * (steps y + steps r) < 4 * (steps x * 2 ^ 149)
      go-below y k z l =
          let Y = steps y in
          subst (λ (a : ℕ). (Y + steps r) * (Y + steps r) < 4 * a) (sym a-is)
          (subst (λ (v : ℕ). (Y + v) * (Y + v) < 4 * (A * (G * G))) (sym r-is) (lower A Q G M W (root_is A) g-pos no-odd Y par (out y k z) (subst (λ (v : ℕ). Y < v) r-is l)))

      go-above : (y : Float) → T (fits binary32 y) → T (finite y) → steps r < steps y
          → 4 * (steps x * 2 ^ 149) < (steps y + steps r) * (steps y + steps r)
      go-above y k z l =
          let Y = steps y in
          subst (λ (a : ℕ). 4 * a < (Y + steps r) * (Y + steps r)) (sym a-is)
          (subst (λ (v : ℕ). 4 * (A * (G * G)) < (Y + v) * (Y + v)) (sym r-is) (upper A Q G M W (root_is A) g-pos no-odd Y par (out y k z) (subst (λ (v : ℕ). v < Y) r-is l)))

-- ---- of any value that is finite and above zero
small : (m : ℕ) (e : ℤ) (N : ℕ) → m * up e * 2 ^ 149 ≡ N * down e → m * up e < 2 ^ 128 * down e → N < 2 ^ 277
small m e N v l =
    lt_of_mul-lt-mul_right (down e)
    (lt_of_lt_of_le (lt_of_le_of_lt (le_of_eq (sym v)) (mul-lt-mul_of_pos_right l (pow_pos 149)))
    (le_of_eq (mul_right_comm (2 ^ 128) (down e) (2 ^ 149))))

pub sqrt-in-units : (x : Float) → T (fits binary32 x) → T (positive x) → IsRoot x (sqrt_of x)
unfolding fits
sqrt-in-units nan k p = absurd p
sqrt-in-units (inf s) k p = absurd p
sqrt-in-units (fin true m e) k p = absurd p
sqrt-in-units (fin false zero e) k p = absurd p
sqrt-in-units (fin false (suc m) e) k p =
    let o = on-grid binary32 false (suc m) e k in
    let q = o.0 in
    let j = o.1 in
    let N = q * 2 ^ j in
    let N-pos : 0 < N = first_pos N (down e) (subst (λ (y : ℕ). 0 < y) o.3 (mul-pos (mul-pos (zero-lt-suc m) (up_pos e)) (pow_pos 149))) in
    let q-pos : 0 < q = first_pos q (2 ^ j) N-pos in
    let b : N < 2 ^ 277 = small (suc m) e N o.3 (ltb→lt (suc m * up e) (2 ^ 128 * down e) (and_r (eqb (suc m % 2) 1 && ltb (suc m) (2 ^ 24) && leb (down e) (2 ^ 149)) (ltb (suc m * up e) (2 ^ 128 * down e)) k)) in
    let X : HasValue (fin false (suc m) e) false N (2 ^ 149) = (refl, o.3) in
    subst (λ (v : Float). IsRoot (fin false (suc m) e) v) (sym (sqrt-at (fin false (suc m) e) N X N-pos))
    (root-of (fin false (suc m) e) N X N-pos (normal q j q-pos o.2 b))
