-- The test of a cell in whole numbers.
use Prim.Native.Nat.{ℕ, ◌*◌, ◌≤◌, ◌<◌}
use Rattle.scalar.proofs.WholeRoot.{square-back}
use native.Mathlib.Nat.{mul_assoc, mul_comm, mul_left_comm, le_trans, not-le_of_lt, lt_of_mul-lt-mul_right, mul-lt-mul_of_pos_left, mul-le-mul_left, lt_of_not-le, le_of_mul-le-mul_right, mul-le-mul_right, mul-le-mul, mul-pos}
use native.Mathlib.Omega.{arith}

-- X is at most b / a of Y, and Y at most d / c of Z
pub chain : (X Y Z a b c d : ℕ) → X * a ≤ Y * b → Y * c ≤ Z * d → X * (a * c) ≤ Z * (b * d)
chain X Y Z a b c d h k =
    let p = mul-le-mul_right c h in
    let q = mul-le-mul_right b k in
    omega arith

-- the product of two of them (series, on which this crate does not stand, has it as `pair`)
pub times : (X Y x y a b c d : ℕ) → X * a ≤ Y * b → x * c ≤ y * d → X * x * (a * c) ≤ Y * y * (b * d)
times X Y x y a b c d h k = omega (arith, mul-le-mul h k)

-- what the chains below come to: the factors sorted, and e * e * (e * e) taken off both sides
sorted-low : (X Y L C e d u : ℕ) → 0 < e → X * (e * e * e * (d * d * (e * e)) * (L * (d * d * (d * d)))) ≤ Y * (u * u * u * (C * (u * u * (u * u))) * (e * e * (e * e)))
    → X * (L * (e * (d * d * d * d * d * d))) ≤ Y * (C * (u * u * u * u * u * u * u))
sorted-low X Y L C e d u E h =
    le_of_mul-le-mul_right {k = e * e * (e * e)} (simp (mul_assoc, mul_comm, mul_left_comm) (simp (mul_assoc, mul_comm, mul_left_comm) at h)) (mul-pos (mul-pos E E) (mul-pos E E))

sorted-high : (X Y L C e d u : ℕ) → 0 < e → X * (e * e * (e * e) * (C * (d * d * (d * d))) * (d * d * d)) ≤ Y * (L * (u * u * (u * u)) * (u * u * (e * e)) * (e * e * e))
    → X * (C * (d * d * d * d * d * d * d)) ≤ Y * (L * (e * (u * u * u * u * u * u)))
sorted-high X Y L C e d u E h =
    le_of_mul-le-mul_right {k = e * e * (e * e)} (simp (mul_assoc, mul_comm, mul_left_comm) (simp (mul_assoc, mul_comm, mul_left_comm) at h)) (mul-pos (mul-pos E E) (mul-pos E E))

-- In units of 1 / L: the row's frequency F, a thousand of it W, its square K and the bound G, the number's square A, the product B, the radicand S with its root R, the quotient Q and the frequency P.
-- Each rounding is by at most 1 / e of its number: d = e - 1, u = e + 1. T is twice the root before it is rounded.
module _ (L e d u C n S F W K G A B T R Q P : ℕ) (E : 0 < e) where
  -- ---- n is not above P, if B is at most G
  module _ (hP : 1000 * Q * d ≤ P * 1 * e) (hQ : F * L * d ≤ Q * R * e) (hR : R * 2 * e ≤ T * u) (hT : T * T * e ≤ 4 * (S * L) * u)
      (hA : n * n * L * d ≤ A * 1 * e) (hB : A * S * d ≤ B * L * e) (hG : G * L * e ≤ K * C * u) (hV : K * L * e ≤ W * W * u) (hW : W * 1 * e ≤ 1000 * F * u)
      (test : B ≤ G) where
    -- the frequency P against 1000 * F over the root
    low-P : 1000 * F * L * (d * d) ≤ P * R * (e * e)
    low-P =
        let p : 1000 * F * L * d ≤ 1000 * Q * R * e = let h = mul-le-mul_right 1000 hQ in omega arith in
        let q : 1000 * Q * R * d ≤ P * R * e = let h = mul-le-mul_right R hP in omega arith in
        chain (1000 * F * L) (1000 * Q * R) (P * R) d e d e p q

    high-R : R * R * (e * e * e) ≤ S * L * (u * u * u)
    high-R =
        let p = times (R * 2) T (R * 2) T e u e u hR hR in
        let q = chain (R * 2 * (R * 2)) (T * T) (4 * (S * L)) (e * e) (u * u) e u p hT in
        omega arith

    low-test : n * n * S * L * L * (d * d * (e * e)) ≤ 1000 * F * (1000 * F) * (C * (u * u * (u * u)))
    low-test =
        let a : n * n * L * S * d ≤ A * S * e = let h = mul-le-mul_right S hA in omega arith in
        let b = chain (n * n * L * S) (A * S) (B * L) d e d e a hB in
        let t : B * L * 1 ≤ G * L * 1 = let h = mul-le-mul_right L test in omega arith in
        let c = chain (n * n * L * S) (B * L) (G * L) (d * d) (e * e) 1 1 b t in
        let g = chain (n * n * L * S) (G * L) K (d * d * 1) (e * e * 1) e (C * u) c (let h = hG in omega arith) in
        let v = chain (n * n * L * S) K (W * W) (d * d * 1 * e) (e * e * 1 * (C * u)) (L * e) u g (let h = hV in omega arith) in
        let w = times W (1000 * F) W (1000 * F) e u e u (let h = hW in omega arith) (let h = hW in omega arith) in
        let z = chain (n * n * L * S) (W * W) (1000 * F * (1000 * F)) (d * d * 1 * e * (L * e)) (e * e * 1 * (C * u) * u) (e * e) (u * u) v w in
        le_of_mul-le-mul_right {k = e * e} (omega arith) (mul-pos E E)

    low-squares : n * L * R * (n * L * R) * (L * (e * (d * d * d * d * d * d))) ≤ P * R * (P * R) * (C * (u * u * u * u * u * u * u))
    low-squares =
        let a : n * L * R * (n * L * R) * (e * e * e) ≤ n * n * S * L * L * L * (u * u * u) = let h = mul-le-mul_right (n * n * L * L) high-R in omega arith in
        let b : n * n * S * L * L * L * (d * d * (e * e)) ≤ 1000 * F * (1000 * F) * L * (C * (u * u * (u * u))) = let h = mul-le-mul_right L low-test in omega arith in
        let p = times (1000 * F * L) (P * R) (1000 * F * L) (P * R) (d * d) (e * e) (d * d) (e * e) low-P low-P in
        let c : 1000 * F * (1000 * F) * L * (L * (d * d * (d * d))) ≤ P * R * (P * R) * (e * e * (e * e)) = let h = p in omega arith in
        let x = chain (n * L * R * (n * L * R)) (n * n * S * L * L * L) (1000 * F * (1000 * F) * L) (e * e * e) (u * u * u) (d * d * (e * e)) (C * (u * u * (u * u))) a b in
        let y = chain (n * L * R * (n * L * R)) (1000 * F * (1000 * F) * L) (P * R * (P * R)) (e * e * e * (d * d * (e * e))) (u * u * u * (C * (u * u * (u * u)))) (L * (d * d * (d * d))) (e * e * (e * e)) x c in
        sorted-low (n * L * R * (n * L * R)) (P * R * (P * R)) L C e d u E y

    pub not-above : 0 < R → 0 < L * (e * (d * d * d * d * d * d)) → C * (u * u * u * u * u * u * u) ≤ L * (e * (d * d * d * d * d * d)) → n * L ≤ P
    not-above r k num =
        le_of_mul-le-mul_right {k = R}
        (square-back (n * L * R) (P * R) (le_of_mul-le-mul_right {k = L * (e * (d * d * d * d * d * d))} (le_trans low-squares (mul-le-mul_left (P * R * (P * R)) num)) k))
        r

  -- ---- P is below n, if G is at most B
  module _ (hP : P * 1 * e ≤ 1000 * Q * u) (hQ : Q * R * e ≤ F * L * u) (hR : T * d ≤ R * 2 * e) (hT : 4 * (S * L) * d ≤ T * T * e)
      (hA : A * 1 * e ≤ n * n * L * u) (hB : B * L * e ≤ A * S * u) (hG : K * C * d ≤ G * L * e) (hK : W * W * d ≤ K * L * e) (hW : 1000 * F * d ≤ W * 1 * e)
      (test : G ≤ B) where
    high-P : P * R * (e * e) ≤ 1000 * F * L * (u * u)
    high-P =
        let p : P * R * e ≤ 1000 * Q * R * u = let h = mul-le-mul_right R hP in omega arith in
        let q : 1000 * Q * R * e ≤ 1000 * F * L * u = let h = mul-le-mul_right 1000 hQ in omega arith in
        chain (P * R) (1000 * Q * R) (1000 * F * L) e u e u p q

    low-R : S * L * (d * d * d) ≤ R * R * (e * e * e)
    low-R =
        let p = times T (R * 2) T (R * 2) d e d e hR hR in
        let q = chain (4 * (S * L)) (T * T) (R * 2 * (R * 2)) d e (d * d) (e * e) hT p in
        omega arith

    high-test : 1000 * F * (1000 * F) * (C * (d * d * (d * d))) ≤ n * n * S * L * L * (u * u * (e * e))
    high-test =
        let w = times (1000 * F) W (1000 * F) W d e d e (let h = hW in omega arith) (let h = hW in omega arith) in
        let v = chain (1000 * F * (1000 * F)) (W * W) K (d * d) (e * e) d (L * e) w (let h = hK in omega arith) in
        let g = chain (1000 * F * (1000 * F)) K (G * L) (d * d * d) (e * e * (L * e)) (C * d) e v (let h = hG in omega arith) in
        let t : G * L * 1 ≤ B * L * 1 = let h = mul-le-mul_right L test in omega arith in
        let c = chain (1000 * F * (1000 * F)) (G * L) (B * L) (d * d * d * (C * d)) (e * e * (L * e) * e) 1 1 g t in
        let b = chain (1000 * F * (1000 * F)) (B * L) (A * S) (d * d * d * (C * d) * 1) (e * e * (L * e) * e * 1) e u c hB in
        let a : A * S * e ≤ n * n * S * L * u = let h = mul-le-mul_right S hA in omega arith in
        let z = chain (1000 * F * (1000 * F)) (A * S) (n * n * S * L) (d * d * d * (C * d) * 1 * e) (e * e * (L * e) * e * 1 * u) e u b a in
        le_of_mul-le-mul_right {k = e * e} (let h = z in omega arith) (mul-pos E E)

    high-squares : P * R * (P * R) * (C * (d * d * d * d * d * d * d)) ≤ n * L * R * (n * L * R) * (L * (e * (u * u * u * u * u * u)))
    high-squares =
        let p = times (P * R) (1000 * F * L) (P * R) (1000 * F * L) (e * e) (u * u) (e * e) (u * u) high-P high-P in
        let a : P * R * (P * R) * (e * e * (e * e)) ≤ 1000 * F * (1000 * F) * L * (L * (u * u * (u * u))) = let h = p in omega arith in
        let b : 1000 * F * (1000 * F) * L * (C * (d * d * (d * d))) ≤ n * n * S * L * L * L * (u * u * (e * e)) = let h = mul-le-mul_right L high-test in omega arith in
        let c : n * n * S * L * L * L * (d * d * d) ≤ n * L * R * (n * L * R) * (e * e * e) = let h = mul-le-mul_right (n * n * L * L) low-R in omega arith in
        let x = chain (P * R * (P * R)) (1000 * F * (1000 * F) * L) (n * n * S * L * L * L) (e * e * (e * e)) (L * (u * u * (u * u))) (C * (d * d * (d * d))) (u * u * (e * e)) a b in
        let y = chain (P * R * (P * R)) (n * n * S * L * L * L) (n * L * R * (n * L * R)) (e * e * (e * e) * (C * (d * d * (d * d)))) (L * (u * u * (u * u)) * (u * u * (e * e))) (d * d * d) (e * e * e) x c in
        sorted-high (P * R * (P * R)) (n * L * R * (n * L * R)) L C e d u E y

    pub below : 0 < n * L * R → L * (e * (u * u * u * u * u * u)) < C * (d * d * d * d * d * d * d) → P < n * L
    below p num =
        lt_of_mul-lt-mul_right R
        (lt_of_not-le (λ (g : n * L * R ≤ P * R).
        not-le_of_lt (mul-lt-mul_of_pos_left num (mul-pos p p))
        (le_trans (mul-le-mul_right (C * (d * d * d * d * d * d * d)) (mul-le-mul g g)) high-squares)))
