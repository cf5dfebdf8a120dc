-- The inequalities behind atan v = v - v³ / 3, for a small angle w. With g w = v * w² / 2 - w³ / 6: g w ≤ g v = v³ / 3 for w ≤ v, g v - g w ≤ (v - w) * v² / 2, and g v ≤ g w from v to 2 v.
use mathlib.Core.Path.{◌≡◌, ap, subst}
use Prim.Native.Nat.{ℕ, ◌+◌, ◌*◌, ◌^◌, ◌≤◌, ◌<◌}
use native.Mathlib.Nat.{le_trans, le_of_lt, le_dest, mul-le-mul, mul-le-mul_left, mul-le-mul_right, le_of_mul-le-mul_right, mul-pos, le-add_right}
use native.Mathlib.Omega.{arith}
use Rattle.cases.proofs.Cases.{split}
use Rattle.series.proofs.SmallAngle.{Parts}

cubic-below : (w q : ℕ) → 3 * ((w + q) * (w * w)) ≤ 2 * ((w + q) * (w + q) * (w + q)) + w * w * w
cubic-below w q = omega arith

cubic-above : (w q : ℕ) → 2 * ((w + q) * (w + q) * (w + q)) + w * w * w ≤ 3 * ((w + q) * (w * w)) + 3 * (q * ((w + q) * (w + q)))
cubic-above w q = omega arith

cubic-beyond : (v p : ℕ) → p ≤ v → (v + p) * (v + p) * (v + p) + 2 * (v * v * v) ≤ 3 * (v * ((v + p) * (v + p)))
cubic-beyond v p h = omega (arith, mul-le-mul_right p (mul-le-mul h h))

module _ (w v B f g k D σ κ j ρ : ℕ) (b : 0 < B) (P : Parts w B f g k D) (eσ : σ + g ≡ w) (eκ : κ + f ≡ B + k) where
  -- ---- w lies below v - v³ / 3 (j is v³ / 3, cut) by ρ and 3 units at least: sin w + ρ ≤ v cos w
  pub poly-le : v * v * v ≤ 3 * (B * B) * (j + 2) → w + (j + 3 + ρ) ≤ v → (σ + ρ) * B ≤ κ * v
  poly-le J h =
      let o = le_dest (le_trans (le-add_right w (j + 3 + ρ)) h) in
      let c : 3 * (v * (w * w)) ≤ 2 * (v * v * v) + w * w * w = subst (λ (x : ℕ). 3 * (x * (w * w)) ≤ 2 * (x * x * x) + w * w * w) o.1 (cubic-below w o.0) in
      le_of_mul-le-mul_right {k = 6 * B}
      (shape (go (B * B) (v * (w * w)) (v * v * v) (w * w * w) (f * v * (2 * B)) (κ * v * (6 * B)) c (flat f v w B (mul-le-mul_right v P.f-low)) P.g-high J (mul-le-mul_left (B * B) h)
      (ap (λ (x : ℕ). x * (B * B)) eσ) (kv κ f B k v eκ)))
      (mul-pos (omega arith) b)
    where
      flat : (f v w B : ℕ) → f * (2 * B) * v ≤ w * w * v → f * v * (2 * B) ≤ v * (w * w)
      flat f v w B h = omega arith

      -- κ v is at least B v - f v
      kv : (κ f B k v : ℕ) → κ + f ≡ B + k → B * B * v * 6 ≤ κ * v * (6 * B) + f * v * (2 * B) * 3
      kv κ f B k v e = omega (arith, ap (λ (x : ℕ). x * (v * (6 * B))) e)

      go : (BB vww vvv www fv K : ℕ) → 3 * vww ≤ 2 * vvv + www → fv ≤ vww → www ≤ (g + 1) * (6 * BB) → vvv ≤ 3 * BB * (j + 2) → BB * (w + (j + 3 + ρ)) ≤ BB * v → (σ + g) * BB ≡ w * BB → BB * v * 6 ≤ K + fv * 3
          → 6 * ((σ + ρ) * BB) ≤ K
      go BB vww vvv www fv K c a d e i l m = omega (arith, c, a, d, e, i, l, m)

      shape : 6 * ((σ + ρ) * (B * B)) ≤ κ * v * (6 * B) → (σ + ρ) * B * (6 * B) ≤ κ * v * (6 * B)
      shape h = omega arith

  -- ---- w lies above it by ρ and x + 2 units at least, x a small part of v: v cos w + ρ ≤ sin w
  module _ (x : ℕ) (Vs : 120 * v ≤ B) (W : 120 * w ≤ B) (two : w ≤ 2 * v) (five : 5 ≤ v) (X : v ≤ x * 2 ^ 29) (J : 3 * (B * B) * j ≤ v * v * v) (h : v + (2 + x + ρ) ≤ w + j) where
    square : (y : ℕ) → 120 * y ≤ B → 14400 * (y * y) ≤ B * B
    square y l = omega (arith, mul-le-mul l l)

    k-le : 41472000 * k ≤ w
    k-le =
        le_of_mul-le-mul_right {k = B * B * B}
        (go (B * B * B) (w * w * w) (w * w * w * w) P.k-low (omega (arith, mul-le-mul (mul-le-mul W W) W)) (omega arith))
        (mul-pos (mul-pos b b) b)
      where
        go : (T t q : ℕ) → k * (24 * T) ≤ q → 1728000 * t ≤ T → q ≤ w * t → 41472000 * k * T ≤ w * T
        go T t q a c d = omega (arith, mul-le-mul_left w c)

    k-part : 6 * (B * (k * (v + 1))) ≤ 2 * (x * (B * B))
    k-part = go (mul-le-mul_left k (omega arith)) (omega (arith, k-le))
      where
        go : k * (100 * (v + 1)) ≤ k * B → 3 * k ≤ 100 * x → 6 * (B * (k * (v + 1))) ≤ 2 * (x * (B * B))
        go a c = omega (arith, mul-le-mul_right B a, mul-le-mul_right (B * B) c)

    v-part : 6 * (B * v) ≤ B * B
    v-part = omega (arith, mul-le-mul_left B Vs)

    -- what is left when the cubic is known up to 3 * x units
    from-cubic : (e : ℕ) → e ≤ 3 * (x * (B * B)) → w * w * w + 2 * (v * v * v) ≤ 3 * (v * (w * w)) + e → κ * (v + 1) + B * ρ ≤ σ * B
    from-cubic e l c =
        le_of_mul-le-mul_right {k = 6 * B}
        (shape (go (B * B) (v * (w * w)) (v * v * v) (w * w * w) (f * v * (2 * B)) (κ * (v + 1) * (6 * B)) (B * v) (B * (k * (v + 1))) c l (flat f v w B (mul-le-mul_right v P.f-high)) P.g-low J (mul-le-mul_left (B * B) h)
        (ap (λ (y : ℕ). y * (B * B)) eσ) (kv κ f B k v eκ) k-part v-part))
        (mul-pos (omega arith) b)
      where
        flat : (f v w B : ℕ) → w * w * v ≤ (f + 1) * (2 * B) * v → v * (w * w) ≤ f * v * (2 * B) + 2 * (B * v)
        flat f v w B h = omega arith

        kv : (κ f B k v : ℕ) → κ + f ≡ B + k → κ * (v + 1) * (6 * B) + f * v * (2 * B) * 3 ≤ B * B * v * 6 + B * B * 6 + 6 * (B * (k * (v + 1)))
        kv κ f B k v e = omega (arith, ap (λ (x : ℕ). x * ((v + 1) * (6 * B))) e)

        go : (BB vww vvv www fv K Bv kp : ℕ) → www + 2 * vvv ≤ 3 * vww + e → e ≤ 3 * (x * BB) → vww ≤ fv + 2 * Bv → g * (6 * BB) ≤ www → 3 * BB * j ≤ vvv → BB * (v + (2 + x + ρ)) ≤ BB * (w + j) → (σ + g) * BB ≡ w * BB → K + fv * 3 ≤ BB * v * 6 + BB * 6 + 6 * kp → 6 * kp ≤ 2 * (x * BB) → 6 * Bv ≤ BB
            → K + 6 * (BB * ρ) ≤ 6 * (σ * BB)
        go BB vww vvv www fv K Bv kp c l a d jj i s m p q = omega (arith, c, l, a, d, jj, i, s, m, p, q)

        shape : κ * (v + 1) * (6 * B) + 6 * (B * B * ρ) ≤ 6 * (σ * (B * B)) → (κ * (v + 1) + B * ρ) * (6 * B) ≤ σ * B * (6 * B)
        shape h = omega arith

    pub poly-ge : κ * (v + 1) + B * ρ ≤ σ * B
    poly-ge = split w v (λ l. below (le_dest (le_of_lt l))) (λ l. beyond (le_dest l))
      where
        beyond : (p : ℕ) × (v + p ≡ w) → κ * (v + 1) + B * ρ ≤ σ * B
        beyond o = from-cubic 0 (omega arith) (subst (λ (y : ℕ). y * y * y + 2 * (v * v * v) ≤ 3 * (v * (y * y)) + 0) o.1 (omega (arith, cubic-beyond v o.0 (omega (arith, o.1)))))

        below : (q : ℕ) × (w + q ≡ v) → κ * (v + 1) + B * ρ ≤ σ * B
        below o = from-cubic (3 * (o.0 * (v * v))) (small o.0 (omega (arith, o.1))) (subst (λ (y : ℕ). w * w * w + 2 * (y * y * y) ≤ 3 * (y * (w * w)) + 3 * (o.0 * (y * y))) o.1 (omega (arith, cubic-above w o.0)))
          where
            small : (q : ℕ) → q ≤ j → 3 * (q * (v * v)) ≤ 3 * (x * (B * B))
            small q l =
                let a : 43200 * q ≤ v = le_of_mul-le-mul_right {k = B * B} (go (B * B) (v * v) q j l (square v Vs) J) (mul-pos b b) in
                let c : q ≤ 14400 * x = omega arith in
                fin (B * B) (v * v) q c (square v Vs)
              where
                go : (BB vv q j : ℕ) → q ≤ j → 14400 * vv ≤ BB → 3 * BB * j ≤ vv * v → 43200 * q * BB ≤ v * BB
                go BB vv q j l s t = omega (arith, mul-le-mul_left BB l, mul-le-mul_right v s)

                fin : (BB vv q : ℕ) → q ≤ 14400 * x → 14400 * vv ≤ BB → 3 * (q * vv) ≤ 3 * (x * BB)
                fin BB vv q c s = omega (arith, mul-le-mul_right vv c, mul-le-mul_left x s)
