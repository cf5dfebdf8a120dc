-- The series of sine and cosine see only the value of their fraction: over n * c / (d * c) each sum is multiplied by one weight.
use mathlib.Core.Path.{◌≡◌, refl, ap, ap₂, ◌∙◌, subst₂, sym}
use Prim.Native.Nat.{ℕ, zero, suc, ◌+◌, ◌*◌, ◌≤◌, ◌<◌}
use native.Mathlib.Nat.{le_trans, mul_assoc, mul_comm, mul_left_comm, mul-le-mul_right, mul-pos, le_of_mul-le-mul_right, add-mul}
use native.Mathlib.Omega.{arith}
use lib.Dec.{lit<}
use Rattle.series.specs.Series.{Close, Wave, sine, cosine}
use Rattle.series.proofs.Pairs.{Sums, grow, sums, Limit, start}

pub record Times (w : ℕ) (s s' : Sums) : Type 0 where
  pub den : s'.den ≡ s.den * w
  pub next : s'.next ≡ s.next * w
  pub plus : s'.plus ≡ s.plus * w
  pub minus : s'.minus ≡ s.minus * w

module _ (K : ℕ → ℕ) (n d c : ℕ) where
  sq : (x k : ℕ) → x * c * (x * c) * k ≡ x * x * k * (c * c)
  sq x k = omega arith

  den-go : (D w g h g' h' : ℕ) → g' ≡ g * (c * c) → h' ≡ h * (c * c) → D * w * (g' * h') ≡ D * (g * h) * (w * (c * c * (c * c)))
  den-go D w g h g' h' e f = ap₂ (λ (x y : ℕ). D * w * (x * y)) e f ∙ simp (mul_assoc, mul_comm, mul_left_comm)

  next-go : (A w : ℕ) → A * w * (n * c * (n * c)) * (n * c * (n * c)) ≡ A * (n * n) * (n * n) * (w * (c * c * (c * c)))
  next-go A w = simp (mul_assoc, mul_comm, mul_left_comm)

  plus-go : (P A w g h g' h' : ℕ) → g' ≡ g * (c * c) → h' ≡ h * (c * c) → (P * w + A * w) * (g' * h') ≡ (P + A) * (g * h) * (w * (c * c * (c * c)))
  plus-go P A w g h g' h' e f = ap (λ (x : ℕ). x * (g' * h')) (sym (add-mul P A w)) ∙ den-go (P + A) w g h g' h' e f

  minus-go : (Q A w g h g' h' : ℕ) → g' ≡ g * (c * c) → h' ≡ h * (c * c) → Q * w * (g' * h') + A * w * (n * c * (n * c)) * h' ≡ (Q * (g * h) + A * (n * n) * h) * (w * (c * c * (c * c)))
  minus-go Q A w g h g' h' e f =
      ap₂ (λ (x y : ℕ). x + y) (den-go Q w g h g' h' e f) (ap (λ (y : ℕ). A * w * (n * c * (n * c)) * y) f ∙ one) ∙ sym (add-mul (Q * (g * h)) (A * (n * n) * h) (w * (c * c * (c * c))))
    where
      one : A * w * (n * c * (n * c)) * (h * (c * c)) ≡ A * (n * n) * h * (w * (c * c * (c * c)))
      one = simp (mul_assoc, mul_comm, mul_left_comm)

  grow-times : (j w : ℕ) (s s' : Sums) → Times w s s' → Times (w * (c * c * (c * c))) (grow K n d j s) (grow K (n * c) (d * c) j s')
  grow-times j w s s' t =
      let g = d * d * K (2 * j) in
      let h = d * d * K (2 * j + 1) in
      let g' = d * c * (d * c) * K (2 * j) in
      let h' = d * c * (d * c) * K (2 * j + 1) in
      let e : g' ≡ g * (c * c) = sq d (K (2 * j)) in
      let f : h' ≡ h * (c * c) = sq d (K (2 * j + 1)) in
      record {
        den = ap (λ (x : ℕ). x * (g' * h')) t.den ∙ den-go s.den w g h g' h' e f;
        next = ap (λ (x : ℕ). x * (n * c * (n * c)) * (n * c * (n * c))) t.next ∙ next-go s.next w;
        plus = ap₂ (λ (x y : ℕ). (x + y) * (g' * h')) t.plus t.next ∙ plus-go s.plus s.next w g h g' h' e f;
        minus = ap₂ (λ (x y : ℕ). x * (g' * h') + y * (n * c * (n * c)) * h') t.minus t.next ∙ minus-go s.minus s.next w g h g' h' e f;
      }

  weight : Wave → ℕ → ℕ
  weight w zero = start w c
  weight w (suc j) = weight w j * (c * c * (c * c))

  start-pos : 0 < c → (w : Wave) → 0 < start w c
  start-pos p sine = p
  start-pos p cosine = lit< tt

  weight-pos : 0 < c → (w : Wave) (j : ℕ) → 0 < weight w j
  unfolding weight
  weight-pos p w zero = start-pos p w
  weight-pos p w (suc j) = mul-pos (weight-pos p w j) (mul-pos (mul-pos p p) (mul-pos p p))

  times : (w : Wave) (j : ℕ) → Times (weight w j) (sums K n d (start w n) (start w d) j) (sums K (n * c) (d * c) (start w (n * c)) (start w (d * c)) j)
  unfolding sums weight
  times sine zero = record { den = refl; next = refl; plus = omega arith; minus = omega arith }
  times cosine zero = record { den = refl; next = refl; plus = refl; minus = refl }
  times w (suc j) = grow-times j (weight w j) (sums K n d (start w n) (start w d) j) (sums K (n * c) (d * c) (start w (n * c)) (start w (d * c)) j) (times w j)

-- closeness is the same over a denominator w times as large
close_up : (m r t u p q c p' q' c' w : ℕ) → p' ≡ p * w → q' ≡ q * w → c' ≡ c * w → Close m r t u p q c → Close m r t u p' q' c'
close_up m r t u p q c p' q' c' w e f g k =
    record {
      low = omega (arith, mul-le-mul_right w k.low, ap (λ (x : ℕ). m * x) e, ap (λ (x : ℕ). m * x) f, ap (λ (x : ℕ). r * x) g, ap (λ (x : ℕ). (t + u) * x) g);
      high = omega (arith, mul-le-mul_right w k.high, ap (λ (x : ℕ). m * x) e, ap (λ (x : ℕ). m * x) f, ap (λ (x : ℕ). t * x) g, ap (λ (x : ℕ). (r + u) * x) g);
    }

close_down : (m r t u p q c p' q' c' w : ℕ) → 0 < w → p' ≡ p * w → q' ≡ q * w → c' ≡ c * w → Close m r t u p' q' c' → Close m r t u p q c
close_down m r t u p q c p' q' c' w P e f g k =
    record {
      low = le_of_mul-le-mul_right {k = w} (omega (arith, k.low, ap (λ (x : ℕ). m * x) e, ap (λ (x : ℕ). m * x) f, ap (λ (x : ℕ). r * x) g, ap (λ (x : ℕ). (t + u) * x) g)) P;
      high = le_of_mul-le-mul_right {k = w} (omega (arith, k.high, ap (λ (x : ℕ). m * x) e, ap (λ (x : ℕ). m * x) f, ap (λ (x : ℕ). t * x) g, ap (λ (x : ℕ). (r + u) * x) g)) P;
    }

-- from n / d to an equal fraction n' / d'
module _ (w : Wave) (K : ℕ → ℕ) (n d n' d' : ℕ) (D : 0 < d) (e : n' * d ≡ n * d') where
  join : (i : ℕ) → Times (weight K n' d' d w i) (sums K n' d' (start w n') (start w d') i) (sums K (n * d') (d * d') (start w (n * d')) (start w (d * d')) i)
  join i = subst₂ (λ (x y : ℕ). Times (weight K n' d' d w i) (sums K n' d' (start w n') (start w d') i) (sums K x y (start w x) (start w y) i)) e (mul_comm d' d) (times K n' d' d w i)

  sum-two : (x y z w u : ℕ) → x ≡ y * w → z ≡ u * w → x + z ≡ (y + u) * w
  sum-two x y z w u p q = omega arith

  pub same-limit : (j m r t u : ℕ) → Limit K n d (start w n) (start w d) j m r t u → Limit K n' d' (start w n') (start w d') j m r t u
  same-limit j m r t u L =
      record {
        even = λ i h.
            let a = sums K n d (start w n) (start w d) i in
            let b = sums K (n * d') (d * d') (start w (n * d')) (start w (d * d')) i in
            let c = sums K n' d' (start w n') (start w d') i in
            let p = times K n d d' w i in
            let q = join i in
            close_down m r t u c.plus c.minus c.den b.plus b.minus b.den (weight K n' d' d w i) (weight-pos K n' d' d D w i) q.plus q.minus q.den
            (close_up m r t u a.plus a.minus a.den b.plus b.minus b.den (weight K n d d' w i) p.plus p.minus p.den (L.even i h));
        odd = λ i h.
            let a = sums K n d (start w n) (start w d) i in
            let b = sums K (n * d') (d * d') (start w (n * d')) (start w (d * d')) i in
            let c = sums K n' d' (start w n') (start w d') i in
            let p = times K n d d' w i in
            let q = join i in
            close_down m r t u (c.plus + c.next) c.minus c.den (b.plus + b.next) b.minus b.den (weight K n' d' d w i) (weight-pos K n' d' d D w i)
            (sum-two b.plus c.plus b.next (weight K n' d' d w i) c.next q.plus q.next) q.minus q.den
            (close_up m r t u (a.plus + a.next) a.minus a.den (b.plus + b.next) b.minus b.den (weight K n d d' w i)
            (sum-two b.plus a.plus b.next (weight K n d d' w i) a.next p.plus p.next) p.minus p.den (L.odd i h));
      }

-- a larger unit
wider : (m r t u u' p q c : ℕ) → u ≤ u' → Close m r t u p q c → Close m r t u' p q c
wider m r t u u' p q c h k = record { low = omega (arith, k.low, mul-le-mul_right c h); high = omega (arith, k.high, mul-le-mul_right c h) }

pub wider-limit : (K : ℕ → ℕ) (n d a b j m r t u u' : ℕ) → u ≤ u' → Limit K n d a b j m r t u → Limit K n d a b j m r t u'
wider-limit K n d a b j m r t u u' h L =
    record {
      even = λ i l. wider m r t u u' (sums K n d a b i).plus (sums K n d a b i).minus (sums K n d a b i).den h (L.even i l);
      odd = λ i l. wider m r t u u' ((sums K n d a b i).plus + (sums K n d a b i).next) (sums K n d a b i).minus (sums K n d a b i).den h (L.odd i l);
    }

pub later : (K : ℕ → ℕ) (n d a b j j' m r t u : ℕ) → j ≤ j' → Limit K n d a b j m r t u → Limit K n d a b j' m r t u
later K n d a b j j' m r t u h L = record { even = λ i l. L.even i (le_trans h l); odd = λ i l. L.odd i (le_trans h l) }
