-- What `power_of` gives, rounded to 24 bits or to a whole number of units 2 ^ -149, is at most 15/16 of a unit of its last place from all later partial sums of e ^ x, or from their reciprocals where x is negative; below it, of the unit there.
-- The error before rounding is at most 7/16 of the unit, and the rounding's half. Where the 24 bits are 2 ^ 23 the rounding was downwards, since `power_of` is at least 2 ^ 62, and 7/16 is less than 15/16 of half.
use mathlib.Core.Path.{◌≡◌, sym, ap, ◌∙◌, subst}
use Prim.Native.Nat.{ℕ, ◌+◌, ◌-◌, ◌*◌, ◌/◌, ◌^◌, ◌≤◌, ◌<◌}
use native.Mathlib.Nat.{le_trans, le_of_eq, le_refl, le_antisymm, one-mul, mul_assoc, mul_comm, mul_left_comm, mul_right_comm, mul-le-mul, mul-le-mul_left, mul-le-mul_right, mul-pos, le_of_mul-le-mul_right, div-mul-le_self, lt-div-mul-add, sub-add_cancel}
use native.Mathlib.Omega.{arith}
use lib.Dec.{lit≤, lit<}
use lib.Pow.{pow_pos, pow_mono, pow-add}
use lib.Ieee.{size}
use Rattle.cases.proofs.Cases.{split}
use Rattle.series.specs.Series.{full, num, one, Later}
use Rattle.series.proofs.Addition.{full-pos}
use Rattle.series.proofs.Exponential.{Enc, times}
use Rattle.series.proofs.ExpFraction.{weaken, ratio}
use Rattle.series.proofs.Reciprocal.{Rec, quotient, slacken, high-later}
use Rattle.series.proofs.Weighted.{low-later}
use Rattle.exact.specs.Between.{Between}
use Rattle.exponential.specs.Tables.{ln2}
use Rattle.exponential.specs.Exp.{power_of, rounded_to24}
use Rattle.exponential_bounds.proofs.Units.{unit, unit_below, Units, units_of}
use Rattle.exponential_bounds.proofs.PowerOfTwo.{two-power}
use Rattle.exponential_bounds.proofs.ExpPower.{power-enc, power-ge, power_le}

-- from some number of terms on, the sums at n / d, or their reciprocals, are that near v / 2 ^ 149
abbrev pub Sums : (n d v : ℕ) → Type 0
Sums n d v = Later (λ k. Between (16 * 2 ^ 149) (16 * v) 0 (15 * unit_below v) (15 * unit v) (num one n d k) 0 (full d k))

abbrev pub Recs : (n d v : ℕ) → Type 0
Recs n d v = Later (λ k. Between (16 * 2 ^ 149) (16 * v) 0 (15 * unit_below v) (15 * unit v) (full d k) 0 (num one n d k))

-- ---- from an enclosure to all later partial sums
module _ (n d lo hi m v r l u : ℕ) (D : 0 < d) (P : 0 < m) (a : r * m ≤ v * lo + l * m) (b : v * hi ≤ (r + u) * m) where
  between : (x f : ℕ) → lo * f ≤ m * x → m * x ≤ hi * f → Between v r 0 l u x 0 f
  between x f p q =
      record {
        low = le_of_mul-le-mul_right {k = m} (omega (arith, mul-le-mul_right f a, mul-le-mul_left v p)) P;
        high = le_of_mul-le-mul_right {k = m} (omega (arith, mul-le-mul_right f b, mul-le-mul_left v q)) P;
      }

  pub from-enc : Enc n d lo hi m → Later (λ k. Between v r 0 l u (num one n d k) 0 (full d k))
  from-enc E = (E.at, λ k g. between (num one n d k) (full d k) (low-later one (λ (j : ℕ). le_refl 1) n d lo m E.at D E.low k g) (E.high k))

  pub from-rec : Rec n d lo hi m → Later (λ k. Between v r 0 l u (full d k) 0 (num one n d k))
  from-rec R = (R.at, λ k g. between (full d k) (num one n d k) (R.low k) (high-later n d lo hi m D R k g))

-- ---- from n / d to an equal fraction n' / d'
module _ (n d n' d' : ℕ) (D : 0 < d) (D' : 0 < d') (e : n' * d ≡ n * d') (v : ℕ) where
  sums-cross : (k : ℕ) → num one n' d' k * full d k ≡ num one n d k * full d' k
  sums-cross k = le_antisymm (ratio n' d' n d k D' D (le_of_eq e)) (ratio n d n' d' k D D' (le_of_eq (sym e)))

  moved : (m r l u x f x' f' w w' : ℕ) → 0 < w → x' * w ≡ x * w' → f' * w ≡ f * w' → Between m r 0 l u x 0 f → Between m r 0 l u x' 0 f'
  moved m r l u x f x' f' w w' W i j b =
      record {
        low = le_of_mul-le-mul_right {k = w} (omega (arith, ap (λ (y : ℕ). m * y) i, ap (λ (y : ℕ). r * y) j, ap (λ (y : ℕ). l * y) j, mul-le-mul_right w' b.low)) W;
        high = le_of_mul-le-mul_right {k = w} (omega (arith, ap (λ (y : ℕ). m * y) i, ap (λ (y : ℕ). (r + u) * y) j, mul-le-mul_right w' b.high)) W;
      }

  pub same-sums : Sums n d v → Sums n' d' v
  same-sums S =
      (S.0, λ k g. moved (16 * 2 ^ 149) (16 * v) (15 * unit_below v) (15 * unit v) (num one n d k) (full d k) (num one n' d' k) (full d' k) (full d k) (full d' k) (full-pos d k D) (sums-cross k) (mul_comm (full d' k) (full d k)) (S.1 k g))

  pub same-recs : Recs n d v → Recs n' d' v
  same-recs S =
      (S.0, λ k g. moved (16 * 2 ^ 149) (16 * v) (15 * unit_below v) (15 * unit v) (full d k) (num one n d k) (full d' k) (num one n' d' k) (full d k) (full d' k) (full-pos d k D) (mul_comm (full d' k) (full d k)) (sums-cross k) (S.1 k g))

-- ---- a value from h - κ to h + κ, times c / m, is near v * u / P, for v the nearest to h over 2 * g
module _ (P c m u v g h h' κ : ℕ) (E : u * m ≡ P * (c * (2 * g))) (fine : 8 * κ ≤ 7 * g) (less : h' + κ ≡ h) where
  pub low-side : (l : ℕ) → u ≤ l → v * (2 * g) ≤ h + g → 16 * (v * u) * m ≤ 16 * P * (h' * c) + 15 * l * m
  low-side l U over = omega (arith, ap (λ (x : ℕ). v * x) E, E, mul-le-mul_right m U, mul-le-mul_left (P * c) over, mul-le-mul_left (P * c) fine, ap (λ (x : ℕ). P * c * x) less)

  -- half of the unit will do where v is not above h
  low-exact : (l : ℕ) → u ≤ 2 * l → v * (2 * g) ≤ h → 16 * (v * u) * m ≤ 16 * P * (h' * c) + 15 * l * m
  low-exact l U over = omega (arith, ap (λ (x : ℕ). v * x) E, E, mul-le-mul_right m U, mul-le-mul_left (P * c) over, mul-le-mul_left (P * c) fine, ap (λ (x : ℕ). P * c * x) less)

  pub high-side : (t : ℕ) → u ≤ t → h ≤ v * (2 * g) + g → 16 * P * ((h + κ) * c) ≤ (16 * (v * u) + 15 * t) * m
  high-side t U under = omega (arith, ap (λ (x : ℕ). v * x) E, E, mul-le-mul_right m U, mul-le-mul_left (P * c) under, mul-le-mul_left (P * c) fine)

  -- v is at least 2 ^ 23, and not above h where it is 2 ^ 23
  low-units : (l t : ℕ) → Units v u l t → v * (2 * g) ≤ h + g → 2 ^ 23 * (2 * g) ≤ h → 16 * (v * u) * m ≤ 16 * P * (h' * c) + 15 * l * m
  low-units l t U over least = split (2 ^ 23) v (λ k. low-side l (U.whole k) over) (λ k. low-exact l U.half (le_trans (mul-le-mul_right (2 * g) k) least))

abbrev pub slack : ℕ
slack = 2 ^ 37 + 2 ^ 16

-- h over 2 * g, to the nearest
pub nearest-over : (h g : ℕ) → (h / g + 1) / 2 * (2 * g) ≤ h + g
nearest-over h g = go (h / g) (div-mul-le_self h g)
  where
    go : (q : ℕ) → q * g ≤ h → (q + 1) / 2 * (2 * g) ≤ h + g
    go q a = let b : (q + 1) / 2 * 2 ≤ q + 1 = omega arith in omega (arith, mul-le-mul_right g b)

pub nearest-under : (h g : ℕ) → 0 < g → h ≤ (h / g + 1) / 2 * (2 * g) + g
nearest-under h g G = go (h / g) (lt-div-mul-add G)
  where
    go : (q : ℕ) → h < q * g + g → h ≤ (q + 1) / 2 * (2 * g) + g
    go q a = let b : q ≤ (q + 1) / 2 * 2 = omega arith in omega (arith, mul-le-mul_right g b)

-- what the powers of two lack is less than 2 ^ 16 of h's units
module _ (h E : ℕ) (most : h ≤ 2 ^ 63) (few : E ≤ 151) where
  lacks : h * (66 * E) ≤ 2 ^ 15 * 2 ^ 62
  lacks = let a : 66 * E ≤ 9966 = omega arith in le_trans (mul-le-mul most a) (lit≤ tt)

  lower_by : (c : ℕ) → c + 66 * E ≡ 2 ^ 62 → (h' : ℕ) → h' + slack ≡ h → h' * 2 ^ 62 ≤ c * h
  lower_by c e h' f = omega (arith, lacks, ap (λ (x : ℕ). x * h) e, ap (λ (x : ℕ). x * 2 ^ 62) f)

  raised_by : (c : ℕ) → c + 66 * E ≡ 2 ^ 62 → 2 ^ 62 * (h + 2 ^ 37) ≤ (h + slack) * c
  raised_by c e = omega (arith, lacks, ap (λ (x : ℕ). x * h) e, ap (λ (x : ℕ). x * slack) e)

pub rounded-ge : (h : ℕ) → 2 ^ 62 ≤ h → 2 ^ 23 ≤ rounded_to24 h
rounded-ge h k = omega arith

-- ---- x = (e * ln 2 + R) / 2 ^ 56
module _ (e R : ℕ) (few : e ≤ 151) (r : R ≤ ln2) where
  abbrev h : ℕ
  h = power_of R

  abbrev h' : ℕ
  h' = h - slack

  back : h' + slack ≡ h
  back = sub-add_cancel (le_trans (lit≤ tt) (power-ge R r))

  left_over : 2 ^ 62 - 66 * e + 66 * e ≡ 2 ^ 62
  left_over = omega arith

  up-enc : Enc (e * ln2 + R) (2 ^ 56) (h' * (2 ^ e * 2 ^ 62)) ((h + slack) * (2 ^ e * 2 ^ 62)) (2 ^ 62 * 2 ^ 62)
  up-enc =
      let c = 2 ^ 62 - 66 * e in
      weaken (e * ln2 + R) (2 ^ 56) (2 ^ e * c * h) (2 ^ e * 2 ^ 62 * (h + 2 ^ 37)) (2 ^ 62 * 2 ^ 62) (h' * (2 ^ e * 2 ^ 62)) ((h + slack) * (2 ^ e * 2 ^ 62))
      (go (2 ^ e) c h h' (lower_by h e (power_le R r) few c left_over h' back))
      (le_trans (mul-le-mul_left (2 ^ e * 2 ^ 62) (more h)) (le_of_eq (mul_comm (2 ^ e * 2 ^ 62) (h + slack))))
      (times (e * ln2) R (2 ^ 56) (2 ^ e * c) (2 ^ e * 2 ^ 62) (2 ^ 62) h (h + 2 ^ 37) (2 ^ 62) (pow_pos 56) (two-power e) (power-enc R r))
    where
      go : (p c h h' : ℕ) → h' * 2 ^ 62 ≤ c * h → h' * (p * 2 ^ 62) ≤ p * c * h
      go p c h h' a = omega (arith, mul-le-mul_left p a)

      more : (h : ℕ) → h + 2 ^ 37 ≤ h + slack
      more h = omega arith

  up-scale : 2 ^ (126 + e) * (2 ^ 62 * 2 ^ 62) ≡ 2 ^ 149 * (2 ^ e * 2 ^ 62 * (2 * 2 ^ 38))
  up-scale = ap (λ (x : ℕ). x * (2 ^ 62 * 2 ^ 62)) (pow-add 2 126 e) ∙ mul_right_comm (2 ^ 126) (2 ^ e) (2 ^ 62 * 2 ^ 62) ∙ sym (turn' (2 ^ 149) (2 ^ e) (2 ^ 62) (2 * 2 ^ 38))
    where
      turn' : (a p b c : ℕ) → a * (p * b * c) ≡ a * b * c * p
      turn' a p b c = simp (mul_assoc, mul_comm, mul_left_comm)

  pub near_up : Sums (e * ln2 + R) (2 ^ 56) (rounded_to24 h * 2 ^ (126 + e))
  near_up =
      let c = 2 ^ e * 2 ^ 62 in
      let m = 2 ^ 62 * 2 ^ 62 in
      let u = 2 ^ (126 + e) in
      let v = rounded_to24 h in
      let U = units_of v (126 + e) (rounded-ge h (power-ge R r)) in
      from-enc (e * ln2 + R) (2 ^ 56) (h' * c) ((h + slack) * c) m (16 * 2 ^ 149) (16 * (v * u)) (15 * unit_below (v * u)) (15 * unit (v * u)) (pow_pos 56) (lit< tt)
      (low-units (2 ^ 149) c m u v (2 ^ 38) h h' slack up-scale (lit≤ tt) back (unit_below (v * u)) (unit (v * u)) U (nearest-over h (2 ^ 38)) (power-ge R r))
      (high-side (2 ^ 149) c m u v (2 ^ 38) h h' slack up-scale (lit≤ tt) back (unit (v * u)) U.own (nearest-under h (2 ^ 38) (pow_pos 38)))
      up-enc

-- ---- -x = (E * ln 2 - R) / 2 ^ 56, X + R = E * ln 2
module _ (E R X : ℕ) (few : E ≤ 151) (r : R ≤ ln2) (q : X + R ≡ E * ln2) where
  abbrev c : ℕ
  c = 2 ^ 62 - 66 * E

  rest : c + 66 * E ≡ 2 ^ 62
  rest = omega arith

  c_pos : 0 < c
  c_pos = omega arith

  -- 2 ^ -E
  halves : Rec (X + R) (2 ^ 56) c (2 ^ 62) (2 ^ E * c)
  halves =
      subst (λ (x : ℕ). Rec x (2 ^ 56) c (2 ^ 62) (2 ^ E * c)) (sym q)
      (let A = two-power E in record { low = λ k. go (num one (E * ln2) (2 ^ 56) k) (full (2 ^ 56) k) (A.high k); at = A.at; high = A.low })
    where
      go : (x f : ℕ) → 2 ^ 62 * x ≤ 2 ^ E * 2 ^ 62 * f → c * x ≤ 2 ^ E * c * f
      go x f a = through c x (2 ^ E) f (le_of_mul-le-mul_right {k = 2 ^ 62} (le_trans (le_of_eq (mul_comm x (2 ^ 62))) (le_trans a (le_of_eq (mul_right_comm (2 ^ E) (2 ^ 62) f)))) (pow_pos 62))
        where
          through : (c x p f : ℕ) → x ≤ p * f → c * x ≤ p * c * f
          through c x p f b = omega (arith, mul-le-mul_left c b)

  abbrev H : ℕ
  H = power_of R

  abbrev H' : ℕ
  H' = H - slack

  back' : H' + slack ≡ H
  back' = sub-add_cancel (le_trans (lit≤ tt) (power-ge R r))

  down-rec : Rec X (2 ^ 56) (H' * c) ((H + slack) * c) (2 ^ E * c * 2 ^ 62)
  down-rec =
      slacken X (2 ^ 56) (c * H) (2 ^ 62 * (H + 2 ^ 37)) (2 ^ E * c * 2 ^ 62) (H' * c) ((H + slack) * c)
      (le_trans (mul-le-mul_right c (less H' H back')) (le_of_eq (mul_comm H c)))
      (raised_by H E (power_le R r) few c rest)
      (quotient X R (2 ^ 56) c (2 ^ 62) (2 ^ E * c) H (H + 2 ^ 37) (2 ^ 62) (pow_pos 56) halves (power-enc R r))
    where
      less : (x y : ℕ) → x + slack ≡ y → x ≤ y
      less x y e = omega arith

  abbrev M : ℕ
  M = 2 ^ E * c * 2 ^ 62

  near_by : (u v g : ℕ) → u * M ≡ 2 ^ 149 * (c * (2 * g)) → 8 * slack ≤ 7 * g → u ≤ unit (v * u) → H ≤ v * (2 * g) + g → 16 * (v * u) * M ≤ 16 * 2 ^ 149 * (H' * c) + 15 * unit_below (v * u) * M → Recs X (2 ^ 56) (v * u)
  near_by u v g e w U b low =
      from-rec X (2 ^ 56) (H' * c) ((H + slack) * c) M (16 * 2 ^ 149) (16 * (v * u)) (15 * unit_below (v * u)) (15 * unit (v * u)) (pow_pos 56) (mul-pos (mul-pos (pow_pos E) c_pos) (pow_pos 62)) low
      (high-side (2 ^ 149) c M u v g H H' slack e w back' (unit (v * u)) U b)
      down-rec

  turn : (u p c b : ℕ) → u * (p * c * b) ≡ u * p * (b * c)
  turn u p c b = simp (mul_assoc, mul_comm, mul_left_comm)

  turn' : (a c d : ℕ) → a * (c * d) ≡ a * d * c
  turn' a c d = simp (mul_assoc, mul_comm, mul_left_comm)

  pub near_down : E ≤ 126 → Recs X (2 ^ 56) (rounded_to24 H * 2 ^ (126 - E))
  near_down k =
      let u = 2 ^ (126 - E) in
      let v = rounded_to24 H in
      let U = units_of v (126 - E) (rounded-ge H (power-ge R r)) in
      near_by u v (2 ^ 38) scale (lit≤ tt) U.own (nearest-under H (2 ^ 38) (pow_pos 38))
      (low-units (2 ^ 149) c M u v (2 ^ 38) H H' slack scale (lit≤ tt) back' (unit_below (v * u)) (unit (v * u)) U (nearest-over H (2 ^ 38)) (power-ge R r))
    where
      back : (E : ℕ) → E ≤ 126 → 126 - E + E ≡ 126
      back E k = omega arith

      scale : 2 ^ (126 - E) * (2 ^ E * c * 2 ^ 62) ≡ 2 ^ 149 * (c * (2 * 2 ^ 38))
      scale =
          turn (2 ^ (126 - E)) (2 ^ E) c (2 ^ 62)
          ∙ ap (λ (x : ℕ). x * (2 ^ 62 * c)) (sym (pow-add 2 (126 - E) E) ∙ ap (λ (x : ℕ). 2 ^ x) (back E k))
          ∙ sym (mul_assoc (2 ^ 126) (2 ^ 62) c) ∙ sym (turn' (2 ^ 149) c (2 * 2 ^ 38))

  pub near_sub : 126 < E → Recs X (2 ^ 56) ((H / 2 ^ (E - 88) + 1) / 2 * 1)
  near_sub k =
      let g = 2 ^ (E - 88) in
      let v = (H / g + 1) / 2 in
      near_by 1 v g scale fine (pow_pos (size (v * 1) - 24)) (nearest-under H g (pow_pos (E - 88)))
      (low-side (2 ^ 149) c M 1 v g H H' slack scale fine back' (unit_below (v * 1)) (pow_pos (size (v * 1 - 1) - 24)) (nearest-over H g))
    where
      fine : 8 * slack ≤ 7 * 2 ^ (E - 88)
      fine = le_trans {m = 7 * 2 ^ 38} (lit≤ tt) (mul-le-mul_left 7 (pow_mono {i = 38} {j = E - 88} (omega arith)))

      line : (E : ℕ) → 126 < E → E ≡ 88 + (E - 88)
      line E k = omega arith

      scale : 1 * (2 ^ E * c * 2 ^ 62) ≡ 2 ^ 149 * (c * (2 * 2 ^ (E - 88)))
      scale =
          ap (λ (x : ℕ). 1 * (x * c * 2 ^ 62)) (ap (λ (x : ℕ). 2 ^ x) (line E k) ∙ pow-add 2 88 (E - 88))
          ∙ first (2 ^ 88) (2 ^ (E - 88)) c (2 ^ 62) ∙ sym (second (2 ^ 149) c 2 (2 ^ (E - 88)))
        where
          first : (a o c b : ℕ) → 1 * (a * o * c * b) ≡ a * b * (o * c)
          first a o c b = one-mul (a * o * c * b) ∙ go
            where
              go : a * o * c * b ≡ a * b * (o * c)
              go = simp (mul_assoc, mul_comm, mul_left_comm)

          second : (a c d o : ℕ) → a * (c * (d * o)) ≡ a * d * (o * c)
          second a c d o = simp (mul_assoc, mul_comm, mul_left_comm)
