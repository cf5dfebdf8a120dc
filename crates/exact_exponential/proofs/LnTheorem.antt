-- `ln_of x` is less than one unit in its last place from the logarithm of x, towards zero less than one of the unit there, for every f32: by the cases of its pattern.
use mathlib.Core.Path.{◌≡◌, refl, sym, ap, ◌∙◌, subst, subst₂}
use mathlib.Core.Bool.{Bool, true, false, cond, true≢false, false≢true}
use Prim.Native.Nat.{ℕ, zero, suc, ◌+◌, ◌-◌, ◌*◌, ◌/◌, ◌%◌, ◌^◌, ◌≤◌, ◌<◌}
use native.Mathlib.Nat.{le_trans, le_of_eq, le_of_lt, le_refl, lt_of_lt_of_le, one-mul, mul_assoc, mul_comm, mul_left_comm, mul-le-mul_right, mul-pos, eq_of_mul-eq-mul_right}
use native.Mathlib.Omega.{arith}
use lib.Dec.{lit<, lit≤}
use lib.IntN.{pos, negsuc}
use lib.Pow.{pow_pos, pow_mono, pow-add}
use lib.Count.{count_leading_zeros}
use borrow.Author.Tests.{le-leb, lt-leb}
use lib.Ieee.{Float, nan, inf, fin, binary32, up, down, size, of_bits, to_bits}
use lib.Ieee.Fits.{down_pos}
use lib.Ieee.Bits.{of_bits-to_bits, to_bits-lt}
use lib.Ieee.Exact.{HasValue}
use Rattle.series.specs.Series.{full, num}
use Rattle.cases.proofs.Cases.{split}
use Rattle.fixed.specs.Fixed.{mant, pattern}
use Rattle.fixed.proofs.Round.{rounded, place, pattern_lt}
use Rattle.fixed.proofs.Values.{value-normal, subnormal, packed-value, ulp-exp}
use Rattle.exponential.specs.Tables.{ln2}
use Rattle.logarithm.specs.Ln.{rest_of, above, below, ln_bits, ln_of}
use Rattle.logarithm.proofs.LnCases.{ln-zero, ln-none, ln-inf, ln-1, ln-up, ln-down, ln-deep, shifted}
use Rattle.series.specs.Series.{ExpLe, ExpGe}
use Rattle.exact_exponential.specs.Ln.{PowLe, PowGe, lower, upper, NearLn, LnNear}
use Rattle.std.proofs.lemmas.Float.{one_f32_is}
use Rattle.scalar.proofs.Nan.{nan_pattern, the-nan}
use Rattle.scalar.proofs.Sign.{plus-zero}
use Rattle.scalar.proofs.Patterns.{steps-is}
use Rattle.exact_exponential.proofs.Special.{an-inf, minus-inf, minus-zero}
use Rattle.exact.proofs.Unit.{below_le}
use Rattle.exponential_bounds.proofs.Units.{unit, unit_below}
use Rattle.exponential_bounds.proofs.Exponents.{same-le, same-ge}
use Rattle.exponential_bounds.proofs.LnSum.{Good, good-up, good-down}

-- ---- an exponent of either sign
module _ (a b d X D : ℕ) where
  low-plus : b ≤ a → ExpLe (a - b) d X D → PowLe (lower false a b) d X D
  low-plus h E = subst (λ (y : Bool). PowLe (cond y (pos (a - b)) (negsuc (b - suc a))) d X D) (sym (le-leb b a h)) E

  high-plus : ExpGe (a + b) d X D → PowGe (upper false a b) d X D
  high-plus E = subst (λ (y : Bool). PowGe (cond y (pos (a + b - 0)) (negsuc (0 - suc (a + b)))) d X D) (sym (le-leb 0 (a + b) (omega arith))) (subst (λ (n : ℕ). ExpGe n d X D) (omega arith) E)

  low-minus : 0 < a → ExpGe (a + b) d D X → PowLe (lower true a b) d X D
  low-minus h E = subst (λ (y : Bool). PowLe (cond y (pos (0 - (a + b))) (negsuc (a + b - 1))) d X D) (sym (lt-leb (a + b) 0 (omega arith))) (subst (λ (n : ℕ). ExpGe n d D X) (omega arith) E)

  high-minus : b < a → ExpLe (a - b) d D X → PowGe (upper true a b) d X D
  high-minus h E = subst (λ (y : Bool). PowGe (cond y (pos (b - a)) (negsuc (a - suc b))) d X D) (sym (lt-leb a b h)) (subst (λ (n : ℕ). ExpLe n d D X) (omega arith) E)

-- ---- the unit below the value is less than it
module _ (S : ℕ) (from : 2 ^ 30 ≤ S) (fit : S < 2 ^ 64) where
  abbrev v : ℕ
  v = mant S * place S

  v-pos : 0 < v
  v-pos = mul-pos (lt_of_lt_of_le (lit< tt) (rounded S from fit).least) (pow_pos (133 - count_leading_zeros 64 S))

  under : 15 * unit_below v < 16 * v
  under =
      let R = rounded S from fit in
      let e = 133 - count_leading_zeros 64 S in
      go (place S) (unit_below v) v (le_trans (below_le v) (le_trans (pow_mono (ulp-exp (mant S) e R.least R.most).1) (le_of_eq (pow-add 2 e 1)))) (pow_pos e) (mul-le-mul_right (place S) R.least)
    where
      go : (p u v : ℕ) → u ≤ p * 2 ^ 1 → 0 < p → 2 ^ 23 * p ≤ v → 15 * u < 16 * v
      go p u v h k l = omega arith

not-zero : (X W D c : ℕ) → X ≡ 0 → X * c ≡ W * D → 0 < W → 0 < D → ⊥
not-zero X W D c z e w d = omega (arith, ap (λ (x : ℕ). x * c) z, mul-pos w d)

-- x is W units of 2 ^ -149; a / b is x, or its reciprocal
module _ (S a b W : ℕ) (G : Good S a b) (B : 0 < b) (P : 0 < W) where
  near-plus : (x r : Float) → HasValue x false W (2 ^ 149) → HasValue r false (mant S * place S) (2 ^ 149) → ((X D : ℕ) → X * 2 ^ 149 ≡ W * D → a * D ≡ X * b) → NearLn x r
  near-plus nan r h k Q = absurd h
  near-plus (inf s) r h k Q = absurd h
  near-plus (fin true m e) r h k Q = absurd (true≢false h.0)
  near-plus (fin false zero e) r h k Q = absurd (not-zero (0 * up e) W (down e) (2 ^ 149) (omega arith) h.1 P (down_pos e))
  near-plus (fin false (suc m) e) nan h k Q = absurd k
  near-plus (fin false (suc m) e) (inf t) h k Q = absurd k
  near-plus (fin false (suc m) e) (fin true n f) h k Q = absurd (true≢false k.0)
  near-plus (fin false (suc m) e) (fin false n f) h k Q =
      let X = suc m * up e in
      let D = down e in
      let V' = mant S * place S in
      subst (λ (z : ℕ). PowLe (lower false (16 * z) (15 * unit_below z)) (16 * 2 ^ 149) X D × PowGe (upper false (16 * z) (15 * unit z)) (16 * 2 ^ 149) X D) (sym (steps-is (fin false n f) false V' k)) (
        low-plus (16 * V') (15 * unit_below V') (16 * 2 ^ 149) X D (le_of_lt (under S G.from G.fits)) (same-le (16 * V' - 15 * unit_below V') (16 * 2 ^ 149) a b X D B (Q X D h.1) G.low),
        high-plus (16 * V') (15 * unit V') (16 * 2 ^ 149) X D (same-ge (16 * V' + 15 * unit V') (16 * 2 ^ 149) a b X D B (Q X D h.1) G.high),
      )

  near-minus : (x r : Float) → HasValue x false W (2 ^ 149) → HasValue r true (mant S * place S) (2 ^ 149) → ((X D : ℕ) → X * 2 ^ 149 ≡ W * D → a * X ≡ D * b) → NearLn x r
  near-minus nan r h k Q = absurd h
  near-minus (inf s) r h k Q = absurd h
  near-minus (fin true m e) r h k Q = absurd (true≢false h.0)
  near-minus (fin false zero e) r h k Q = absurd (not-zero (0 * up e) W (down e) (2 ^ 149) (omega arith) h.1 P (down_pos e))
  near-minus (fin false (suc m) e) nan h k Q = absurd k
  near-minus (fin false (suc m) e) (inf t) h k Q = absurd k
  near-minus (fin false (suc m) e) (fin false n f) h k Q = absurd (false≢true k.0)
  near-minus (fin false (suc m) e) (fin true n f) h k Q =
      let X = suc m * up e in
      let D = down e in
      let V' = mant S * place S in
      subst (λ (z : ℕ). PowLe (lower true (16 * z) (15 * unit z)) (16 * 2 ^ 149) X D × PowGe (upper true (16 * z) (15 * unit_below z)) (16 * 2 ^ 149) X D) (sym (steps-is (fin true n f) true V' k)) (
        low-minus (16 * V') (15 * unit V') (16 * 2 ^ 149) X D (mul-pos {m = 16} (lit< tt) (v-pos S G.from G.fits)) (same-ge (16 * V' + 15 * unit V') (16 * 2 ^ 149) a b D X B (Q X D h.1) G.high),
        high-minus (16 * V') (15 * unit_below V') (16 * 2 ^ 149) X D (under S G.from G.fits) (same-le (16 * V' - 15 * unit_below V') (16 * 2 ^ 149) a b D X B (Q X D h.1) G.low),
      )

-- ---- above 1: x is m * 2 ^ E / 2 ^ 23
up_cross : (m E W X D : ℕ) → W ≡ m * 2 ^ (E + 126) → X * 2 ^ 149 ≡ W * D → 2 ^ E * m * D ≡ X * (1 * 2 ^ 23)
up_cross m E W X D w e =
    eq_of_mul-eq-mul_right (2 ^ 126) (pow_pos 126) (2 ^ E * m * D) (X * (1 * 2 ^ 23))
    (turn m (2 ^ E) D (2 ^ 126) ∙ sym (ap (λ (y : ℕ). y * D) (w ∙ ap (λ (y : ℕ). m * y) (pow-add 2 E 126))) ∙ sym e ∙ sym (mul_assoc X (2 ^ 23) (2 ^ 126)))
  where
    turn : (m p D c : ℕ) → p * m * D * c ≡ m * (p * c) * D
    turn m p D c = simp (mul_assoc, mul_comm, mul_left_comm)

-- ---- below 1: x is m / (2 ^ E * 2 ^ 23)
down-cross : (m E W X D : ℕ) → W * 2 ^ E ≡ m * 2 ^ 126 → X * 2 ^ 149 ≡ W * D → 2 ^ E * 2 ^ 23 * X ≡ D * (1 * m)
down-cross m E W X D w e =
    eq_of_mul-eq-mul_right (2 ^ 126) (pow_pos 126) (2 ^ E * 2 ^ 23 * X) (D * (1 * m))
    (turn (2 ^ E) (2 ^ 23) X (2 ^ 126) ∙ ap (λ (y : ℕ). 2 ^ E * y) e ∙ turn' (2 ^ E) W D ∙ ap (λ (y : ℕ). D * y) w ∙ sym (mul_assoc D m (2 ^ 126)) ∙ ap (λ (y : ℕ). D * y * 2 ^ 126) (sym (one-mul m)))
  where
    turn : (p a X c : ℕ) → p * a * X * c ≡ p * (X * (a * c))
    turn p a X c = simp (mul_assoc, mul_comm, mul_left_comm)

    turn' : (p W D : ℕ) → p * (W * D) ≡ D * (W * p)
    turn' p W D = simp (mul_assoc, mul_comm, mul_left_comm)

module _ (m : ℕ) (l : 2 ^ 23 ≤ m) (h : m < 2 ^ 24) where
  above-near : (E W : ℕ) (x : Float) → E ≤ 127 → HasValue x false W (2 ^ 149) → W ≡ m * 2 ^ (E + 126) → 2 ^ 23 < m + E → NearLn x (of_bits binary32 (above m E))
  unfolding above
  above-near E W x e hx w n =
      let S = E * ln2 + rest_of m in
      let G = good-up m E l h (le_trans e (lit≤ tt)) n in
      near-plus S (2 ^ E * m) (1 * 2 ^ 23) W G (lit< tt) (subst (λ (y : ℕ). 0 < y) (sym w) (mul-pos (lt_of_lt_of_le (lit< tt) l) (pow_pos (E + 126)))) x (of_bits binary32 (pattern S)) hx
      (subst (λ (t : Bool). HasValue (of_bits binary32 (pattern S)) t (mant S * place S) (2 ^ 149)) (lt-leb (2 ^ 31) (0 * 2 ^ 31 + pattern S) (small (pattern S) (pattern_lt S G.from G.fits))) (packed-value (pattern S) S 0 (none (pattern S)) G.from G.fits))
      (λ X D q. up_cross m E W X D w q)
    where
      small : (p : ℕ) → p < 255 * 2 ^ 23 → 0 * 2 ^ 31 + p < 2 ^ 31
      small p k = omega arith

      none : (p : ℕ) → p ≡ 0 * 2 ^ 31 + p
      none p = omega arith

  below-near : (E W : ℕ) (x : Float) → 1 ≤ E → E ≤ 149 → HasValue x false W (2 ^ 149) → 0 < W → W * 2 ^ E ≡ m * 2 ^ 126 → NearLn x (of_bits binary32 (below m E))
  unfolding below
  below-near E W x f e hx p w =
      let S = E * ln2 - rest_of m in
      let G = good-down m E l h e f in
      near-minus S (2 ^ E * 2 ^ 23) (1 * m) W G (subst (λ (y : ℕ). 0 < y) (sym (one-mul m)) (lt_of_lt_of_le (lit< tt) l)) p x (of_bits binary32 (2 ^ 31 + pattern S)) hx
      (subst (λ (t : Bool). HasValue (of_bits binary32 (2 ^ 31 + pattern S)) t (mant S * place S) (2 ^ 149)) (le-leb (2 ^ 31) (1 * 2 ^ 31 + pattern S) (large (pattern S))) (packed-value (2 ^ 31 + pattern S) S 1 (same (pattern S)) G.from G.fits))
      (λ X D q. down-cross m E W X D w q)
    where
      same : (p : ℕ) → 2 ^ 31 + p ≡ 1 * 2 ^ 31 + p
      same p = omega arith

      large : (p : ℕ) → 2 ^ 31 ≤ 1 * 2 ^ 31 + p
      large p = omega arith

-- ---- the values of x
normal : (b : ℕ) → 2 ^ 23 ≤ b → b < 0x7f80_0000 → HasValue (of_bits binary32 b) false ((2 ^ 23 + b % 2 ^ 23) * 2 ^ (b / 2 ^ 23 - 1)) (2 ^ 149)
normal b l h =
    subst (λ (y : Bool). HasValue (of_bits binary32 b) y ((2 ^ 23 + b % 2 ^ 23) * 2 ^ (b / 2 ^ 23 - 1)) (2 ^ 149)) (lt-leb (2 ^ 31) b (omega arith))
    (value-normal b (b / 2 ^ 23 - 1) (2 ^ 23 + b % 2 ^ 23) (omega arith) (omega arith) (omega arith) (omega arith))

ln-near-up : (b : ℕ) → 0x3f80_0000 < b → b < 0x7f80_0000 → NearLn (of_bits binary32 b) (of_bits binary32 (ln_bits b))
ln-near-up b l h =
    let m = 2 ^ 23 + b % 2 ^ 23 in
    let E = b / 2 ^ 23 - 127 in
    subst (λ (c : ℕ). NearLn (of_bits binary32 b) (of_bits binary32 c)) (sym (ln-up b l h))
    (above-near m (omega arith) (omega arith) E (m * 2 ^ (b / 2 ^ 23 - 1)) (of_bits binary32 b) (omega arith) (normal b (omega arith) h) (ap (λ (x : ℕ). m * 2 ^ x) (omega arith)) (omega arith))

ln-near-down : (b : ℕ) → 2 ^ 23 ≤ b → b < 0x3f80_0000 → NearLn (of_bits binary32 b) (of_bits binary32 (ln_bits b))
ln-near-down b l h =
    let m = 2 ^ 23 + b % 2 ^ 23 in
    let E = 127 - b / 2 ^ 23 in
    let k = b / 2 ^ 23 - 1 in
    let kE : k + E ≡ 126 = omega arith in
    subst (λ (c : ℕ). NearLn (of_bits binary32 b) (of_bits binary32 c)) (sym (ln-down b l h))
    (below-near m (omega arith) (omega arith) E (m * 2 ^ k) (of_bits binary32 b) (omega arith) (omega arith) (normal b l (omega arith)) (mul-pos (lt_of_lt_of_le {m = 2 ^ 23} (lit< tt) (omega arith)) (pow_pos k))
    (mul_assoc m (2 ^ k) (2 ^ E) ∙ ap (λ (x : ℕ). m * x) (sym (pow-add 2 k E) ∙ ap (λ (x : ℕ). 2 ^ x) kE)))

ln-near-deep : (b : ℕ) → 0 < b → b < 2 ^ 23 → NearLn (of_bits binary32 b) (of_bits binary32 (ln_bits b))
ln-near-deep b l h =
    let z = count_leading_zeros 32 b in
    let s = shifted b l h in
    subst (λ (c : ℕ). NearLn (of_bits binary32 b) (of_bits binary32 c)) (sym (ln-deep b l h))
    (below-near (b * 2 ^ (z - 8)) s.least s.below (118 + z) (b % 2 ^ 23 * 1) (of_bits binary32 b) (omega arith) (omega (arith, s.most))
    (subst (λ (y : Bool). HasValue (of_bits binary32 b) y (b % 2 ^ 23 * 1) (2 ^ 149)) (lt-leb (2 ^ 31) b (omega arith)) (subnormal b (omega arith))) (omega arith)
    (ap (λ (x : ℕ). x * 2 ^ (118 + z)) (whole b h) ∙ ap (λ (x : ℕ). b * 2 ^ x) (line z s.zeros) ∙ ap (λ (x : ℕ). b * x) (pow-add 2 (z - 8) 126) ∙ sym (mul_assoc b (2 ^ (z - 8)) (2 ^ 126))))
  where
    whole : (b : ℕ) → b < 2 ^ 23 → b % 2 ^ 23 * 1 ≡ b
    whole b k = omega arith

    line : (z : ℕ) → 8 < z → 118 + z ≡ z - 8 + 126
    line z k = omega arith

-- ---- at 1
low-1 : (b d : ℕ) → 0 < b → PowLe (lower false 0 b) d 1 1
unfolding num full
low-1 b d h = subst (λ (y : Bool). PowLe (cond y (pos (0 - b)) (negsuc (b - 1))) d 1 1) (sym (lt-leb b 0 h)) (0, le_refl 1)

high-1 : (b d : ℕ) → PowGe (upper false 0 b) d 1 1
unfolding num full
high-1 b d = high-plus 0 b d 1 1 (0, le_refl 1)

ln-near-1 : NearLn (of_bits binary32 0x3f80_0000) (of_bits binary32 0)
ln-near-1 =
    subst₂ (λ (x y : Float). NearLn x y) (sym one_f32_is) (sym plus-zero)
    (low-1 (15 * unit_below 0) (16 * 2 ^ 149) (mul-pos {m = 15} (lit< tt) (pow_pos (size (0 - 1) - 24))), high-1 (15 * unit 0) (16 * 2 ^ 149))

-- ---- below 0, at 0, and where x is no number
near_none : (x : Float) (W c : ℕ) → 0 < W → HasValue x true W c → NearLn x nan
near_none nan W c p h = refl
near_none (inf true) W c p h = refl
near_none (inf false) W c p h = absurd h
near_none (fin false m e) W c p h = absurd (false≢true h.0)
near_none (fin true zero e) W c p h = absurd (not-zero (0 * up e) W (down e) c (omega arith) h.1 p (down_pos e))
near_none (fin true (suc m) e) W c p h = refl

-- a finite x below 0
negative : (b : ℕ) → 2 ^ 31 < b → b < 0xff80_0000 → NearLn (of_bits binary32 b) nan
negative b l h =
    split (b % 2 ^ 31) (2 ^ 23)
    (λ k. near_none (of_bits binary32 b) (b % 2 ^ 23 * 1) (2 ^ 149) (omega arith) (subst (λ (y : Bool). HasValue (of_bits binary32 b) y (b % 2 ^ 23 * 1) (2 ^ 149)) (le-leb (2 ^ 31) b (omega arith)) (subnormal b k)))
    (λ k.
    let a = b % 2 ^ 31 in
    let m = 2 ^ 23 + a % 2 ^ 23 in
    let e = a / 2 ^ 23 - 1 in
    near_none (of_bits binary32 b) (m * 2 ^ e) (2 ^ 149) (mul-pos (lt_of_lt_of_le {m = 2 ^ 23} (lit< tt) (omega arith)) (pow_pos e))
    (subst (λ (y : Bool). HasValue (of_bits binary32 b) y (m * 2 ^ e) (2 ^ 149)) (le-leb (2 ^ 31) b (omega arith)) (value-normal b e m (omega arith) (omega arith) (omega arith) (omega arith))))

-- ---- every pattern
none-near : (b : ℕ) → b < 2 ^ 32 → (b % 2 ^ 31 ≡ 0 → ⊥) → 0x7f80_0000 < b → NearLn (of_bits binary32 b) nan
none-near b B z h =
    split 0x7f80_0000 (b % 2 ^ 31)
    (λ k. subst (λ (y : Float). NearLn y nan) (sym (nan_pattern b k)) refl)
    (λ k. split b 0xff80_0000
    (λ l. split (2 ^ 31) b (λ g. negative b g l) (λ g. absurd (z (omega arith))))
    (λ l. subst (λ (y : Float). NearLn y nan) (sym (ap (of_bits binary32) (last l k) ∙ minus-inf)) refl))
  where
    last : 0xff80_0000 ≤ b → b % 2 ^ 31 ≤ 0x7f80_0000 → b ≡ 0xff80_0000
    last l k = omega (arith, B)

near-bits : (b : ℕ) → b < 2 ^ 32 → NearLn (of_bits binary32 b) (of_bits binary32 (ln_bits b))
near-bits b B =
    split 0 (b % 2 ^ 31)
    (λ (p : 0 < b % 2 ^ 31). split 0x7f80_0000 b
    (λ h. subst (λ (y : Float). NearLn (of_bits binary32 b) y) (sym (ap (of_bits binary32) (ln-none b (λ (e : b % 2 ^ 31 ≡ 0). omega arith) h) ∙ the-nan)) (none-near b B (λ (e : b % 2 ^ 31 ≡ 0). omega arith) h))
    (λ h. split b 0x7f80_0000 (λ g. finite p g)
    (λ g. let e : b ≡ 0x7f80_0000 = omega arith in subst₂ (λ (x y : Float). NearLn x y) (sym (ap (of_bits binary32) e ∙ an-inf)) (sym (ap (of_bits binary32) (ln-inf b e) ∙ an-inf)) refl)))
    (λ z. subst (λ (y : Float). NearLn (of_bits binary32 b) y) (sym (ap (of_bits binary32) (ln-zero b (omega arith)) ∙ minus-inf)) (zeros z))
  where
    zeros : b % 2 ^ 31 ≤ 0 → NearLn (of_bits binary32 b) (inf true)
    zeros z =
        split b 1
        (λ l. subst (λ (y : Float). NearLn y (inf true)) (sym (ap (of_bits binary32) (first l) ∙ plus-zero)) refl)
        (λ l. subst (λ (y : Float). NearLn y (inf true)) (sym (ap (of_bits binary32) (second l z) ∙ minus-zero)) refl)
      where
        first : b < 1 → b ≡ 0
        first l = omega arith

        second : 1 ≤ b → b % 2 ^ 31 ≤ 0 → b ≡ 2 ^ 31
        second l z = omega (arith, B)

    finite : 0 < b % 2 ^ 31 → b < 0x7f80_0000 → NearLn (of_bits binary32 b) (of_bits binary32 (ln_bits b))
    finite p h =
        split b (2 ^ 23)
        (λ k. ln-near-deep b (omega arith) k)
        (λ k. split b 0x3f80_0000
        (λ l. ln-near-down b k l)
        (λ l. split 0x3f80_0000 b (λ g. ln-near-up b g h)
        (λ g. let e : b ≡ 0x3f80_0000 = omega arith in subst₂ (λ (x y : ℕ). NearLn (of_bits binary32 x) (of_bits binary32 y)) (sym e) (sym (ln-1 b e)) ln-near-1)))

ln_of-is : (x : Float) → ln_of x ≡ of_bits binary32 (ln_bits (to_bits binary32 x))
unfolding ln_of
ln_of-is x = refl

pub ln-near : LnNear
ln-near x F = subst₂ (λ (y z : Float). NearLn y z) (of_bits-to_bits binary32 x F) (sym (ln_of-is x)) (near-bits (to_bits binary32 x) (to_bits-lt binary32 x F))
