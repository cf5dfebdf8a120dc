-- `rest_of m` bounds ln (m / 2 ^ 23): the table's entry bounds ln c for the nearest eighth c, and `twice_of` the logarithm of m / c or c / m.
use mathlib.Core.Path.{◌≡◌, sym, ap, subst}
use mathlib.Core.Bool.{Bool}
use Prim.Native.Nat.{ℕ, zero, suc, ◌+◌, ◌-◌, ◌*◌, ◌^◌, ◌≤◌, ◌<◌}
use native.Mathlib.Nat.{le_trans, le_of_eq, le_refl, sub-add_cancel, pow-suc}
use native.Mathlib.Omega.{arith}
use lib.Dec.{leb, leb→le, lit<}
use lib.Pow.{pow_pos}
use lib.ListN.{get_or}
use Rattle.series.specs.Series.{full, num}
use Rattle.cases.proofs.Entries.{entry}
use Rattle.series.proofs.Exponential.{ok, tested}
use Rattle.exponential.specs.Tables.{ln2}
use Rattle.logarithm.specs.Tables.{eighths}
use Rattle.logarithm.specs.Ln.{twice_of, index, centre, rest_of}
use Rattle.logarithm.proofs.LnRange as range
use Rattle.series.specs.Series.{ExpLe, ExpGe}
use Rattle.exponential_bounds.proofs.Exponents.{enc-le, enc-ge, zero-le, le-times, ge-times, le-over, ge-over, same-le, same-ge}
use Rattle.exponential_bounds.proofs.Twice.{give, twice-le, twice-ge}

-- ---- the table: an entry y is ln (1 + i / 8) cut off
below : ℕ → ℕ → Bool
unfolding ok
below i y = ok y (2 ^ 56) 0 (8 + i) 8 25

beyond : ℕ → ℕ → Bool
unfolding ok
beyond i y = ok (y + 1) (2 ^ 56) (8 + i) (2 * (8 + i)) 8 25

pub eighth-le : (i : ℕ) → i < 9 → ExpLe (get_or eighths i 0) (2 ^ 56) (8 + i) 8
unfolding below eighths num full ok
eighth-le i h = enc-le (get_or eighths i 0) (2 ^ 56) 0 (8 + i) 8 (tested (get_or eighths i 0) (2 ^ 56) 0 (8 + i) 8 25 (lit< tt) (entry below eighths tt i h))

pub eighth-ge : (i : ℕ) → i < 9 → ExpGe (get_or eighths i 0 + 1) (2 ^ 56) (8 + i) 8
unfolding beyond eighths num full ok
eighth-ge i h = enc-ge (get_or eighths i 0 + 1) (2 ^ 56) (8 + i) (2 * (8 + i)) 8 (tested (get_or eighths i 0 + 1) (2 ^ 56) (8 + i) (2 * (8 + i)) 8 25 (lit< tt) (entry beyond eighths tt i h))

-- the entries above 0 are at least the first of them
first : ℕ → ℕ → Bool
first i y = leb (8487162167882469 * (1 - (1 - i))) y

pub eighth-first : (i : ℕ) → i < 9 → 8487162167882469 * (1 - (1 - i)) ≤ get_or eighths i 0
unfolding first eighths
eighth-first i h = leb→le (8487162167882469 * (1 - (1 - i))) (get_or eighths i 0) (entry first eighths tt i h)

-- ---- exponents low and high, at most δ and δ + 1 from r
pub record Near (r δ v w : ℕ) : Type 0 where
  pub low : ℕ
  pub high : ℕ
  pub low-is : ExpLe low (2 ^ 56) v w
  pub high_is : ExpGe high (2 ^ 56) v w
  pub low-le : low ≤ r
  pub low_near : r ≤ low + δ
  pub high-near : high ≤ r + δ + 1

module _ (m : ℕ) (from : 2 ^ 23 ≤ m) (to : m < 2 ^ 24) where
  abbrev i : ℕ
  i = index m

  abbrev c : ℕ
  c = centre m

  abbrev y : ℕ
  y = get_or eighths i 0

  I : i < 9
  I = range.index-le m from to

  -- above the nearest eighth
  module _ (h : c ≤ m) where
    abbrev pub up : ℕ
    up = twice_of (m - c) (m + c)

    sum-up : m + c ≡ m - c + 2 * c
    sum-up = omega arith

    product-up : (8 + i) * (m + c + (m - c)) * 2 ^ 23 ≡ m * (8 * (2 * c))
    product-up = go (8 + i) (m - c) (omega arith)
      where
        go : (t n : ℕ) → n + t * 2 ^ 20 ≡ m → t * (m + t * 2 ^ 20 + n) * 2 ^ 23 ≡ m * (8 * (2 * (t * 2 ^ 20)))
        go t n p = omega (arith, ap (λ (x : ℕ). t * x) p)

    up_le : ExpLe (up - give up) (2 ^ 56) (m + c + (m - c)) (2 * c)
    up_le = twice-le (m - c) (m + c) (2 * c) sum-up (range.up-near m from to) (range.sum-ge m from to) (range.sum_lt m from to)

    up-ge : ExpGe (up + give up) (2 ^ 56) (m + c + (m - c)) (2 * c)
    up-ge = twice-ge (m - c) (m + c) (2 * c) sum-up (range.up-near m from to) (range.sum-ge m from to) (range.sum_lt m from to)

    pos-up : 0 < 8 * (2 * c)
    pos-up = omega arith

    pub rest_up : Near (rest_of m) (give up) m (2 ^ 23)
    rest_up =
        record {
          low = y + (up - give up);
          high = y + 1 + (up + give up);
          low-is = same-le (y + (up - give up)) (2 ^ 56) ((8 + i) * (m + c + (m - c))) (8 * (2 * c)) m (2 ^ 23) pos-up product-up (le-times y (up - give up) (2 ^ 56) (pow_pos 56) (8 + i) 8 (m + c + (m - c)) (2 * c) (eighth-le i I) up_le);
          high_is = same-ge (y + 1 + (up + give up)) (2 ^ 56) ((8 + i) * (m + c + (m - c))) (8 * (2 * c)) m (2 ^ 23) pos-up product-up (ge-times (y + 1) (up + give up) (2 ^ 56) (pow_pos 56) (8 + i) 8 (m + c + (m - c)) (2 * c) (eighth-ge i I) up-ge);
          low-le = le_trans (under y up (give up)) (le_of_eq (sym (range.rest_up m from to h)));
          low_near = le_trans (le_of_eq (range.rest_up m from to h)) (less y up (give up));
          high-near = subst (λ (x : ℕ). y + 1 + (up + give up) ≤ x + give up + 1) (sym (range.rest_up m from to h)) (more y up (give up));
        }
      where
        under : (y a g : ℕ) → y + (a - g) ≤ y + a
        under y a g = omega arith

        less : (y a g : ℕ) → y + a ≤ y + (a - g) + g
        less y a g = omega arith

        more : (y a g : ℕ) → y + 1 + (a + g) ≤ y + a + g + 1
        more y a g = omega arith

  -- below it
  module _ (h : m < c) where
    abbrev pub down : ℕ
    down = twice_of (c - m) (m + c)

    sum-down : m + c ≡ c - m + 2 * m
    sum-down = omega arith

    product-down : (8 + i) * (2 * m) * 2 ^ 23 ≡ m * (8 * (m + c + (c - m)))
    product-down = go (8 + i) (c - m) (omega arith)
      where
        go : (t n : ℕ) → n + m ≡ t * 2 ^ 20 → t * (2 * m) * 2 ^ 23 ≡ m * (8 * (m + t * 2 ^ 20 + n))
        go t n p = omega (arith, ap (λ (x : ℕ). m * x) p)

    down_le : ExpLe (down - give down) (2 ^ 56) (m + c + (c - m)) (2 * m)
    down_le = twice-le (c - m) (m + c) (2 * m) sum-down (range.down-near m from to) (range.sum-ge m from to) (range.sum_lt m from to)

    down-ge : ExpGe (down + give down) (2 ^ 56) (m + c + (c - m)) (2 * m)
    down-ge = twice-ge (c - m) (m + c) (2 * m) sum-down (range.down-near m from to) (range.sum-ge m from to) (range.sum_lt m from to)

    pos-down : 0 < 8 * (m + c + (c - m))
    pos-down = omega arith

    fewer : down + give down ≤ y
    fewer = go down y i (range.down_le m from to) (range.down-index m from to h) (eighth-first i I)
      where
        go : (a y i : ℕ) → a ≤ 2 ^ 52 + 2 ^ 42 → 1 ≤ i → 8487162167882469 * (1 - (1 - i)) ≤ y → a + give a ≤ y
        go a y i p q r = omega arith

    fewer' : down - give down ≤ y + 1
    fewer' = go down (give down) y fewer
      where
        go : (a g y : ℕ) → a + g ≤ y → a - g ≤ y + 1
        go a g y p = omega arith

    pub rest-down : Near (rest_of m) (give down) m (2 ^ 23)
    rest-down =
        record {
          low = y - (down + give down);
          high = y + 1 - (down - give down);
          low-is = same-le (y - (down + give down)) (2 ^ 56) ((8 + i) * (2 * m)) (8 * (m + c + (c - m))) m (2 ^ 23) pos-down product-down (le-over (y - (down + give down)) (down + give down) (2 ^ 56) (pow_pos 56) (8 + i) 8 (m + c + (c - m)) (2 * m) (subst (λ (x : ℕ). ExpLe x (2 ^ 56) (8 + i) 8) (sym (sub-add_cancel fewer)) (eighth-le i I)) down-ge);
          high_is = same-ge (y + 1 - (down - give down)) (2 ^ 56) ((8 + i) * (2 * m)) (8 * (m + c + (c - m))) m (2 ^ 23) pos-down product-down (ge-over (y + 1 - (down - give down)) (down - give down) (2 ^ 56) (pow_pos 56) (8 + i) 8 (m + c + (c - m)) (2 * m) (subst (λ (x : ℕ). ExpGe x (2 ^ 56) (8 + i) 8) (sym (sub-add_cancel fewer')) (eighth-ge i I)) down_le);
          low-le = le_trans (under y down (give down)) (le_of_eq (sym (range.rest-down m from to h)));
          low_near = le_trans (le_of_eq (range.rest-down m from to h)) (less y down (give down));
          high-near = subst (λ (x : ℕ). y + 1 - (down - give down) ≤ x + give down + 1) (sym (range.rest-down m from to h)) (more y down (give down) fewer);
        }
      where
        under : (y a g : ℕ) → y - (a + g) ≤ y - a
        under y a g = omega arith

        less : (y a g : ℕ) → y - a ≤ y - (a + g) + g
        less y a g = omega arith

        more : (y a g : ℕ) → a + g ≤ y → y + 1 - (a - g) ≤ y - a + g + 1
        more y a g p = omega arith

-- ---- powers of two
two-le : ExpLe ln2 (2 ^ 56) 2 1
unfolding ok num full
two-le = enc-le ln2 (2 ^ 56) 0 2 1 (tested ln2 (2 ^ 56) 0 2 1 25 (lit< tt) tt)

two-ge : ExpGe (ln2 + 1) (2 ^ 56) 2 1
unfolding ok num full
two-ge = enc-ge (ln2 + 1) (2 ^ 56) 2 4 1 (tested (ln2 + 1) (2 ^ 56) 2 4 1 25 (lit< tt) tt)

pub power_le : (E : ℕ) → ExpLe (E * ln2) (2 ^ 56) (2 ^ E) 1
power_le zero = zero-le (2 ^ 56)
power_le (suc E) =
    subst (λ (x : ℕ). ExpLe x (2 ^ 56) (2 ^ suc E) 1) (line E)
    (same-le (E * ln2 + ln2) (2 ^ 56) (2 ^ E * 2) (1 * 1) (2 ^ suc E) 1 (lit< tt) (ap (λ (x : ℕ). x * 1) (sym (pow-suc 2 E))) (le-times (E * ln2) ln2 (2 ^ 56) (pow_pos 56) (2 ^ E) 1 2 1 (power_le E) two-le))
  where
    line : (E : ℕ) → E * ln2 + ln2 ≡ suc E * ln2
    line E = omega arith

zero-ge : (d : ℕ) → ExpGe 0 d 1 1
unfolding num full
zero-ge d = (0, le_refl 1)

pub power-ge : (E : ℕ) → ExpGe (E * (ln2 + 1)) (2 ^ 56) (2 ^ E) 1
power-ge zero = zero-ge (2 ^ 56)
power-ge (suc E) =
    subst (λ (x : ℕ). ExpGe x (2 ^ 56) (2 ^ suc E) 1) (line E)
    (same-ge (E * (ln2 + 1) + (ln2 + 1)) (2 ^ 56) (2 ^ E * 2) (1 * 1) (2 ^ suc E) 1 (lit< tt) (ap (λ (x : ℕ). x * 1) (sym (pow-suc 2 E))) (ge-times (E * (ln2 + 1)) (ln2 + 1) (2 ^ 56) (pow_pos 56) (2 ^ E) 1 2 1 (power-ge E) two-ge))
  where
    line : (E : ℕ) → E * (ln2 + 1) + (ln2 + 1) ≡ suc E * (ln2 + 1)
    line E = omega arith
