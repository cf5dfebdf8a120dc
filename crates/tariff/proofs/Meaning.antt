-- Each test of the definition holds where its meaning does, and only there.
use mathlib.Core.Bool.{Bool, true, false, cond, ◌&&◌}
use mathlib.Core.List.{List, [], ◌∷◌}
use mathlib.Core.Path.{◌≡◌, refl, ap, sym}
use Prim.Native.Nat.{ℕ, zero, suc, ◌+◌, ◌*◌, ◌/◌, ◌%◌, ◌≤◌, ◌<◌}
use native.Mathlib.Nat.{le_antisymm, mul-le-mul}
use native.Mathlib.Numerals.{add-one, one-add}
use native.Mathlib.Omega.{arith}
use borrow.Author.Tests.{leb-true, leb-false, ltb-true, le-leb, lt-leb, lt-ltb, eqb-true, eqb-false, eq-eqb}
use lib.Dec.{eqb, leb, ltb}
use lib.Ieee.{Float}
use lib.ListN.{length, get_or}
use Rattle.std.specs.Prelude.{Ok, Err}
use Rattle.std.specs.Option.{ok_or}
use Rattle.std.specs.Int.{div_ceil}
use Rattle.std.specs.List.{list_all, position_or_len, IsAllAdjacentAnswer}
use Rattle.std.proofs.Math.Bool.{and-false}
use Rattle.std.proofs.lemmas.Bool.{and_parts}
use Rattle.std.proofs.lemmas.Bool.Decides.{nat_tests}
use Rattle.std.proofs.lemmas.List.Recursion.{same_from_clauses, is_position_or_len}
use Rattle.refusal.specs.declared.Refusal.{Refusal}
use Rattle.figures.specs.Figure.{figure_of}
use Rattle.figures.specs.declared.Printed.{Printed}
use Rattle.tariff.specs.Price.{within, rising, tariff_good, first_band, band_of, rounded_up, figure_price, printed_price, price_of}
use Rattle.tariff.specs.Meaning.{Described, TariffRule, FirstBand, BandRule, LeastCents, CentsRule, Priced, OnlySeconds, PriceRule}

-- ---- the lists

pub within-is : (most : ℕ) (xs : List ℕ) → within most xs ≡ true → (i : ℕ) → i < length xs → get_or xs i 0 ≤ most
unfolding within
within-is most [] t i h = absurd (omega arith)
within-is most (x ∷ xs) t zero h = leb-true x most (and_parts _ _ t).0
within-is most (x ∷ xs) t (suc i) h = within-is most xs (and_parts (leb x most) _ t).1 i (omega arith)

pub within-only : (most : ℕ) (xs : List ℕ) → ((i : ℕ) → i < length xs → get_or xs i 0 ≤ most) → within most xs ≡ true
unfolding within
within-only most [] f = refl
within-only most (x ∷ xs) f = rw (le-leb x most (f 0 (omega arith)), within-only most xs (λ i h. f (suc i) (omega arith)))

pub rising-is : (xs : List ℕ) → rising xs ≡ true → (i : ℕ) → suc i < length xs → get_or xs i 0 < get_or xs (suc i) 0
unfolding rising
rising-is [] t i h = absurd (omega arith)
rising-is (x ∷ []) t i h = absurd (omega arith)
rising-is (x ∷ y ∷ ys) t zero h = ltb-true x y (and_parts _ _ t).0
rising-is (x ∷ y ∷ ys) t (suc i) h = rising-is (y ∷ ys) (and_parts (ltb x y) _ t).1 i (omega arith)

pub rising-only : (xs : List ℕ) → ((i : ℕ) → suc i < length xs → get_or xs i 0 < get_or xs (suc i) 0) → rising xs ≡ true
unfolding rising
rising-only [] f = refl
rising-only (x ∷ []) f = refl
rising-only (x ∷ y ∷ ys) f = rw (lt-ltb x y (f 0 (omega arith)), rising-only (y ∷ ys) (λ i h. f (suc i) (omega arith)))

-- the library's answers
pub within-all : (most : ℕ) (xs : List ℕ) → list_all (λ x. leb x most) xs ≡ within most xs
unfolding within
within-all most xs = same_from_clauses (list_all (λ x. leb x most)) (within most) (λ x b. leb x most && b) refl (λ _ _. refl) (λ _ _. refl) xs

pub rising-not : (xs : List ℕ) (i : ℕ) → suc i < length xs → ltb (get_or xs i 0) (get_or xs (suc i) 0) ≡ false → rising xs ≡ false
unfolding rising
rising-not [] i h t = absurd (omega arith)
rising-not (x ∷ []) i h t = absurd (omega arith)
rising-not (x ∷ y ∷ ys) zero h t = rw t
rising-not (x ∷ y ∷ ys) (suc i) h t = rw (rising-not (y ∷ ys) i (omega arith) t, and-false)

pub rising-by : (xs : List ℕ) (r : Bool) → IsAllAdjacentAnswer (λ x y b. b ≡ ltb x y) xs r → r ≡ rising xs
rising-by xs true h = sym (rising-only xs (λ i l. let t : ltb (get_or xs i 0) (get_or xs (i + 1) 0) ≡ true = sym (h i 0 (omega arith)) in ltb-true _ _ (rw (add-one i) at t)))
rising-by xs false h = let t : ltb (get_or xs h.0 0) (get_or xs (h.0 + 1) 0) ≡ false = sym (h.2 0) in sym (rising-not xs h.0 (let l = h.1 in omega arith) (rw (add-one h.0) at t))

-- ---- the band

pub first-position : (n : ℕ) (tops : List ℕ) → first_band n tops ≡ position_or_len (λ top. leb n top) tops
unfolding first_band
first-position n tops = is_position_or_len (first_band n) (λ top. leb n top) refl (λ _ tops. rw (sym (one-add (first_band n tops)))) tops

-- the band found is one of the tariff's, and the first
pub band-in : (n : ℕ) (tops : List ℕ) (band : ℕ) (r : Refusal) → Ok band ≡ ok_or (band_of n tops) r → (band < length tops) × (band ≡ first_band n tops)
band-in n tops band r e = grind (arith, nat_tests)

pub no-band : (n : ℕ) (tops : List ℕ) (r s : Refusal) → Err s ≡ ok_or (band_of n tops) r → (s ≡ r) × (ltb (first_band n tops) (length tops) ≡ false)
no-band n tops r s e = grind (arith, nat_tests)

pub first-is : (n : ℕ) (tops : List ℕ) → first_band n tops < length tops → FirstBand n tops (first_band n tops)
unfolding first_band
first-is n [] h = absurd (omega arith)
first-is n (top ∷ tops) h = by (leb n top) refl h (first-is n tops)
  where
    by : (b : Bool) → leb n top ≡ b → cond b 0 (suc (first_band n tops)) < suc (length tops) → (first_band n tops < length tops → FirstBand n tops (first_band n tops)) → FirstBand n (top ∷ tops) (cond b 0 (suc (first_band n tops)))
    by true e h k = record { among = omega arith; reaches = leb-true n top e; before = λ i l. absurd (omega arith) }
    by false e h k = let f = k (omega arith) in record { among = omega arith; reaches = f.reaches; before = earlier f }
      where
        earlier : FirstBand n tops (first_band n tops) → (i : ℕ) → i < suc (first_band n tops) → get_or (top ∷ tops) i 0 < n
        earlier f zero l = leb-false n top e
        earlier f (suc i) l = f.before i (omega arith)

pub first-only : (n : ℕ) (tops : List ℕ) (band : ℕ) → FirstBand n tops band → band ≡ first_band n tops
unfolding first_band
first-only n [] band f = absurd (let l = f.among in omega arith)
first-only n (top ∷ tops) zero f = rw (le-leb n top f.reaches)
first-only n (top ∷ tops) (suc band) f =
    rw (lt-leb n top (f.before 0 (omega arith)))
    (ap suc (first-only n tops band (record { among = let l = f.among in omega arith; reaches = f.reaches; before = λ i l. f.before (suc i) (omega arith) })))

pub band-rule : BandRule
band-rule = record { is = first-is; only = first-only }

-- ---- the cents

above : (x : ℕ) → (x ≡ 0 → ⊥) → 0 < x
above zero f = absurd (f refl)
above (suc x) f = omega arith

pub least-is : (n : ℕ) → LeastCents n (rounded_up n)
unfolding rounded_up
least-is n = by (eqb (n % 60) 0) refl
  where
    by : (b : Bool) → eqb (n % 60) 0 ≡ b → LeastCents n (cond b (n / 60) (n / 60 + 1))
    by true e = let z = eqb-true (n % 60) 0 e in record { reaches = omega arith; least = λ k h. omega arith }
    by false e = record { reaches = omega arith; least = λ k h. omega (arith, more k h) }
      where
        more : (k : ℕ) → n ≤ 60 * k → n / 60 < k
        more k h = let r = above (n % 60) (eqb-false (n % 60) 0 e) in omega arith

pub least-only : (n c : ℕ) → LeastCents n c → c ≡ rounded_up n
least-only n c l = le_antisymm (l.least _ (least-is n).reaches) ((least-is n).least c l.reaches)

pub cents-rule : CentsRule
cents-rule = record { is = least-is; only = least-only }

pub rounded-by : (n : ℕ) → div_ceil n 60 ≡ rounded_up n
unfolding rounded_up
rounded-by n = grind (arith, nat_tests)

-- ---- the tariff

pub described : (tops rates : List ℕ) → tariff_good tops rates ≡ true → Described tops rates
unfolding tariff_good
described tops rates t =
    let a = (and_parts (eqb (length tops) (length rates)) _ t).1 in
    let b = (and_parts (leb 1 (length tops)) _ a).1 in
    let c = (and_parts (leb (length tops) 16) _ b).1 in
    let d = (and_parts (within 9999 tops) _ c).1 in
    record { paired = eqb-true (length tops) (length rates) (and_parts _ _ t).0; some = leb-true 1 (length tops) (and_parts _ _ a).0; few = leb-true (length tops) 16 (and_parts _ _ b).0; top = within-is 9999 tops (and_parts _ _ c).0; rises = λ i h. rw (add-one i) (rising-is tops (and_parts _ _ d).0 i (omega arith)); rate = within-is 10000 rates (and_parts (rising tops) _ d).1 }

good-by : (tops rates : List ℕ) → Described tops rates → tariff_good tops rates ≡ true
unfolding tariff_good
good-by tops rates d =
    rw (eq-eqb (length tops) (length rates) d.paired, le-leb 1 (length tops) d.some, le-leb (length tops) 16 d.few, within-only 9999 tops d.top, rising-only tops (λ i h. rw (add-one i) at (d.rises i (omega arith))), within-only 10000 rates d.rate)

pub tariff-rule : TariffRule
tariff-rule = record { is = described; only = good-by }

-- a band's rate stands beside its top, and its product with the seconds is bounded
pub rate-at : (tops rates : List ℕ) (band : ℕ) → tariff_good tops rates ≡ true → band < length tops → band < length rates
rate-at tops rates band t h = let e = (described tops rates t).paired in omega arith

pub product-most : (tops rates : List ℕ) (band seconds : ℕ) → tariff_good tops rates ≡ true → band < length tops → seconds ≤ 86400 → get_or rates band 0 * seconds ≤ 864000000
product-most tops rates band seconds t h l = mul-le-mul ((described tops rates t).rate band (rate-at tops rates band t h)) l

-- ---- the price

answered : (n : ℕ) (tops rates : List ℕ) (seconds c : ℕ) → figure_price n tops rates seconds ≡ Ok c → (first_band n tops < length tops) × (1 ≤ seconds) × (seconds ≤ 86400) × (rounded_up (get_or rates (first_band n tops) 0 * seconds) ≡ c)
unfolding figure_price
answered n tops rates seconds c e = by (ltb (first_band n tops) (length tops)) (leb 1 seconds) (leb seconds 86400) refl refl refl e
  where
    by : (b s t : Bool) → ltb (first_band n tops) (length tops) ≡ b → leb 1 seconds ≡ s → leb seconds 86400 ≡ t
        → cond b (cond (s && t) (Ok (rounded_up (get_or rates (first_band n tops) 0 * seconds))) (Err Refusal.Seconds)) (Err Refusal.Tariff) ≡ Ok c
        → (first_band n tops < length tops) × (1 ≤ seconds) × (seconds ≤ 86400) × (rounded_up (get_or rates (first_band n tops) 0 * seconds) ≡ c)
    by true true true p q r e = (ltb-true _ _ p, leb-true _ _ q, leb-true _ _ r, cc)
    by true true false p q r e = absurd (let z : ◌≡◌ {A = ℕ} 0 1 = cc in omega arith)
    by true false t p q r e = absurd (let z : ◌≡◌ {A = ℕ} 0 1 = cc in omega arith)
    by false s t p q r e = absurd (let z : ◌≡◌ {A = ℕ} 0 1 = cc in omega arith)

priced : (muf : Float) (tops rates : List ℕ) (seconds c : ℕ) → price_of muf tops rates seconds ≡ Ok c → Priced muf tops rates seconds c
unfolding price_of
priced muf tops rates seconds c e = by (tariff_good tops rates) (figure_of muf) refl refl e
  where
    by : (b : Bool) (p : Printed) → tariff_good tops rates ≡ b → figure_of muf ≡ p → cond b (printed_price p tops rates seconds) (Err Refusal.Tariff) ≡ Ok c → Priced muf tops rates seconds c
    by true (Printed.Tenths n) t f e = let a = answered n tops rates seconds c e in record { tariff = described tops rates t; tenths = n; printed = f; band = first_band n tops; first = first-is n tops a.0; started = a.1; ended = a.2; cents = rw (← a.3) (least-is _) }
    by true (Printed.Minus n) t f e = absurd (let z : ◌≡◌ {A = ℕ} 0 1 = cc in omega arith)
    by true Printed.Stars t f e = absurd (let z : ◌≡◌ {A = ℕ} 0 1 = cc in omega arith)
    by true Printed.Infinite t f e = absurd (let z : ◌≡◌ {A = ℕ} 0 1 = cc in omega arith)
    by true Printed.NotANumber t f e = absurd (let z : ◌≡◌ {A = ℕ} 0 1 = cc in omega arith)
    by false p t f e = absurd (let z : ◌≡◌ {A = ℕ} 0 1 = cc in omega arith)

answers : (muf : Float) (tops rates : List ℕ) (seconds c : ℕ) → Priced muf tops rates seconds c → price_of muf tops rates seconds ≡ Ok c
unfolding price_of figure_price
answers muf tops rates seconds c p =
    let b = first-only _ tops _ p.first in
    let l : first_band p.tenths tops < length tops = rw b at p.first.among in
    let k : LeastCents (get_or rates (first_band p.tenths tops) 0 * seconds) c = rw b at p.cents in
    rw (good-by tops rates p.tariff, p.printed, lt-ltb _ _ l, le-leb _ _ p.started, le-leb _ _ p.ended, ← least-only _ c k)

most : (muf : Float) (tops rates : List ℕ) (seconds c : ℕ) → price_of muf tops rates seconds ≡ Ok c → c ≤ 14400000
most muf tops rates seconds c e =
    let p = priced muf tops rates seconds c e in
    p.cents.least 14400000 (product-most tops rates p.band seconds (good-by tops rates p.tariff) p.first.among p.ended)

late : (n : ℕ) (tops rates : List ℕ) (seconds : ℕ) → figure_price n tops rates seconds ≡ Err Refusal.Seconds → (first_band n tops < length tops) × (1 ≤ seconds → seconds ≤ 86400 → ⊥)
unfolding figure_price
late n tops rates seconds e = by (ltb (first_band n tops) (length tops)) (leb 1 seconds) (leb seconds 86400) refl refl refl e
  where
    by : (b s t : Bool) → ltb (first_band n tops) (length tops) ≡ b → leb 1 seconds ≡ s → leb seconds 86400 ≡ t
        → cond b (cond (s && t) (Ok (rounded_up (get_or rates (first_band n tops) 0 * seconds))) (Err Refusal.Seconds)) (Err Refusal.Tariff) ≡ Err Refusal.Seconds
        → (first_band n tops < length tops) × (1 ≤ seconds → seconds ≤ 86400 → ⊥)
    by true true true p q r e = absurd (let z : ◌≡◌ {A = ℕ} 0 1 = cc in omega arith)
    by true true false p q r e = (ltb-true _ _ p, λ x y. let l = leb-false seconds 86400 r in omega arith)
    by true false t p q r e = (ltb-true _ _ p, λ x y. let l = leb-false 1 seconds q in omega arith)
    by false s t p q r e = absurd (let z : ◌≡◌ {A = ℕ} 0 1 = cc in omega arith)

only-seconds : (muf : Float) (tops rates : List ℕ) (seconds : ℕ) → price_of muf tops rates seconds ≡ Err Refusal.Seconds → OnlySeconds muf tops rates seconds
unfolding price_of
only-seconds muf tops rates seconds e = by (tariff_good tops rates) (figure_of muf) refl refl e
  where
    by : (b : Bool) (p : Printed) → tariff_good tops rates ≡ b → figure_of muf ≡ p → cond b (printed_price p tops rates seconds) (Err Refusal.Tariff) ≡ Err Refusal.Seconds → OnlySeconds muf tops rates seconds
    by true (Printed.Tenths n) t f e = let a = late n tops rates seconds e in record { tariff = described tops rates t; tenths = n; printed = f; band = first_band n tops; first = first-is n tops a.0; outside = a.1 }
    by true (Printed.Minus n) t f e = absurd (let z : ◌≡◌ {A = ℕ} 0 1 = cc in omega arith)
    by true Printed.Stars t f e = absurd (let z : ◌≡◌ {A = ℕ} 0 1 = cc in omega arith)
    by true Printed.Infinite t f e = absurd (let z : ◌≡◌ {A = ℕ} 0 1 = cc in omega arith)
    by true Printed.NotANumber t f e = absurd (let z : ◌≡◌ {A = ℕ} 0 1 = cc in omega arith)
    by false p t f e = absurd (let z : ◌≡◌ {A = ℕ} 0 1 = cc in omega arith)

pub price-rule : PriceRule
price-rule = record { is = priced; only = answers; most = most; sixteen = only-seconds }
