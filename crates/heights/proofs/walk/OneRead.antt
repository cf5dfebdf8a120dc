-- One read on a rising profile, from any cursor that is not above the count of its height, is the scan's, and leaves the cursor at the count. Infinite heights, infinite and NaN reads included: on a
-- segment that rises the tests on differences are comparisons, and the scan stops at the first segment whose upper end is above the read, which is where the cursor stops.
use mathlib.Core.Path.{◌≡◌, refl, sym, ap, ◌∙◌, subst}
use mathlib.Core.Logic.{inl, inr}
use mathlib.Core.Bool.{Bool, true, false, not, cond, ◌&&◌}
use mathlib.Core.List.{List}
use Prim.Native.Nat.{ℕ, zero, suc, ◌+◌, ◌-◌, ◌≤◌, ◌<◌, zero-le}
use native.Mathlib.Nat.{le_trans, le_of_eq, le_refl, eq-or-lt_of_le}
use native.Mathlib.Omega.{arith}
use lib.Dec.{T, ltb, lt→ltb, not_T}
use lib.Ieee.{Float, nan, inf, fin, binary32, lt, le, fits, sub}
use lib.Ieee.Bits.{is_true, is_false}
use lib.Ieee.Fits.{and_l, and_i}
use Rattle.scalar.specs.F32.{◌-f◌, at}
use Rattle.scalar.specs.Literals.{f0}
use Rattle.order.proofs.Tests.{nought-is, sub-lt, sub-le, same_inf}
use Rattle.std.proofs.lemmas.Float.{le_of_lt, lt_of_le_of_lt, lt_of_lt_of_le, lt_of_not-le, lt_irrefl, le_right}
use borrow.Author.Tests.{ltb-false}
use Rattle.readings.specs.Scan.{segment_number, interpolated, segment_of, or_on, scan_from, reading_by, reading_of}
use Rattle.readings.specs.Cursor.{count_of, stopped_by, stopped_at, read_on_by, read_on_of}
use Rattle.std.specs.Prelude.{Option, Some, None}
use Rattle.readings.specs.declared.Reading.{Reading}
use Rattle.readings.specs.declared.Reading.TheVariants.{Floor, Top}
use Rattle.readings.specs.declared.Read.{Read}
use Rattle.heights.specs.Walk.{EachF32, Rising, scanned_read}
use Rattle.heights.proofs.walk.Cursor.{Stops, count-stops, climb-finds}

-- ---- the tests on differences, at f32
pub less : (x y : Float) → T (fits binary32 x) → T (fits binary32 y) → lt (x -f y) f0 ≡ lt x y
less x y p q = ap (λ (o : Float). lt (sub binary32 x y) o) nought-is ∙ sub-lt binary32 x y p q

pub upto : (x y : Float) → T (fits binary32 x) → T (fits binary32 y) → le (x -f y) f0 ≡ (le x y && not (same_inf x y))
upto x y p q = ap (λ (o : Float). le (sub binary32 x y) o) nought-is ∙ sub-le binary32 x y p q

lt-not-same : (x y : Float) → T (lt x y) → T (not (same_inf x y))
lt-not-same nan y h = tt
lt-not-same (inf s) nan h = tt
lt-not-same (inf true) (inf true) h = absurd (unfold lt in h)
lt-not-same (inf true) (inf false) h = tt
lt-not-same (inf false) (inf true) h = tt
lt-not-same (inf false) (inf false) h = absurd (unfold lt in h)
lt-not-same (inf s) (fin t n d) h = tt
lt-not-same (fin s m e) y h = tt

-- ---- one segment of a rising profile
-- what is left of the tests there: x0 - z <= 0, z - x1 < 0
rising : Bool → Bool → Float → Option Float
rising upto below y = cond upto (cond below (Some y) None) (Some y)

rises-so : (x0 x1 y0 y1 z : Float) → T (fits binary32 x0) → T (fits binary32 x1) → T (lt x0 x1) → segment_of x0 x1 y0 y1 z ≡ rising (le (x0 -f z) f0) (lt (z -f x1) f0) (interpolated x0 x1 y0 y1 z)
unfolding segment_of rising
rises-so x0 x1 y0 y1 z p q h = rw (less x0 x1 p q ∙ is_true (lt x0 x1) h)

missed : (x0 x1 y0 y1 z : Float) → T (fits binary32 x0) → T (fits binary32 x1) → T (fits binary32 z) → T (lt x0 x1) → T (le x1 z) → segment_of x0 x1 y0 y1 z ≡ None
unfolding rising
missed x0 x1 y0 y1 z p q r h k =
    let l = lt_of_lt_of_le x0 x1 z h k in
    let y = interpolated x0 x1 y0 y1 z in
    rises-so x0 x1 y0 y1 z p q h
    ∙ ap (λ (b : Bool). rising b (lt (z -f x1) f0) y) (upto x0 z p r ∙ is_true (le x0 z && not (same_inf x0 z)) (and_i (le x0 z) (not (same_inf x0 z)) (le_of_lt x0 z l) (lt-not-same x0 z l)))
    ∙ ap (λ (b : Bool). rising true b y) (less z x1 r q ∙ is_false (lt z x1) (not_T (lt z x1) (λ (t : T (lt z x1)). lt_irrefl z (lt_of_lt_of_le z x1 z t k))))

held : (x0 x1 y0 y1 z : Float) → T (fits binary32 x0) → T (fits binary32 x1) → T (fits binary32 z) → T (lt x0 x1) → T (not (le x1 z)) → segment_of x0 x1 y0 y1 z ≡ Some (interpolated x0 x1 y0 y1 z)
unfolding rising
held x0 x1 y0 y1 z p q r h k = rises-so x0 x1 y0 y1 z p q h ∙ go (le (x0 -f z) f0) (λ t. and_l (le x0 z) (not (same_inf x0 z)) (subst (λ (b : Bool). T b) (upto x0 z p r) t))
  where
    go : (b : Bool) → (T b → T (le x0 z)) → rising b (lt (z -f x1) f0) (interpolated x0 x1 y0 y1 z) ≡ Some (interpolated x0 x1 y0 y1 z)
    go false f = refl
    go true f = ap (λ (b : Bool). rising true b (interpolated x0 x1 y0 y1 z)) (less z x1 r q ∙ is_true (lt z x1) (lt_of_not-le x1 z (le_right x0 x1 (le_of_lt x0 x1 h)) (le_right x0 z (f tt)) k))

-- ---- the scan stops where the cursor does
scan-reads : (htr fnsq : List Float) (z : Float) (c : ℕ) → EachF32 htr → T (fits binary32 z) → Rising htr → Stops htr z 49 0 c → (n i : ℕ) → i + n ≡ 49 → i ≤ c → scan_from htr fnsq z n i ≡ stopped_at htr fnsq z c
unfolding scan_from
scan-reads htr fnsq z c H F r s zero i e h = ap (λ (k : ℕ). Top (at fnsq k)) last ∙ ap (stopped_at htr fnsq z) (sym (full s.upto))
  where
    last : i ≡ 49
    last = omega arith

    full : c ≤ 0 + 49 → c ≡ 49
    full k = omega arith
scan-reads htr fnsq z c H F r s (suc n) i e h = elim (eq-or-lt_of_le h) [ inl x ↦ here x | inr l ↦ on l (scan-reads htr fnsq z c H F r s n (i + 1) (omega arith) (omega arith)) ]
  where
    inside : i < 49
    inside = omega arith

    here : i ≡ c → or_on (segment_of (at htr i) (at htr (i + 1)) (at fnsq i) (at fnsq (i + 1)) z) i (scan_from htr fnsq z n (i + 1)) ≡ stopped_at htr fnsq z c
    here x =
        ap (λ (o : Option Float). or_on o i (scan_from htr fnsq z n (i + 1)))
        (held (at htr i) (at htr (i + 1)) (at fnsq i) (at fnsq (i + 1)) z (H i) (H (i + 1)) F (r i inside) (subst (λ (k : ℕ). T (not (le (at htr (k + 1)) z))) (sym x) (s.stop (le_trans (le_of_eq (ap suc (sym x))) inside))))
        ∙ ap (λ (b : Bool). stopped_by b htr fnsq z i) (sym (is_true (ltb i 49) (lt→ltb i 49 inside)))
        ∙ ap (stopped_at htr fnsq z) x

    on : i < c → scan_from htr fnsq z n (i + 1) ≡ stopped_at htr fnsq z c → or_on (segment_of (at htr i) (at htr (i + 1)) (at fnsq i) (at fnsq (i + 1)) z) i (scan_from htr fnsq z n (i + 1)) ≡ stopped_at htr fnsq z c
    on l more =
        ap (λ (o : Option Float). or_on o i (scan_from htr fnsq z n (i + 1)))
        (missed (at htr i) (at htr (i + 1)) (at fnsq i) (at fnsq (i + 1)) z (H i) (H (i + 1)) F (r i inside) (s.past i zero-le l))
        ∙ more

-- ---- one read
abbrev mk : Reading → ℕ → Read
mk r i = record { reading = r; cursor = i }

floor-none : (htr : List Float) (z : Float) → EachF32 htr → T (fits binary32 z) → Rising htr → T (le (z -f at htr 0) f0) → count_of htr z ≤ 0
floor-none htr z H F r t = go (count_of htr z) (count-stops htr z H F r)
  where
    below : T (lt z (at htr 1))
    below = lt_of_le_of_lt z (at htr 0) (at htr 1) (and_l (le z (at htr 0)) (not (same_inf z (at htr 0))) (subst (λ (b : Bool). T b) (upto z (at htr 0) F (H 0)) t)) (r 0 (omega arith))

    go : (c : ℕ) → Stops htr z 49 0 c → c ≤ 0
    go zero s = le_refl 0
    go (suc c) s = absurd (lt_irrefl z (lt_of_lt_of_le z (at htr 1) z below (s.past 0 zero-le (omega arith))))

-- from any cursor up to the count: the scan's reading, and the count for a cursor
pub read-is-scan : (htr fnsq : List Float) (z : Float) (i : ℕ) → EachF32 htr → T (fits binary32 z) → Rising htr → i ≤ count_of htr z → read_on_of htr fnsq z i ≡ scanned_read htr fnsq z
unfolding read_on_of reading_of
read-is-scan htr fnsq z i H F r h = go (le (z -f at htr 0) f0) (λ t. floor-none htr z H F r t)
  where
    s : Stops htr z 49 0 (count_of htr z)
    s = count-stops htr z H F r

    none : (c : ℕ) → i ≤ c → c ≤ 0 → i ≡ c
    none c p q = omega arith

    left : (c : ℕ) → i ≤ c → c ≤ 0 + 49 → i + (49 - i) ≡ 49
    left c p q = omega arith

    go : (b : Bool) → (T b → count_of htr z ≤ 0) → read_on_by b htr fnsq z i ≡ record { reading = reading_by b htr fnsq z; cursor = count_of htr z }
    go true f = ap (λ (k : ℕ). mk (Floor (at fnsq 0)) k) (none (count_of htr z) h (f tt))
    go false f =
        ap (λ (k : ℕ). mk (stopped_at htr fnsq z k) k) (climb-finds htr z (count_of htr z) s (49 - i) i (left (count_of htr z) h s.upto) h)
        ∙ ap (λ (o : Reading). mk o (count_of htr z)) (sym (scan-reads htr fnsq z (count_of htr z) H F r s 49 0 refl zero-le))

-- the segment of a reading is where the cursor stops: the count of its height
pub segment-counts : (htr fnsq : List Float) (z : Float) → EachF32 htr → T (fits binary32 z) → Rising htr → segment_number (reading_of htr fnsq z) ≡ count_of htr z
unfolding reading_of segment_number
segment-counts htr fnsq z H F r = go (le (z -f at htr 0) f0) (λ t. floor-none htr z H F r t)
  where
    s : Stops htr z 49 0 (count_of htr z)
    s = count-stops htr z H F r

    stopped : (c : ℕ) → c ≤ 0 + 49 → (b : Bool) → ltb c 49 ≡ b → segment_number (stopped_by b htr fnsq z c) ≡ c
    stopped c h true e = refl
    stopped c h false e = let k = ltb-false c 49 e in omega arith

    none : (c : ℕ) → c ≤ 0 → 0 ≡ c
    none c h = omega arith

    go : (b : Bool) → (T b → count_of htr z ≤ 0) → segment_number (reading_by b htr fnsq z) ≡ count_of htr z
    go true f = none (count_of htr z) (f tt)
    go false f = ap segment_number (scan-reads htr fnsq z (count_of htr z) H F r s 49 0 refl zero-le) ∙ stopped (count_of htr z) s.upto (ltb (count_of htr z) 49) refl
