-- The cursor on a rising profile: where it stops, that it may start anywhere below, and that the count is where it stops.
use mathlib.Core.Path.{◌≡◌, refl, ap, ◌∙◌, subst}
use mathlib.Core.Logic.{inl, inr}
use mathlib.Core.Bool.{Bool, true, false, not, ◌||◌}
use mathlib.Core.List.{List}
use Prim.Native.Nat.{ℕ, zero, suc, ◌+◌, ◌≤◌, ◌<◌, zero-le}
use native.Mathlib.Nat.{le_trans, le_of_eq, le_refl, le_antisymm, add-le-add, eq-or-lt_of_le, lt_irrefl}
use native.Mathlib.Numerals.{add-one-le}
use native.Mathlib.Omega.{arith}
use lib.Dec.{T, not_T, T_not}
use lib.Ieee.{Float, nan, inf, fin, binary32, lt, le, fits, is_nan}
use Rattle.std.proofs.lemmas.Float.{le_of_lt, lt_of_lt_of_le, le_trans as le-le}
use Rattle.scalar.specs.F32.{at}
use Rattle.readings.specs.Cursor.{one_if, count_from, count_of, on_by, climb_from}
use Rattle.heights.specs.Walk.{EachF32, Rising}

-- ---- where the cursor stops: at c, past every height that is at or below z and below every other
pub record Stops (htr : List Float) (z : Float) (n i c : ℕ) : Type 0 where
  pub from : i ≤ c
  pub upto : c ≤ i + n
  pub past : (j : ℕ) → i ≤ j → j < c → T (le (at htr (j + 1)) z)
  pub stop : c < i + n → T (not (le (at htr (c + 1)) z))

-- above a height that is not at or below z there is none
still : (htr : List Float) (z : Float) → EachF32 htr → T (fits binary32 z) → (i : ℕ) → T (lt (at htr i) (at htr (i + 1))) → T (not (le (at htr i) z)) → T (not (le (at htr (i + 1)) z))
still htr z H F i r h = not_T (le (at htr (i + 1)) z) (λ (k : T (le (at htr (i + 1)) z)). T_not (le (at htr i) z) h (le_of_lt (at htr i) z (lt_of_lt_of_le (at htr i) (at htr (i + 1)) z r k)))

none_after : (htr : List Float) (z : Float) → EachF32 htr → T (fits binary32 z) → Rising htr → (n i : ℕ) → i + n ≡ 49 → T (not (le (at htr i) z)) → count_from htr z n i ≡ 0
unfolding count_from
none_after htr z H F r zero i e h = refl
none_after htr z H F r (suc n) i e h =
    let s = still htr z H F i (r i (omega arith)) h in
    go (le (at htr (i + 1)) z) s (none_after htr z H F r n (i + 1) (omega arith) s)
  where
    go : (b : Bool) → T (not b) → count_from htr z n (i + 1) ≡ 0 → one_if b + count_from htr z n (i + 1) ≡ 0
    go true t e = absurd t
    go false t e = omega arith

at-end : (htr : List Float) (z : Float) (i : ℕ) → Stops htr z 0 i (i + 0)
at-end htr z i = record {
  from = omega arith;
  upto = le_refl (i + 0);
  past = λ j h k. absurd (no j h k);
  stop = λ k. absurd (lt_irrefl (i + 0) k);
}
  where
    no : (j : ℕ) → i ≤ j → j < i + 0 → ⊥
    no j h k = omega arith

at_once : (htr : List Float) (z : Float) (n i c : ℕ) → T (not (le (at htr (i + 1)) z)) → c ≡ 0 → Stops htr z n i (i + c)
at_once htr z n i c h e = record {
  from = omega arith;
  upto = room i c n e;
  past = λ j p k. absurd (no j p k);
  stop = λ k. subst (λ (w : ℕ). T (not (le (at htr (w + 1)) z))) (same i c e) h;
}
  where
    no : (j : ℕ) → i ≤ j → j < i + c → ⊥
    no j h k = omega arith

    room : (i c n : ℕ) → c ≡ 0 → i + c ≤ i + n
    room i c n e = omega arith

    same : (i c : ℕ) → c ≡ 0 → i ≡ i + c
    same i c e = omega arith

one_more : (htr : List Float) (z : Float) (n i c : ℕ) → T (le (at htr (i + 1)) z) → Stops htr z n (i + 1) (i + 1 + c) → Stops htr z (suc n) i (i + (1 + c))
one_more htr z n i c h s = record {
  from = omega arith;
  upto = room i c n s.upto;
  past = λ j p k. elim (eq-or-lt_of_le p) [ inl e ↦ subst (λ (w : ℕ). T (le (at htr (w + 1)) z)) e h | inr l ↦ s.past j (add-one-le l) (within i j c k) ];
  stop = λ k. subst (λ (w : ℕ). T (not (le (at htr (w + 1)) z))) (same i c) (s.stop (below i c n k));
}
  where
    room : (i c n : ℕ) → i + 1 + c ≤ i + 1 + n → i + (1 + c) ≤ i + suc n
    room i c n h = omega arith

    within : (i j c : ℕ) → j < i + (1 + c) → j < i + 1 + c
    within i j c h = omega arith

    below : (i c n : ℕ) → i + (1 + c) < i + suc n → i + 1 + c < i + 1 + n
    below i c n h = omega arith

    same : (i c : ℕ) → i + 1 + c ≡ i + (1 + c)
    same i c = omega arith

counted : (htr : List Float) (z : Float) → EachF32 htr → T (fits binary32 z) → Rising htr → (n i : ℕ) → i + n ≡ 49 → Stops htr z n i (i + count_from htr z n i)
unfolding count_from
counted htr z H F r zero i e = at-end htr z i
counted htr z H F r (suc n) i e =
    let e' : i + 1 + n ≡ 49 = omega arith in
    go (le (at htr (i + 1)) z) (λ t. t) (λ t. t) (counted htr z H F r n (i + 1) e') (λ (t : T (not (le (at htr (i + 1)) z))). none_after htr z H F r n (i + 1) e' t)
  where
    go : (b : Bool) → (T b → T (le (at htr (i + 1)) z)) → (T (not b) → T (not (le (at htr (i + 1)) z))) → Stops htr z n (i + 1) (i + 1 + count_from htr z n (i + 1)) → (T (not (le (at htr (i + 1)) z)) → count_from htr z n (i + 1) ≡ 0)
        → Stops htr z (suc n) i (i + (one_if b + count_from htr z n (i + 1)))
    go true p q s o = one_more htr z n i (count_from htr z n (i + 1)) (p tt) s
    go false p q s o = at_once htr z (suc n) i (0 + count_from htr z n (i + 1)) (q tt) (nil (count_from htr z n (i + 1)) (o (q tt)))
      where
        nil : (c : ℕ) → c ≡ 0 → 0 + c ≡ 0
        nil c e = omega arith

-- the paper's count is where the cursor stops
pub count-stops : (htr : List Float) (z : Float) → EachF32 htr → T (fits binary32 z) → Rising htr → Stops htr z 49 0 (count_of htr z)
count-stops htr z H F r = subst (λ (c : ℕ). Stops htr z 49 0 c) (plain (count_of htr z)) (counted htr z H F r 49 0 refl)
  where
    plain : (c : ℕ) → 0 + c ≡ c
    plain c = omega arith

-- the cursor finds the place from wherever it starts at or below it
pub climb-finds : (htr : List Float) (z : Float) (c : ℕ) → Stops htr z 49 0 c → (n i : ℕ) → i + n ≡ 49 → i ≤ c → climb_from htr z n i ≡ c
unfolding climb_from
climb-finds htr z c s zero i e h = le_antisymm h (last s.upto)
  where
    last : c ≤ 0 + 49 → c ≤ i
    last k = omega arith
climb-finds htr z c s (suc n) i e h = go (le (at htr (i + 1)) z) (λ t. t) (λ t. t) (climb-finds htr z c s n (i + 1) (omega arith))
  where
    fell : i ≡ c → T (le (at htr (i + 1)) z) → ⊥
    fell q t = T_not (le (at htr (c + 1)) z) (s.stop (omega arith)) (subst (λ (w : ℕ). T (le (at htr (w + 1)) z)) q t)

    go : (b : Bool) → (T b → T (le (at htr (i + 1)) z)) → (T (not b) → T (not (le (at htr (i + 1)) z))) → (i + 1 ≤ c → climb_from htr z n (i + 1) ≡ c) → on_by b i (climb_from htr z n (i + 1)) ≡ c
    go true p q o = elim (eq-or-lt_of_le h) [ inl x ↦ absurd (fell x (p tt)) | inr l ↦ o (add-one-le l) ]
    go false p q o = elim (eq-or-lt_of_le h) [ inl x ↦ x | inr l ↦ absurd (T_not (le (at htr (i + 1)) z) (q tt) (s.past i zero-le l)) ]

-- ---- the count never falls as z rises, and of a NaN it is none
nan_right : (x : Float) → le x nan ≡ false
unfolding le
nan_right nan = refl
nan_right (inf s) = refl
nan_right (fin s m e) = refl

count-nan : (htr : List Float) (n i : ℕ) → count_from htr nan n i ≡ 0
unfolding count_from
count-nan htr zero i = refl
count-nan htr (suc n) i = ap (λ (b : Bool). one_if b + count_from htr nan n (i + 1)) (nan_right (at htr (i + 1))) ∙ nil (count_from htr nan n (i + 1)) (count-nan htr n (i + 1))
  where
    nil : (c : ℕ) → c ≡ 0 → 0 + c ≡ 0
    nil c e = omega arith

one-mono : (a b : Bool) → (T a → T b) → one_if a ≤ one_if b
one-mono true true h = le_refl 1
one-mono true false h = absurd (h tt)
one-mono false b h = zero-le

count-le : (htr : List Float) (z y : Float) → EachF32 htr → T (fits binary32 z) → T (fits binary32 y) → T (le z y) → (n i : ℕ) → count_from htr z n i ≤ count_from htr y n i
unfolding count_from
count-le htr z y H F G h zero i = le_refl 0
count-le htr z y H F G h (suc n) i =
    add-le-add (one-mono (le (at htr (i + 1)) z) (le (at htr (i + 1)) y) (λ t. le-le (at htr (i + 1)) z y t h)) (count-le htr z y H F G h n (i + 1))

pub count-mono : (htr : List Float) (z y : Float) → EachF32 htr → T (fits binary32 z) → T (fits binary32 y) → T (is_nan z || le z y) → count_of htr z ≤ count_of htr y
unfolding is_nan
count-mono htr nan y H F G h = le_trans (le_of_eq (count-nan htr 49 0)) zero-le
count-mono htr (inf s) y H F G h = count-le htr (inf s) y H F G h 49 0
count-mono htr (fin s m e) y H F G h = count-le htr (fin s m e) y H F G h 49 0

pub count-bound : (htr : List Float) (z : Float) (n i : ℕ) → count_from htr z n i ≤ n
unfolding count_from
count-bound htr z zero i = le_refl 0
count-bound htr z (suc n) i = go (le (at htr (i + 1)) z) (count-bound htr z n (i + 1))
  where
    go : (b : Bool) → count_from htr z n (i + 1) ≤ n → one_if b + count_from htr z n (i + 1) ≤ suc n
    go true h = omega arith
    go false h = omega arith
