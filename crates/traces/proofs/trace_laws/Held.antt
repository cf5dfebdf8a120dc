-- The lines of two traces hold them against one another: their kHz are those of either, and a kHz's heights are found where the
-- rows are.
use Prim.Native.Nat.{ℕ, zero, suc, ◌<◌}
use mathlib.Core.Path.{◌≡◌, refl, ap, ◌∙◌, sym, subst}
use mathlib.Core.Bool.{Bool, true, false, cond}
use mathlib.Core.List.{List, [], ◌∷◌, map}
use mathlib.Core.Logic.{◌⊎◌, inl, inr}
use mathlib.Core.Option.{Option, none, some}
use native.Mathlib.Omega.{arith}
use lib.Dec.{eqb, ltb}
use lib.ListN.{length, get_or, length-map, get_or-map}
use borrow.Author.Tests.{eqb-true, eqb-false}
use Rattle.traces.specs.Trace.{height_at_khz}
use Rattle.traces.specs.Lines.{put, listed, line_by, trace_line, trace_lines, line_at}
use Rattle.traces.specs.Held.{Has, HasRow, True, OneLine, lines_khz, Held, LinesHold}
use Rattle.traces.specs.Trace.{TraceRows}
use Rattle.traces.specs.Held.True.{both, first, second}
use Rattle.traces.specs.declared.trace_lines.Line.{Line}
use Rattle.traces.proofs.trace_lines.Places.{Above, Up, up, up-rises, listed-up}

-- ---- membership

abbrev pub In : ℕ → List ℕ → Type 0
In f [] = ⊥
In f (x ∷ l) = (f ≡ x) ⊎ In f l

in-at : (f : ℕ) (l : List ℕ) (i : ℕ) → i < length l → get_or l i 0 ≡ f → In f l
in-at f [] i h e = absurd (omega arith)
in-at f (x ∷ l) zero h e = inl (sym e)
in-at f (x ∷ l) (suc i) h e = inr (in-at f l i (omega arith) e)

pub has_in : (f : ℕ) (l : List ℕ) → Has l f → In f l
has_in f l p = in-at f l p.place p.within p.is

pub in-has : (f : ℕ) (l : List ℕ) → In f l → Has l f
in-has f [] p = absurd p
in-has f (x ∷ l) (inl e) = record { place = 0; within = omega arith; is = sym e }
in-has f (x ∷ l) (inr p) =
    let h = in-has f l p in
    let w = h.within in
    record { place = suc h.place; within = omega arith; is = h.is }

put-new : (y : ℕ) (l : List ℕ) → In y (put y l)
unfolding put
put-new y [] = inl refl
put-new y (x ∷ l) = by (put-new y l) (ltb y x) (eqb y x) refl
  where
    by : In y (put y l) → (s t : Bool) → eqb y x ≡ t → In y (cond s (y ∷ x ∷ l) (cond t (x ∷ l) (x ∷ put y l)))
    by r true t e = inl refl
    by r false true e = inl (eqb-true y x e)
    by r false false e = inr r

put-old : (f y : ℕ) (l : List ℕ) → In f l → In f (put y l)
unfolding put
put-old f y [] p = absurd p
put-old f y (x ∷ l) p = by (λ (q : In f l). put-old f y l q) (ltb y x) (eqb y x) p
  where
    by : (In f l → In f (put y l)) → (s t : Bool) → In f (x ∷ l) → In f (cond s (y ∷ x ∷ l) (cond t (x ∷ l) (x ∷ put y l)))
    by r true t q = inr q
    by r false true q = q
    by r false false (inl e) = inl e
    by r false false (inr q) = inr (r q)

in-put : (f y : ℕ) (l : List ℕ) → In f (put y l) → (f ≡ y) ⊎ In f l
unfolding put
in-put f y [] (inl e) = inl e
in-put f y [] (inr p) = absurd p
in-put f y (x ∷ l) p = by (λ (q : In f (put y l)). in-put f y l q) (ltb y x) (eqb y x) p
  where
    later : (f ≡ y) ⊎ In f l → (f ≡ y) ⊎ In f (x ∷ l)
    later (inl e) = inl e
    later (inr q) = inr (inr q)

    by : (In f (put y l) → (f ≡ y) ⊎ In f l) → (s t : Bool) → In f (cond s (y ∷ x ∷ l) (cond t (x ∷ l) (x ∷ put y l)))
        → (f ≡ y) ⊎ In f (x ∷ l)
    by r true t (inl e) = inl e
    by r true t (inr q) = inr q
    by r false true q = inr q
    by r false false (inl e) = inr (inl e)
    by r false false (inr q) = later (r q)

listed_in : (f : ℕ) (xs ys : List ℕ) → In f xs ⊎ In f ys → In f (listed xs ys)
unfolding listed
listed_in f xs [] (inl p) = p
listed_in f xs [] (inr p) = absurd p
listed_in f xs (y ∷ ys) (inl p) = put-old f y (listed xs ys) (listed_in f xs ys (inl p))
listed_in f xs (y ∷ ys) (inr (inl e)) = subst (λ (z : ℕ). In z (put y (listed xs ys))) (sym e) (put-new y (listed xs ys))
listed_in f xs (y ∷ ys) (inr (inr p)) = put-old f y (listed xs ys) (listed_in f xs ys (inr p))

in-listed : (f : ℕ) (xs ys : List ℕ) → In f (listed xs ys) → In f xs ⊎ In f ys
unfolding listed
in-listed f xs [] p = inl p
in-listed f xs (y ∷ ys) p = by (λ (q : In f (listed xs ys)). in-listed f xs ys q) (in-put f y (listed xs ys) p)
  where
    later : In f xs ⊎ In f ys → In f xs ⊎ In f (y ∷ ys)
    later (inl q) = inl q
    later (inr q) = inr (inr q)

    by : (In f (listed xs ys) → In f xs ⊎ In f ys) → (f ≡ y) ⊎ In f (listed xs ys) → In f xs ⊎ In f (y ∷ ys)
    by r (inl e) = inr (inl e)
    by r (inr q) = later (r q)

-- ---- a height found is that of a row, and none is found only where there is no row

found : (xs hs : List ℕ) (f h : ℕ) → height_at_khz xs hs f ≡ some h → HasRow xs hs f h
unfolding height_at_khz
found [] hs f h e = let z : ◌≡◌ {A = ℕ} 0 1 = cc in absurd (omega arith)
found (x ∷ xs) [] f h e = let z : ◌≡◌ {A = ℕ} 0 1 = cc in absurd (omega arith)
found (x ∷ xs) (k ∷ hs) f h e = by (λ (q : height_at_khz xs hs f ≡ some h). found xs hs f h q) (eqb x f) refl e
  where
    by : (height_at_khz xs hs f ≡ some h → HasRow xs hs f h) → (t : Bool) → eqb x f ≡ t → cond t (some k) (height_at_khz xs hs f) ≡ some h
        → HasRow (x ∷ xs) (k ∷ hs) f h
    by r true p q =
        let s : k ≡ h = cc in
        record { place = 0; within = omega arith; khz = eqb-true x f p; height = s }
    by r false p q =
        let w = r q in
        let within = w.within in
        record { place = suc w.place; within = omega arith; khz = w.khz; height = w.height }

missing : (xs hs : List ℕ) (f : ℕ) → length xs ≡ length hs → height_at_khz xs hs f ≡ none → In f xs → ⊥
unfolding height_at_khz
missing [] hs f l e p = p
missing (x ∷ xs) [] f l e p = omega arith
missing (x ∷ xs) (k ∷ hs) f l e p = by (λ (q : height_at_khz xs hs f ≡ none). missing xs hs f (omega arith) q) (eqb x f) refl e p
  where
    by : (height_at_khz xs hs f ≡ none → In f xs → ⊥) → (t : Bool) → eqb x f ≡ t → cond t (some k) (height_at_khz xs hs f) ≡ none
        → In f (x ∷ xs) → ⊥
    by r true q m s = let z : ◌≡◌ {A = ℕ} 0 1 = cc in omega arith
    by r false q m (inl s) = eqb-false x f q (sym s)
    by r false q m (inr s) = r m s

-- ---- the kHz of the lines

khz-by : (o p : Option ℕ) (f : ℕ) → (line_by o p f).khz ≡ f
khz-by (some h) (some k) f = refl
khz-by (some h) none f = refl
khz-by none p f = refl

khz-mapped : (a ah b bh l : List ℕ) → lines_khz (map (trace_line a ah b bh) l) ≡ l
khz-mapped a ah b bh [] = refl
khz-mapped a ah b bh (f ∷ l) = rw (khz-by (height_at_khz a ah f) (height_at_khz b bh f) f, khz-mapped a ah b bh l)

pub khz-lines : (a ah b bh : List ℕ) → lines_khz (trace_lines a ah b bh) ≡ listed a b
unfolding trace_lines
khz-lines a ah b bh = khz-mapped a ah b bh (listed a b)

pub khz-at : (ls : List Line) (n : ℕ) → get_or (lines_khz ls) n 0 ≡ (line_at ls n).khz
khz-at ls n = get_or-map (λ (l : Line). l.khz) ls n _

mapped_at : (g : ℕ → Line) (l : List ℕ) (n : ℕ) → n < length l → line_at (map g l) n ≡ g (get_or l n 0)
mapped_at g [] n h = absurd (omega arith)
mapped_at g (x ∷ l) zero h = refl
mapped_at g (x ∷ l) (suc n) h = mapped_at g l n (omega arith)

above_at : (x : ℕ) (l : List ℕ) → Above x l → (i : ℕ) → i < length l → x < get_or l i 0
above_at x [] a i h = absurd (omega arith)
above_at x (y ∷ l) a zero h = a.0
above_at x (y ∷ l) a (suc i) h = above_at x l a.1 i (omega arith)

pub one_place : (l : List ℕ) → Up l → (i j : ℕ) → i < length l → j < length l → get_or l i 0 ≡ get_or l j 0 → i ≡ j
one_place [] u i j h k e = absurd (omega arith)
one_place (x ∷ l) u zero zero h k e = refl
one_place (x ∷ l) u zero (suc j) h k e = let m = above_at x l u.0 j (omega arith) in absurd (omega arith)
one_place (x ∷ l) u (suc i) zero h k e = let m = above_at x l u.0 i (omega arith) in absurd (omega arith)
one_place (x ∷ l) u (suc i) (suc j) h k e = ap suc (one_place l u.1 i j (omega arith) (omega arith) e)

one_line : (ls : List Line) (f : ℕ) → Up (lines_khz ls) → Has (lines_khz ls) f → OneLine ls f
one_line ls f u p =
    let w = p.within in
    let s = length-map ls (λ (l : Line). l.khz) in
    record {
      place = p.place;
      within = omega arith;
      khz = sym (khz-at ls p.place) ∙ p.is;
      only =
          λ n h e. one_place (lines_khz ls) u n p.place (omega arith) p.within (khz-at ls n ∙ e ∙ sym p.is);
    }

module _ (a ah b bh : List ℕ) (ra : TraceRows a ah) (rb : TraceRows b bh) where
  true-by : (f : ℕ) (o p : Option ℕ) → height_at_khz a ah f ≡ o → height_at_khz b bh f ≡ p → In f a ⊎ In f b
      → True a ah b bh (line_by o p f)
  true-by f (some h) (some k) e g m = both f h k (found a ah f h e) (found b bh f k g) refl
  true-by f (some h) none e g m =
      first f h (found a ah f h e) (λ q. missing b bh f rb.heights g (has_in f b q)) refl
  true-by f none (some k) e g m =
      second f k (found b bh f k g) (λ q. missing a ah f ra.heights e (has_in f a q)) refl
  true-by f none none e g (inl q) = absurd (missing a ah f ra.heights e q)
  true-by f none none e g (inr q) = absurd (missing b bh f rb.heights g q)

  lines-true : (l : List ℕ) → ((f : ℕ) → In f l → In f a ⊎ In f b) → (n : ℕ) → n < length (map (trace_line a ah b bh) l)
      → True a ah b bh (line_at (map (trace_line a ah b bh) l) n)
  lines-true l p n h =
      let f = get_or l n 0 in
      let s : n < length l = omega (arith, length-map l (trace_line a ah b bh)) in
      subst (λ (x : Line). True a ah b bh x) (sym (mapped_at (trace_line a ah b bh) l n s))
      (true-by f (height_at_khz a ah f) (height_at_khz b bh f) refl refl (p f (in-at f l n s refl)))

  all_true : (n : ℕ) → n < length (trace_lines a ah b bh) → True a ah b bh (line_at (trace_lines a ah b bh) n)
  unfolding trace_lines
  all_true = lines-true (listed a b) (λ f q. in-listed f a b q)

  listed-rises : Up (lines_khz (trace_lines a ah b bh))
  listed-rises = rw (khz-lines a ah b bh) (listed-up a b (up a ra.rising))

  every : (f : ℕ) → Has a f ⊎ Has b f → Has (lines_khz (trace_lines a ah b bh)) f
  every f (inl p) = rw (khz-lines a ah b bh) (in-has f (listed a b) (listed_in f a b (inl (has_in f a p))))
  every f (inr p) = rw (khz-lines a ah b bh) (in-has f (listed a b) (listed_in f a b (inr (has_in f b p))))

  either : (f : ℕ) → In f a ⊎ In f b → Has a f ⊎ Has b f
  either f (inl p) = inl (in-has f a p)
  either f (inr p) = inr (in-has f b p)

  pub held : Held a ah b bh (trace_lines a ah b bh)
  held =
      record {
        rising = up-rises _ listed-rises;
        every = every;
        no_other =
            λ f p. either f (in-listed f a b (has_in f (listed a b) (subst (λ (l : List ℕ). Has l f) (khz-lines a ah b bh) p)));
        true-lines = all_true;
        first_rows =
            λ i h. one_line _ (get_or a i 0) listed-rises
            (every (get_or a i 0) (inl (record { place = i; within = h; is = refl })));
        second-rows =
            λ j h. one_line _ (get_or b j 0) listed-rises
            (every (get_or b j 0) (inr (record { place = j; within = h; is = refl })));
      }

pub lines-hold : LinesHold
lines-hold a ah b bh ra rb = held a ah b bh ra rb
