-- The lines of two rising traces are the line at the smaller of the two kHz that they begin with, and the lines of what is left
-- of them: what the code goes by.
use Prim.Native.Nat.{ℕ, ◌+◌, ◌≤◌, ◌<◌}
use mathlib.Core.Path.{◌≡◌, refl, ap, sym, ◌∙◌, subst}
use mathlib.Core.Bool.{Bool, true, false, cond}
use mathlib.Core.List.{List, [], ◌∷◌, map}
use mathlib.Core.Option.{none, some}
use native.Mathlib.Omega.{arith}
use lib.Dec.{eqb, ltb}
use lib.IntN.{pos, ◌-ℤ◌}
use lib.ListN.{length, get_or, drop}
use borrow.Author.Tests.{ltb-true, ltb-false, eq-eqb, ne_eqb}
use Rattle.traces.specs.Trace.{height_at_khz}
use Rattle.traces.specs.Lines.{in_both, which_number, of_first, of_second, listed, trace_line, trace_lines, line_at}
use Rattle.traces.specs.Trace.{TraceRows}
use Rattle.traces.specs.declared.trace_lines.Line.{Line}
use Rattle.traces.specs.declared.trace_lines.Which.{Which}
use Rattle.traces.proofs.trace_lines.Places.{Above, Up, above-less, up, listed_above, listed-first, listed-second, listed-both}

pub height-here : (x h : ℕ) (xs hs : List ℕ) → height_at_khz (x ∷ xs) (h ∷ hs) x ≡ some h
unfolding height_at_khz
height-here x h xs hs = rw (eq-eqb x x refl)

pub height-later : (x h f : ℕ) (xs hs : List ℕ) → x < f → height_at_khz (x ∷ xs) (h ∷ hs) f ≡ height_at_khz xs hs f
unfolding height_at_khz
height-later x h f xs hs k = let n : x ≡ f → ⊥ = λ e. omega arith in rw (ne_eqb x f n)

pub height-below : (f : ℕ) (xs hs : List ℕ) → Above f xs → height_at_khz xs hs f ≡ none
unfolding height_at_khz
height-below f [] hs a = refl
height-below f (x ∷ xs) [] a = refl
height-below f (x ∷ xs) (h ∷ hs) a =
    let k : f < x = a.0 in
    let n : x ≡ f → ⊥ = λ e. omega arith in
    rw (ne_eqb x f n) (height-below f xs hs a.1)

first-later : (x h : ℕ) (xs hs b bh l : List ℕ) → Above x l
    → map (trace_line (x ∷ xs) (h ∷ hs) b bh) l ≡ map (trace_line xs hs b bh) l
first-later x h xs hs b bh [] a = refl
first-later x h xs hs b bh (f ∷ l) a =
    rw (height-later x h f xs hs a.0, first-later x h xs hs b bh l a.1)

second-later : (y k : ℕ) (a ah ys ks l : List ℕ) → Above y l
    → map (trace_line a ah (y ∷ ys) (k ∷ ks)) l ≡ map (trace_line a ah ys ks) l
second-later y k a ah ys ks [] p = refl
second-later y k a ah ys ks (f ∷ l) p =
    rw (height-later y k f ys ks p.0, second-later y k a ah ys ks l p.1)

pub step-first : (x h : ℕ) (xs hs b bh : List ℕ) → Above x xs → Above x b
    → trace_lines (x ∷ xs) (h ∷ hs) b bh ≡ record { khz = x; which = Which.First; difference = pos 0 } ∷ trace_lines xs hs b bh
unfolding trace_lines
step-first x h xs hs b bh p q =
    rw (listed-first x xs b q, height-here x h xs hs, height-below x b bh q)
    (ap (λ (ls : List Line). record { khz = x; which = Which.First; difference = pos 0 } ∷ ls)
    (first-later x h xs hs b bh (listed xs b) (listed_above x xs b p q)))

pub step-second : (y k : ℕ) (a ah ys ks : List ℕ) → Above y a → Above y ys
    → trace_lines a ah (y ∷ ys) (k ∷ ks) ≡ record { khz = y; which = Which.Second; difference = pos 0 } ∷ trace_lines a ah ys ks
unfolding trace_lines
step-second y k a ah ys ks p q =
    rw (listed-second y a ys p q, height-below y a ah p)
    (ap (λ (ls : List Line). record { khz = y; which = Which.Second; difference = pos 0 } ∷ ls)
    (second-later y k a ah ys ks (listed a ys) (listed_above y a ys p q)))

pub step_both : (x h k : ℕ) (xs hs ys ks : List ℕ) → Above x xs → Above x ys
    → trace_lines (x ∷ xs) (h ∷ hs) (x ∷ ys) (k ∷ ks)
    ≡ record { khz = x; which = Which.Both; difference = pos h -ℤ pos k } ∷ trace_lines xs hs ys ks
unfolding trace_lines
step_both x h k xs hs ys ks p q =
    let r = listed_above x xs ys p q in
    rw (listed-both x xs ys q, height-here x h xs hs, height-here x k ys ks)
    (ap (λ (ls : List Line). record { khz = x; which = Which.Both; difference = pos h -ℤ pos k } ∷ ls)
    (first-later x h xs hs (x ∷ ys) (k ∷ ks) (listed xs ys) r ∙ second-later x k xs hs ys ks (listed xs ys) r))

-- one line, and what it leaves
pub record Goes (a ah b bh : List ℕ) (ls : List Line) : Type 0 where
  pub line : Line
  pub is :
      ls
      ≡ line
      ∷ trace_lines (drop (of_first line.which) a) (drop (of_first line.which) ah) (drop (of_second line.which) b)
      (drop (of_second line.which) bh)
  pub first_fits : of_first line.which ≤ length a
  pub second_fits : of_second line.which ≤ length b
  pub rows : 1 + cond (eqb (which_number line.which) in_both) 1 0 ≡ of_first line.which + of_second line.which

goes_by : (x h y k : ℕ) (xs hs ys ks : List ℕ) → Above x xs → Above y ys → (s t : Bool) → ltb x y ≡ s → ltb y x ≡ t
    → Goes (x ∷ xs) (h ∷ hs) (y ∷ ys) (k ∷ ks) (trace_lines (x ∷ xs) (h ∷ hs) (y ∷ ys) (k ∷ ks))
goes_by x h y k xs hs ys ks p q true t e g =
    let m : x < y = ltb-true x y e in
    record {
      line = record { khz = x; which = Which.First; difference = pos 0 };
      is = step-first x h xs hs (y ∷ ys) (k ∷ ks) p (m, above-less y x ys (omega arith) q);
      first_fits = omega arith;
      second_fits = omega arith;
      rows = refl;
    }
goes_by x h y k xs hs ys ks p q false true e g =
    let m : y < x = ltb-true y x g in
    record {
      line = record { khz = y; which = Which.Second; difference = pos 0 };
      is = step-second y k (x ∷ xs) (h ∷ hs) ys ks (m, above-less x y xs (omega arith) p) q;
      first_fits = omega arith;
      second_fits = omega arith;
      rows = refl;
    }
goes_by x h y k xs hs ys ks p q false false e g =
    let m : y ≤ x = ltb-false x y e in
    let n : x ≤ y = ltb-false y x g in
    let same : x ≡ y = omega arith in
    subst
    (λ (z : ℕ). Goes (x ∷ xs) (h ∷ hs) (z ∷ ys) (k ∷ ks) (trace_lines (x ∷ xs) (h ∷ hs) (z ∷ ys) (k ∷ ks))) same
    (record {
      line = record { khz = x; which = Which.Both; difference = pos h -ℤ pos k };
      is = step_both x h k xs hs ys ks p (above-less y x ys (omega arith) q);
      first_fits = omega arith;
      second_fits = omega arith;
      rows = refl;
    })

pub goes : (a ah b bh : List ℕ) → Up a → Up b → length a ≡ length ah → length b ≡ length bh → 0 < length a + length b
    → Goes a ah b bh (trace_lines a ah b bh)
goes [] ah [] bh u v e g h = absurd (omega arith)
goes [] ah (y ∷ ys) [] u v e g h = absurd (omega arith)
goes [] ah (y ∷ ys) (k ∷ ks) u v e g h =
    record {
      line = record { khz = y; which = Which.Second; difference = pos 0 };
      is = step-second y k [] ah ys ks tt v.0;
      first_fits = omega arith;
      second_fits = omega arith;
      rows = refl;
    }
goes (x ∷ xs) [] b bh u v e g h = absurd (omega arith)
goes (x ∷ xs) (h₁ ∷ hs) [] bh u v e g h =
    record {
      line = record { khz = x; which = Which.First; difference = pos 0 };
      is = step-first x h₁ xs hs [] bh u.0 tt;
      first_fits = omega arith;
      second_fits = omega arith;
      rows = refl;
    }
goes (x ∷ xs) (h₁ ∷ hs) (y ∷ ys) [] u v e g h = absurd (omega arith)
goes (x ∷ xs) (h₁ ∷ hs) (y ∷ ys) (k ∷ ks) u v e g h =
    goes_by x h₁ y k xs hs ys ks u.0 v.0 (ltb x y) (ltb y x) refl refl

-- ---- the first line, by how the two traces begin

above-all : (x : ℕ) (l : List ℕ) → Up l → (0 < length l → x < get_or l 0 0) → Above x l
above-all x [] u h = tt
above-all x (y ∷ l) u h = let k : x < y = h (omega arith) in (k, above-less y x l (omega arith) u.0)

pub head_first : (a ah b bh : List ℕ) → TraceRows a ah → TraceRows b bh → 0 < length a → (0 < length b → get_or a 0 0 < get_or b 0 0)
    → record { khz = get_or a 0 0; which = Which.First; difference = pos 0 } ≡ line_at (trace_lines a ah b bh) 0
head_first [] ah b bh ra rb h k = absurd (omega arith)
head_first (x ∷ xs) [] b bh ra rb h k = absurd (let g = ra.heights in omega arith)
head_first (x ∷ xs) (h₁ ∷ hs) b bh ra rb h k =
    let u = up (x ∷ xs) ra.rising in
    sym
    (ap (λ (ls : List Line). line_at ls 0) (step-first x h₁ xs hs b bh u.0 (above-all x b (up b rb.rising) k)))

pub head-second : (a ah b bh : List ℕ) → TraceRows a ah → TraceRows b bh → 0 < length b → (0 < length a → get_or b 0 0 < get_or a 0 0)
    → record { khz = get_or b 0 0; which = Which.Second; difference = pos 0 } ≡ line_at (trace_lines a ah b bh) 0
head-second a ah [] bh ra rb h k = absurd (omega arith)
head-second a ah (y ∷ ys) [] ra rb h k = absurd (let g = rb.heights in omega arith)
head-second a ah (y ∷ ys) (k₁ ∷ ks) ra rb h k =
    let v = up (y ∷ ys) rb.rising in
    sym
    (ap (λ (ls : List Line). line_at ls 0) (step-second y k₁ a ah ys ks (above-all y a (up a ra.rising) k) v.0))

pub head-both : (a ah b bh : List ℕ) → TraceRows a ah → TraceRows b bh → 0 < length a → 0 < length b → get_or a 0 0 ≡ get_or b 0 0
    → record { khz = get_or a 0 0; which = Which.Both; difference = pos (get_or ah 0 0) -ℤ pos (get_or bh 0 0) }
    ≡ line_at (trace_lines a ah b bh) 0
head-both [] ah b bh ra rb h k e = absurd (omega arith)
head-both (x ∷ xs) [] b bh ra rb h k e = absurd (let g = ra.heights in omega arith)
head-both (x ∷ xs) (h₁ ∷ hs) [] bh ra rb h k e = absurd (omega arith)
head-both (x ∷ xs) (h₁ ∷ hs) (y ∷ ys) [] ra rb h k e = absurd (let g = rb.heights in omega arith)
head-both (x ∷ xs) (h₁ ∷ hs) (y ∷ ys) (k₁ ∷ ks) ra rb h k e =
    let u = up (x ∷ xs) ra.rising in
    let v = up (y ∷ ys) rb.rising in
    sym
    (ap (λ (z : ℕ). line_at (trace_lines (x ∷ xs) (h₁ ∷ hs) (z ∷ ys) (k₁ ∷ ks)) 0) (sym e)
    ∙ ap (λ (ls : List Line). line_at ls 0)
    (step_both x h₁ k₁ xs hs ys ks u.0 (above-less y x ys (let m : x ≡ y = e in omega arith) v.0)))
