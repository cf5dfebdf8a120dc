-- What the loop over two traces keeps: the lines of what is left of them are those not yet written.
use Prim.Native.Nat.{ℕ, ◌+◌, ◌≤◌, ◌<◌}
use mathlib.Core.Path.{◌≡◌, refl, ap, ◌∙◌, sym, subst}
use mathlib.Core.List.{List, []}
use native.Mathlib.Omega.{arith}
use native.Mathlib.Numerals.{add-one}
use lib.IntN.{ℤ}
use lib.ListN.{length, drop, set, length-drop, drop_of_length-le}
use lib.Seq.{drop-drop}
use Rattle.traces.specs.Lines.{which_number, of_first, of_second, listed, trace_lines, line_at}
use Rattle.traces.specs.Compared.{column}
use Rattle.traces.specs.Trace.{TraceRows}
use Rattle.traces.specs.declared.trace_lines.Line.{Line}
use Rattle.traces.proofs.trace_lines.Places.{up, up-drop, up-rises}
use Rattle.traces.proofs.trace_lines.Steps.{Goes, goes}
use Rattle.traces.proofs.Cells.{head-drop, sofar, sofar-more, sofar-all, sofar-length}

abbrev pub khz_in : Line → ℕ
khz_in l = l.khz

abbrev pub which_in : Line → ℕ
which_in l = which_number l.which

abbrev pub difference_in : Line → ℤ
difference_in l = l.difference

-- what is left of a trace is a trace
pub rows_left : (xs hs : List ℕ) (i : ℕ) → TraceRows xs hs → TraceRows (drop i xs) (drop i hs)
rows_left xs hs i r =
    let e = r.heights in
    record { rising = up-rises (drop i xs) (up-drop i xs (up xs r.rising)); heights = simp length-drop (omega arith) }

-- after n lines, of i rows of the first and j of the second
pub record Kept (a ah b bh khz₀ which₀ : List ℕ) (difference₀ : List ℤ) (khz which : List ℕ) (difference : List ℤ) (i j n : ℕ)
    : Type 0 where
  pub first : i ≤ length a
  pub second : j ≤ length b
  pub few : n ≤ i + j
  pub within : n ≤ length (trace_lines a ah b bh)
  pub left : drop n (trace_lines a ah b bh) ≡ trace_lines (drop i a) (drop i ah) (drop j b) (drop j bh)
  pub khz-is : khz ≡ sofar khz_in (trace_lines a ah b bh) n khz₀
  pub which-is : which ≡ sofar which_in (trace_lines a ah b bh) n which₀
  pub difference-is : difference ≡ sofar difference_in (trace_lines a ah b bh) n difference₀

module _ (a ah b bh khz₀ which₀ : List ℕ) (difference₀ : List ℤ) (ra : TraceRows a ah) (rb : TraceRows b bh)
    (khz-room : length a + length b ≤ length khz₀) (which-room : length a + length b ≤ length which₀)
    (difference-room : length a + length b ≤ length difference₀)
  where
    module _ (khz which : List ℕ) (difference : List ℤ) (i j n : ℕ)
        (k : Kept a ah b bh khz₀ which₀ difference₀ khz which difference i j n) (rows_left : i + j < length a + length b)
      where
        pub next-goes :
            Goes (drop i a) (drop i ah) (drop j b) (drop j bh) (trace_lines (drop i a) (drop i ah) (drop j b) (drop j bh))
        next-goes =
            let p = ra.heights in
            let q = rb.heights in
            let f = k.first in
            let s = k.second in
            goes (drop i a) (drop i ah) (drop j b) (drop j bh) (up-drop i a (up a ra.rising))
            (up-drop j b (up b rb.rising)) (simp length-drop (omega arith)) (simp length-drop (omega arith))
            (simp length-drop (omega arith))

        next-at : line_at (trace_lines a ah b bh) n ≡ next-goes.line
        next-at = sym (head-drop n (trace_lines a ah b bh) _) ∙ ap (λ (ls : List Line). line_at ls 0) (k.left ∙ next-goes.is)

        next-within : n < length (trace_lines a ah b bh)
        next-within =
            let m = ap length (k.left ∙ next-goes.is) in
            omega (arith, length-drop n (trace_lines a ah b bh), m)

        next-left :
            let p = of_first next-goes.line.which in
            let q = of_second next-goes.line.which in
            drop (n + 1) (trace_lines a ah b bh) ≡ trace_lines (drop (i + p) a) (drop (i + p) ah) (drop (j + q) b) (drop (j + q) bh)
        next-left =
            let p = of_first next-goes.line.which in
            let q = of_second next-goes.line.which in
            sym (drop-drop 1 n (trace_lines a ah b bh))
            ∙ ap (drop 1) (k.left ∙ next-goes.is)
            ∙ ap (λ (l : List ℕ). trace_lines l (drop p (drop i ah)) (drop q (drop j b)) (drop q (drop j bh))) (drop-drop p i a)
            ∙ ap (λ (l : List ℕ). trace_lines (drop (i + p) a) l (drop q (drop j b)) (drop q (drop j bh))) (drop-drop p i ah)
            ∙ ap (λ (l : List ℕ). trace_lines (drop (i + p) a) (drop (i + p) ah) l (drop q (drop j bh))) (drop-drop q j b)
            ∙ ap (λ (l : List ℕ). trace_lines (drop (i + p) a) (drop (i + p) ah) (drop (j + q) b) l) (drop-drop q j bh)

        next-kept :
            let l = next-goes.line in
            Kept a ah b bh khz₀ which₀ difference₀ (set khz n l.khz) (set which n (which_number l.which))
            (set difference n l.difference) (i + of_first l.which) (j + of_second l.which) (n + 1)
        next-kept =
            let l = next-goes.line in
            let f = k.first in
            let s = k.second in
            let few = k.few in
            let f' = next-goes.first_fits in
            let s' = next-goes.second_fits in
            let rows = next-goes.rows in
            let w = next-within in
            record {
              first = omega (arith, length-drop i a);
              second = omega (arith, length-drop j b);
              few = omega arith;
              within = omega arith;
              left = next-left;
              khz-is =
                  ap (λ (cells : List ℕ). set cells n l.khz) k.khz-is
                  ∙ sofar-more khz_in (trace_lines a ah b bh) n khz₀ l _ w (omega arith) next-at
                  ∙ ap (λ (m : ℕ). sofar khz_in (trace_lines a ah b bh) m khz₀) (sym (add-one n));
              which-is =
                  ap (λ (cells : List ℕ). set cells n (which_number l.which)) k.which-is
                  ∙ sofar-more which_in (trace_lines a ah b bh) n which₀ l _ w (omega arith) next-at
                  ∙ ap (λ (m : ℕ). sofar which_in (trace_lines a ah b bh) m which₀) (sym (add-one n));
              difference-is =
                  ap (λ (cells : List ℤ). set cells n l.difference) k.difference-is
                  ∙ sofar-more difference_in (trace_lines a ah b bh) n difference₀ l _ w (omega arith) next-at
                  ∙ ap (λ (m : ℕ). sofar difference_in (trace_lines a ah b bh) m difference₀) (sym (add-one n));
            }

        -- one more line, whose fields are stored
        pub more : (l : Line) → l ≡ line_at (trace_lines (drop i a) (drop i ah) (drop j b) (drop j bh)) 0
            → Kept a ah b bh khz₀ which₀ difference₀ (set khz n l.khz) (set which n (which_number l.which))
            (set difference n l.difference) (i + of_first l.which) (j + of_second l.which) (n + 1)
        more l e =
            subst
            (λ (m : Line).
            Kept a ah b bh khz₀ which₀ difference₀ (set khz n m.khz) (set which n (which_number m.which)) (set difference n m.difference)
            (i + of_first m.which) (j + of_second m.which) (n + 1))
            (sym (e ∙ ap (λ (ls : List Line). line_at ls 0) next-goes.is)) next-kept

        -- it accounts for one row or two
        pub more_rows : (l : Line) → l ≡ line_at (trace_lines (drop i a) (drop i ah) (drop j b) (drop j bh)) 0
            → 0 < of_first l.which + of_second l.which
        more_rows l e =
            subst (λ (m : Line). 0 < of_first m.which + of_second m.which)
            (sym (e ∙ ap (λ (ls : List Line). line_at ls 0) next-goes.is)) (let r = next-goes.rows in omega arith)

    nothing : (hs ks : List ℕ) → trace_lines [] hs [] ks ≡ []
    unfolding trace_lines listed
    nothing hs ks = refl

    -- at the end of both traces all lines are written
    pub ended : (khz which : List ℕ) (difference : List ℤ) (i j n : ℕ)
        → Kept a ah b bh khz₀ which₀ difference₀ khz which difference i j n → length a + length b ≤ i + j
        → n ≡ length (trace_lines a ah b bh)
    ended khz which difference i j n k h =
        let f = k.first in
        let s = k.second in
        let w = k.within in
        let none : trace_lines (drop i a) (drop i ah) (drop j b) (drop j bh) ≡ [] =
        ap (λ (l : List ℕ). trace_lines l (drop i ah) (drop j b) (drop j bh)) (drop_of_length-le a {i = i} (omega arith))
        ∙ ap (λ (l : List ℕ). trace_lines [] (drop i ah) l (drop j bh)) (drop_of_length-le b {i = j} (omega arith))
        ∙ nothing (drop i ah) (drop j bh)
        in
        let m = ap length (k.left ∙ none) in
        omega (arith, length-drop n (trace_lines a ah b bh), m)

    pub lengths : (khz which : List ℕ) (difference : List ℤ) (i j n : ℕ)
        → Kept a ah b bh khz₀ which₀ difference₀ khz which difference i j n
        → (length khz ≡ length khz₀) × (length which ≡ length which₀) × (length difference ≡ length difference₀)
    lengths khz which difference i j n k =
        let f = k.first in
        let s = k.second in
        let few = k.few in
        let w = k.within in (
          ap length k.khz-is ∙ sofar-length khz_in (trace_lines a ah b bh) n khz₀ w (omega arith),
          ap length k.which-is ∙ sofar-length which_in (trace_lines a ah b bh) n which₀ w (omega arith),
          ap length k.difference-is ∙ sofar-length difference_in (trace_lines a ah b bh) n difference₀ w (omega arith),
        )

    pub all_left : (khz which : List ℕ) (difference : List ℤ) (i j n : ℕ)
        → Kept a ah b bh khz₀ which₀ difference₀ khz which difference i j n → length a + length b ≤ i + j
        → (khz ≡ column khz_in (trace_lines a ah b bh) khz₀) × (which ≡ column which_in (trace_lines a ah b bh) which₀)
        × (difference ≡ column difference_in (trace_lines a ah b bh) difference₀)
    unfolding column
    all_left khz which difference i j n k h =
        let e = ended khz which difference i j n k h in (
          k.khz-is ∙ sofar-all khz_in (trace_lines a ah b bh) n khz₀ e,
          k.which-is ∙ sofar-all which_in (trace_lines a ah b bh) n which₀ e,
          k.difference-is ∙ sofar-all difference_in (trace_lines a ah b bh) n difference₀ e,
        )
