-- Two rising lists with the same numbers are one, and what is true of a kHz is one line. So no other lines hold two traces
-- against one another; and how many there are.
use Prim.Native.Nat.{ℕ, zero, suc, ◌+◌, ◌≤◌, ◌<◌}
use mathlib.Core.Path.{◌≡◌, refl, ap, ◌∙◌, sym}
use mathlib.Core.Bool.{cond}
use mathlib.Core.List.{List, [], ◌∷◌}
use mathlib.Core.Logic.{inl, inr}
use native.Mathlib.Omega.{arith}
use lib.Dec.{eqb}
use lib.IntN.{pos, ◌-ℤ◌}
use lib.ListN.{length, get_or, drop, length-map, length-drop}
use lib.Seq.{ext_get_or}
use Rattle.traces.specs.Lines.{in_both, which_number, of_first, of_second, listed, trace_lines, line_at}
use Rattle.traces.specs.Held.{Has, HasRow, True, lines_khz, shared, Held, LinesCount}
use Rattle.traces.specs.Held as specs
use Rattle.traces.specs.Held.True.{both, first, second}
use Rattle.traces.specs.declared.trace_lines.Line.{Line}
use Rattle.traces.specs.declared.trace_lines.Which.{Which}
use Rattle.traces.proofs.trace_lines.Places.{Above, Up, up, up-drop}
use Rattle.traces.proofs.trace_lines.Steps.{goes}
use Rattle.traces.proofs.trace_laws.Held.{In, has_in, in-has, khz-at, one_place, held}

above_in : (z f : ℕ) (l : List ℕ) → Above z l → In f l → z < f
above_in z f [] a p = absurd p
above_in z f (x ∷ l) a (inl e) = let h : z < x = a.0 in omega arith
above_in z f (x ∷ l) a (inr p) = above_in z f l a.1 p

heads : (x y : ℕ) (l m : List ℕ) → Above x l → Above y m → In x (y ∷ m) → In y (x ∷ l) → x ≡ y
heads x y l m a b (inl e) q = e
heads x y l m a b (inr p) (inl e) = sym e
heads x y l m a b (inr p) (inr q) =
    let h = above_in y x m b p in
    let k = above_in x y l a q in
    absurd (omega arith)

tails : (x y f : ℕ) (l m : List ℕ) → Above x l → x ≡ y → In f l → In f (y ∷ m) → In f m
tails x y f l m a e p (inl g) = let h = above_in x f l a p in absurd (omega arith)
tails x y f l m a e p (inr q) = q

-- a rising list is known by its numbers
pub one_list : (l m : List ℕ) → Up l → Up m → ((f : ℕ) → In f l → In f m) → ((f : ℕ) → In f m → In f l) → l ≡ m
one_list [] [] u v p q = refl
one_list [] (y ∷ m) u v p q = absurd (q y (inl refl))
one_list (x ∷ l) [] u v p q = absurd (p x (inl refl))
one_list (x ∷ l) (y ∷ m) u v p q =
    let e : x ≡ y = heads x y l m u.0 v.0 (p x (inl refl)) (q y (inl refl)) in
    let t : l ≡ m =
    one_list l m u.1 v.1 (λ f r. tails x y f l m u.0 e r (p f (inr r)))
    (λ f r. tails y x f m l v.0 (sym e) r (q f (inr r)))
    in
    rw (e, t)

-- ---- a kHz has one true line

one-height : (xs hs : List ℕ) (f g h k : ℕ) → Up xs → f ≡ g → HasRow xs hs f h → HasRow xs hs g k → h ≡ k
one-height xs hs f g h k u e r s =
    sym r.height
    ∙ ap (λ (i : ℕ). get_or hs i 0) (one_place xs u r.place s.place r.within s.within (r.khz ∙ e ∙ sym s.khz))
    ∙ s.height

row_has : (xs hs : List ℕ) (f g h : ℕ) → f ≡ g → HasRow xs hs f h → Has xs g
row_has xs hs f g h e r = record { place = r.place; within = r.within; is = r.khz ∙ e }

in_both_lem : (f g h h' k k' : ℕ) → f ≡ g → h ≡ h' → k ≡ k'
    → ◌≡◌ {A = Line} (record { khz = f; which = Which.Both; difference = pos h -ℤ pos k })
    (record { khz = g; which = Which.Both; difference = pos h' -ℤ pos k' })
in_both_lem f g h h' k k' p q r = rw (p, q, r)

in_one : (f g : ℕ) (w : Which) → f ≡ g
    → ◌≡◌ {A = Line} (record { khz = f; which = w; difference = pos 0 }) (record { khz = g; which = w; difference = pos 0 })
in_one f g w p = rw p

module _ (a ah b bh : List ℕ) (u : Up a) (v : Up b) where
  one-true : (l m : Line) → l.khz ≡ m.khz → True a ah b bh l → True a ah b bh m → l ≡ m
  one-true l m e (both f h k r s p) (both f' h' k' r' s' p') =
      let g : f ≡ f' = sym (ap (λ (x : Line). x.khz) p) ∙ e ∙ ap (λ (x : Line). x.khz) p' in
      p ∙ in_both_lem f f' h h' k k' g (one-height a ah f f' h h' u g r r') (one-height b bh f f' k k' v g s s') ∙ sym p'
  one-true l m e (both f h k r s p) (first f' h' r' n' p') =
      let g : f ≡ f' = sym (ap (λ (x : Line). x.khz) p) ∙ e ∙ ap (λ (x : Line). x.khz) p' in
      absurd (n' (row_has b bh f f' k g s))
  one-true l m e (both f h k r s p) (second f' k' r' n' p') =
      let g : f ≡ f' = sym (ap (λ (x : Line). x.khz) p) ∙ e ∙ ap (λ (x : Line). x.khz) p' in
      absurd (n' (row_has a ah f f' h g r))
  one-true l m e (first f h r n p) (both f' h' k' r' s' p') =
      let g : f ≡ f' = sym (ap (λ (x : Line). x.khz) p) ∙ e ∙ ap (λ (x : Line). x.khz) p' in
      absurd (n (row_has b bh f' f k' (sym g) s'))
  one-true l m e (first f h r n p) (first f' h' r' n' p') =
      let g : f ≡ f' = sym (ap (λ (x : Line). x.khz) p) ∙ e ∙ ap (λ (x : Line). x.khz) p' in
      p ∙ in_one f f' Which.First g ∙ sym p'
  one-true l m e (first f h r n p) (second f' k' r' n' p') =
      let g : f ≡ f' = sym (ap (λ (x : Line). x.khz) p) ∙ e ∙ ap (λ (x : Line). x.khz) p' in
      absurd (n (row_has b bh f' f k' (sym g) r'))
  one-true l m e (second f k r n p) (both f' h' k' r' s' p') =
      let g : f ≡ f' = sym (ap (λ (x : Line). x.khz) p) ∙ e ∙ ap (λ (x : Line). x.khz) p' in
      absurd (n (row_has a ah f' f h' (sym g) r'))
  one-true l m e (second f k r n p) (first f' h' r' n' p') =
      let g : f ≡ f' = sym (ap (λ (x : Line). x.khz) p) ∙ e ∙ ap (λ (x : Line). x.khz) p' in
      absurd (n (row_has a ah f' f h' (sym g) r'))
  one-true l m e (second f k r n p) (second f' k' r' n' p') =
      let g : f ≡ f' = sym (ap (λ (x : Line). x.khz) p) ∙ e ∙ ap (λ (x : Line). x.khz) p' in
      p ∙ in_one f f' Which.Second g ∙ sym p'

  same-khz : (ls ms : List Line) → Held a ah b bh ls → Held a ah b bh ms → lines_khz ls ≡ lines_khz ms
  same-khz ls ms p q =
      one_list (lines_khz ls) (lines_khz ms) (up _ p.rising) (up _ q.rising)
      (λ f r. has_in f (lines_khz ms) (q.every f (p.no_other f (in-has f (lines_khz ls) r))))
      (λ f r. has_in f (lines_khz ls) (p.every f (q.no_other f (in-has f (lines_khz ms) r))))

  pub one-held : (ls ms : List Line) → Held a ah b bh ls → Held a ah b bh ms → ls ≡ ms
  one-held ls ms p q =
      let e = same-khz ls ms p q in
      let c = length-map ls (λ (l : Line). l.khz) in
      let d = length-map ms (λ (l : Line). l.khz) in
      let s : length ls ≡ length ms = sym c ∙ ap length e ∙ d in
      ext_get_or _ ls ms s
      (λ i h. one-true (line_at ls i) (line_at ms i)
      (sym (khz-at ls i) ∙ ap (λ (l : List ℕ). get_or l i 0) e ∙ khz-at ms i) (p.true-lines i h) (q.true-lines i (omega arith)))

pub only-lines : specs.OnlyLines
only-lines a ah b bh ls ra rb p =
    one-held a ah b bh (up a ra.rising) (up b rb.rising) ls (trace_lines a ah b bh) p (held a ah b bh ra rb)

-- ---- the count

shared-cons : (l : Line) (ls : List Line) → shared (l ∷ ls) ≡ cond (eqb (which_number l.which) in_both) 1 0 + shared ls
unfolding shared
shared-cons l ls = refl

none-counted : (ah bh : List ℕ) → length (trace_lines [] ah [] bh) + shared (trace_lines [] ah [] bh) ≡ 0
unfolding trace_lines listed shared
none-counted ah bh = refl

counted : (m : ℕ) (a ah b bh : List ℕ) → Up a → Up b → length a ≡ length ah → length b ≡ length bh
    → length a + length b ≤ suc m → 0 < length a + length b
    → ((a ah b bh : List ℕ) → Up a → Up b → length a ≡ length ah → length b ≡ length bh → length a + length b ≤ m
    → length (trace_lines a ah b bh) + shared (trace_lines a ah b bh) ≡ length a + length b)
    → length (trace_lines a ah b bh) + shared (trace_lines a ah b bh) ≡ length a + length b
counted m a ah b bh u v e g h some rest =
    let s = goes a ah b bh u v e g some in
    let w = s.line.which in
    let p = of_first w in
    let q = of_second w in
    let rows = s.rows in
    let f = s.first_fits in
    let t = s.second_fits in
    let da = length-drop p a in
    let dah = length-drop p ah in
    let db = length-drop q b in
    let dbh = length-drop q bh in
    let ls = trace_lines (drop p a) (drop p ah) (drop q b) (drop q bh) in
    let r =
    rest (drop p a) (drop p ah) (drop q b) (drop q bh) (up-drop p a u) (up-drop q b v) (omega arith) (omega arith) (omega arith)
    in
    let c = shared-cons s.line ls in
    rw s.is (omega arith)

count_by : (m : ℕ) (a ah b bh : List ℕ) → Up a → Up b → length a ≡ length ah → length b ≡ length bh → length a + length b ≤ m
    → length (trace_lines a ah b bh) + shared (trace_lines a ah b bh) ≡ length a + length b
count_by zero [] ah [] bh u v e g h = none-counted ah bh
count_by zero [] ah (y ∷ b) bh u v e g h = absurd (omega arith)
count_by zero (x ∷ a) ah b bh u v e g h = absurd (omega arith)
count_by (suc m) [] ah [] bh u v e g h = none-counted ah bh
count_by (suc m) [] ah (y ∷ b) bh u v e g h = counted m [] ah (y ∷ b) bh u v e g h (omega arith) (count_by m)
count_by (suc m) (x ∷ a) ah b bh u v e g h = counted m (x ∷ a) ah b bh u v e g h (omega arith) (count_by m)

pub lines-count : LinesCount
lines-count a ah b bh ra rb =
    count_by (length a + length b) a ah b bh (up a ra.rising) (up b rb.rising) ra.heights rb.heights (omega arith)
