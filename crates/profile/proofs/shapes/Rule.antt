-- A density that is not zero is one of the five candidates, since a maximum is one of its operands; what is not worked out is 0, and so it is not that one. Of two marks with the paper's property neither can come before the other.
use mathlib.Core.Bool.{Bool, true, false, not, cond, ◌&&◌, ◌||◌, true≢false}
use mathlib.Core.Logic.{◌⊎◌, inl, inr}
use mathlib.Core.Path.{◌≡◌, refl, sym, ap, ◌∙◌, subst}
use Prim.Native.Nat.{ℕ, zero, suc, ◌<◌, ◌≤◌}
use native.Mathlib.Omega.{arith}
use borrow.Author.Tests.{ltb-true, ltb-false, not-false}
use lib.Dec.{T, ltb}
use lib.Ieee.{Float, eq, ne, le, is_nan, of_bits}
use lib.Ieee.Bits.{is_true}
use Rattle.std.proofs.lemmas.Bool.{and_from, and_right}
use Rattle.scalar.specs.F32.{◌-f◌, ◌≤f◌, ◌≥f◌, ◌==f◌}
use Rattle.scalar.specs.Literals.{f0}
use Rattle.scalar.specs.Scalar.{max_of}
use Rattle.scalar.proofs.Nan.{differs-is-nan}
use Rattle.scalar.proofs.Order.{in_order, equal-not-less}
use Rattle.scalar.proofs.MinMax.{min-max}
use Rattle.layers.specs.declared.IonoState.{IonoState}
use Rattle.profile.specs.Density.{fnval_of, fne_of, fnd_of, fn1_of, fn2_of, candidates_of, largest_of, density_of}
use Rattle.profile.specs.Lecden.{supplied_of, lecden_of}
use Rattle.profile.specs.declared.shape_densities.Curves.{Curves}
use Rattle.profile.specs.Mark.{mark_number_of}
use Rattle.profile.specs.Marks.{first_of, mark_of, marks_of}
use Rattle.profile.specs.Meaning.{worked_out, shape_value, makes, FirstShape, Marked, MarkRule, SlotMarks}
use Rattle.profile.specs.declared.shapes.Mark.{Mark}
use Rattle.profile.proofs.shapes.NotBelow.{Least, density-least}

-- ---- what is not worked out is 0

tail-else : (t : Bool) (x : Float) → not t ≡ false → cond t f0 x ≡ f0
tail-else true x e = refl
tail-else false x e = absurd (true≢false e)

else-zero : (c : Curves) (h : Float) (m : Mark) → worked_out m c h ≡ false → shape_value m c h ≡ f0
unfolding fnd_of fne_of fnval_of fn1_of fn2_of
else-zero c h Mark.None e = refl
else-zero c h Mark.Tail e = tail-else (h -f c.hex ≥f f0) _ e
else-zero c h Mark.E e = rw e
else-zero c h Mark.Valley e = rw e
else-zero c h Mark.F1 e = rw e
else-zero c h Mark.F2 e = rw e
else-zero c h Mark.Gap e = refl

never-both-by : (t u : Bool) → (not t && (t && u)) ≡ false
never-both-by true u = refl
never-both-by false u = refl

-- ---- the first that is equal to the density

equal-itself : (x : Float) → is_nan x ≡ false → eq x x ≡ true
unfolding ne
equal-itself x n = not-false (eq x x) (differs-is-nan x ∙ n)

-- what +0 is equal to is zero
zero-turned : (x : Float) → Least x → eq f0 x ≡ true → eq x f0 ≡ true
unfolding le is_nan of_bits
zero-turned x l e = is_true (eq x f0) (subst (λ (t : Bool). T (t || eq x f0)) l.1 (in_order x f0 l.0 refl (equal-not-less f0 x e).0))

-- what is so of the operands is so of the maximum
of-max : (P : Float → Type 0) (a b : Float) → P a → P b → P (max_of a b)
of-max P a b p q = go (min-max.max-is-operand a b)
  where
    go : (max_of a b ≡ a) ⊎ (max_of a b ≡ b) → P (max_of a b)
    go (inl e) = subst P (sym e) p
    go (inr e) = subst P (sym e) q

abbrev is : Curves → Float → Mark → Bool
is c h m = shape_value m c h ==f density_of c h

abbrev Other : Curves → Float → Float → Type 0
Other c h x = (x ==f density_of c h) ≡ false

none_equal : (c : Curves) (h : Float) → is c h Mark.Tail ≡ false → is c h Mark.E ≡ false → is c h Mark.Valley ≡ false → is c h Mark.F1 ≡ false → is c h Mark.F2 ≡ false → Other c h (density_of c h)
unfolding density_of largest_of candidates_of
none_equal c h t e v f g =
    of-max (Other c h) _ _ (of-max (Other c h) _ _ (of-max (Other c h) _ _ (of-max (Other c h) _ _ t e) v) f) g

last_one : (c : Curves) (h : Float) → is c h Mark.Tail ≡ false → is c h Mark.E ≡ false → is c h Mark.Valley ≡ false → is c h Mark.F1 ≡ false → is c h Mark.F2 ≡ true
last_one c h t e v f = go (is c h Mark.F2) refl
  where
    go : (b : Bool) → is c h Mark.F2 ≡ b → is c h Mark.F2 ≡ true
    go true g = g
    go false g = absurd (true≢false (sym (equal-itself (density_of c h) (density-least c h).0) ∙ none_equal c h t e v f g))

module _ (c : Curves) (h : Float) where
  missed : (m : Mark) → is c h m ≡ false → makes m c h ≡ false
  missed m e = and_right (worked_out m c h) (is c h m) e

  -- a density that is not zero
  module _ (some : (density_of c h ==f f0) ≡ false) where
    worked : (m : Mark) → is c h m ≡ true → (t : Bool) → worked_out m c h ≡ t → worked_out m c h ≡ true
    worked m e true w = w
    worked m e false w =
        let z : eq f0 (density_of c h) ≡ true = subst (λ (x : Float). eq x (density_of c h) ≡ true) (else-zero c h m w) e in
        absurd (true≢false (sym (zero-turned (density_of c h) (density-least c h) z) ∙ some))

    made : (m : Mark) → is c h m ≡ true → makes m c h ≡ true
    made m e = and_from (worked_out m c h) (is c h m) (worked m e (worked_out m c h) refl) e

    -- nothing before m makes the density, where no shape before m is equal to it
    before : (m : Mark) → mark_number_of m ≤ 5 → (1 < mark_number_of m → is c h Mark.Tail ≡ false) → (2 < mark_number_of m → is c h Mark.E ≡ false) → (3 < mark_number_of m → is c h Mark.Valley ≡ false) → (4 < mark_number_of m → is c h Mark.F1 ≡ false)
        → (n : Mark) → mark_number_of n < mark_number_of m → makes n c h ≡ false
    before m shape t e v f Mark.None l = refl
    before m shape t e v f Mark.Tail l = missed Mark.Tail (t l)
    before m shape t e v f Mark.E l = missed Mark.E (e l)
    before m shape t e v f Mark.Valley l = missed Mark.Valley (v l)
    before m shape t e v f Mark.F1 l = missed Mark.F1 (f l)
    before m shape t e v f Mark.F2 l = absurd (omega arith)
    before m shape t e v f Mark.Gap l = absurd (omega arith)

    -- by the four tests in their order; where none holds, the density is F2's
    by_tests : (t e v f : Bool) → is c h Mark.Tail ≡ t → is c h Mark.E ≡ e → is c h Mark.Valley ≡ v → is c h Mark.F1 ≡ f
        → FirstShape (cond t Mark.Tail (cond e Mark.E (cond v Mark.Valley (cond f Mark.F1 Mark.F2)))) c h
    by_tests true e v f it ie iv jf =
        record { made = made Mark.Tail it; first = before Mark.Tail (omega arith) (λ l. absurd (omega arith)) (λ l. absurd (omega arith)) (λ l. absurd (omega arith)) (λ l. absurd (omega arith)) }
    by_tests false true v f it ie iv jf =
        record { made = made Mark.E ie; first = before Mark.E (omega arith) (λ l. it) (λ l. absurd (omega arith)) (λ l. absurd (omega arith)) (λ l. absurd (omega arith)) }
    by_tests false false true f it ie iv jf =
        record { made = made Mark.Valley iv; first = before Mark.Valley (omega arith) (λ l. it) (λ l. ie) (λ l. absurd (omega arith)) (λ l. absurd (omega arith)) }
    by_tests false false false true it ie iv jf =
        record { made = made Mark.F1 jf; first = before Mark.F1 (omega arith) (λ l. it) (λ l. ie) (λ l. iv) (λ l. absurd (omega arith)) }
    by_tests false false false false it ie iv jf =
        record { made = made Mark.F2 (last_one c h it ie iv jf); first = before Mark.F2 (omega arith) (λ l. it) (λ l. ie) (λ l. iv) (λ l. jf) }

-- ---- the mark, and no other

marked_by : (z : Bool) (c : Curves) (h : Float) → (density_of c h ==f f0) ≡ z → Marked (cond z Mark.Gap (first_of (candidates_of c h) (density_of c h))) c h
unfolding first_of candidates_of
marked_by true c h e = inl (refl, e)
marked_by false c h e = inr (by_tests c h e (is c h Mark.Tail) (is c h Mark.E) (is c h Mark.Valley) (is c h Mark.F1) refl refl refl refl, e)

marked : (c : Curves) (h : Float) → Marked (mark_of c h) c h
unfolding mark_of density_of
marked c h = marked_by (density_of c h ==f f0) c h refl

of_number : ℕ → Mark
of_number zero = Mark.None
of_number (suc zero) = Mark.Tail
of_number (suc (suc zero)) = Mark.E
of_number (suc (suc (suc zero))) = Mark.Valley
of_number (suc (suc (suc (suc zero)))) = Mark.F1
of_number (suc (suc (suc (suc (suc zero))))) = Mark.F2
of_number (suc (suc (suc (suc (suc (suc n)))))) = Mark.Gap

told-apart : (m : Mark) → of_number (mark_number_of m) ≡ m
unfolding of_number
told-apart Mark.None = refl
told-apart Mark.Tail = refl
told-apart Mark.E = refl
told-apart Mark.Valley = refl
told-apart Mark.F1 = refl
told-apart Mark.F2 = refl
told-apart Mark.Gap = refl

one-first : (c : Curves) (h : Float) (m n : Mark) → FirstShape m c h → FirstShape n c h → (t u : Bool) → ltb (mark_number_of m) (mark_number_of n) ≡ t → ltb (mark_number_of n) (mark_number_of m) ≡ u → m ≡ n
one-first c h m n a b true u e i = absurd (true≢false (sym a.made ∙ b.first m (ltb-true (mark_number_of m) (mark_number_of n) e)))
one-first c h m n a b false true e i = absurd (true≢false (sym b.made ∙ a.first n (ltb-true (mark_number_of n) (mark_number_of m) i)))
one-first c h m n a b false false e i =
    let p : mark_number_of n ≤ mark_number_of m = ltb-false (mark_number_of m) (mark_number_of n) e in
    let q : mark_number_of m ≤ mark_number_of n = ltb-false (mark_number_of n) (mark_number_of m) i in
    sym (told-apart m) ∙ ap of_number (omega arith) ∙ told-apart n

one-mark : (c : Curves) (h : Float) (m n : Mark) → Marked m c h → Marked n c h → m ≡ n
one-mark c h m n (inl a) (inl b) = a.0 ∙ sym b.0
one-mark c h m n (inl a) (inr b) = absurd (true≢false (sym a.1 ∙ b.1))
one-mark c h m n (inr a) (inl b) = absurd (true≢false (sym b.1 ∙ a.1))
one-mark c h m n (inr a) (inr b) = one-first c h m n a.0 b.0 (ltb (mark_number_of m) (mark_number_of n)) (ltb (mark_number_of n) (mark_number_of m)) refl refl

pub mark-rule : (c : Curves) (h : Float) → MarkRule c h
mark-rule c h =
    record {
      never_both = never-both-by (h -f c.hex ≥f f0) (h -f c.hte ≤f f0);
      else-zero = else-zero c h;
      a-number = (density-least c h).0;
      not-below = (density-least c h).1;
      marked = marked c h;
      only = λ m w. one-mark c h m (mark_of c h) w (marked c h);
    }

pub slot-marks : (s : IonoState) (k : ℕ) → SlotMarks s k
unfolding marks_of supplied_of lecden_of
slot-marks s k = record { supplied = λ e. rw e; densities = λ e. rw e; marks = λ e. rw e }
