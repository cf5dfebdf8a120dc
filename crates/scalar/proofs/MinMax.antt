-- The paper's sentences on minimum and maximum, and that each answer is one of the operands and not above, or below, either. Both are the second operand where the first is
-- NaN or the second is better, so each sentence is proved once, over what is better. Assumes nothing.
use mathlib.Core.Path.{◌≡◌, refl, sym, ap, ◌∙◌}
use mathlib.Core.Logic.{◌⊎◌, inl, inr}
use mathlib.Core.Bool.{Bool, true, false, ◌||◌, true≢false}
use lib.Dec.{T}
use lib.Ieee.{Float, nan, lt, le, eq, is_nan}
use Rattle.scalar.specs.Scalar.{or_second, min_of, max_of}
use Rattle.scalar.specs.Laws as Laws
use Rattle.scalar.proofs.Nan.{nan-only}
use Rattle.scalar.proofs.Order.{at-most-itself, in_order, less-at-most, equal-not-less, equal-number, nan-not-less, not-less-than-nan}

-- ---- the sentences
nan_is : is_nan nan ≡ true
unfolding is_nan
nan_is = refl

-- `better x y` is a strict order of the numbers, `asGood` the one that allows equality
module _ (better asGood : Float → Float → Bool) where
  abbrev pick : Float → Float → Float
  pick a b = or_second (is_nan a || better b a) a b

  drops-first : (b : Float) → pick nan b ≡ b
  unfolding or_second
  drops-first b = rw nan_is

  drops-second : (a : Float) → better nan a ≡ false → pick a nan ≡ a
  unfolding or_second
  drops-second a e = go (is_nan a) refl
    where
      go : (t : Bool) → is_nan a ≡ t → or_second (is_nan a || better nan a) a nan ≡ a
      go true n = rw n (sym (nan-only a n))
      go false n = rw (n, e)

  first-of-equals : (a b : Float) → is_nan a ≡ false → better b a ≡ false → pick a b ≡ a
  unfolding or_second
  first-of-equals a b n e = rw (n, e)

  nan-only-from-two : (a b : Float) → ((x : Float) → better nan x ≡ false) → pick a b ≡ nan → (a ≡ nan) × (b ≡ nan)
  unfolding or_second
  nan-only-from-two a b never h = go (is_nan a) (better b a) refl refl
    where
      go : (t u : Bool) → is_nan a ≡ t → better b a ≡ u → (a ≡ nan) × (b ≡ nan)
      go true u n e = (nan-only a n, rw n at h)
      go false true n e = let i : b ≡ nan = rw (n, e) at h in absurd (true≢false (sym e ∙ ap (λ (x : Float). better x a) i ∙ never a))
      go false false n e = let i : a ≡ nan = rw (n, e) at h in absurd (true≢false (sym nan_is ∙ ap is_nan (sym i) ∙ n))

  is-operand : (a b : Float) → (pick a b ≡ a) ⊎ (pick a b ≡ b)
  unfolding or_second
  is-operand a b = go (is_nan a || better b a)
    where
      go : (t : Bool) → (or_second t a b ≡ a) ⊎ (or_second t a b ≡ b)
      go true = inr refl
      go false = inl refl

  as-good : (a b : Float)
      → ((x : Float) → is_nan x ≡ false → T (asGood x x))
      → ((x y : Float) → better x y ≡ true → T (asGood x y))
      → ((x y : Float) → is_nan x ≡ false → is_nan y ≡ false → better y x ≡ false → T (asGood x y))
      → (is_nan a ≡ false → T (asGood (pick a b) a)) × (is_nan b ≡ false → T (asGood (pick a b) b))
  unfolding or_second
  as-good a b itself weaker total = go (is_nan a) (better b a) refl refl
    where
      go : (t u : Bool) → is_nan a ≡ t → better b a ≡ u → (is_nan a ≡ false → T (asGood (or_second (is_nan a || better b a) a b) a)) × (is_nan b ≡ false → T (asGood (or_second (is_nan a || better b a) a b) b))
      go true u n e = (λ k. absurd (true≢false (sym n ∙ k)), λ k. rw n (itself b k))
      go false true n e = (λ k. rw (n, e) (weaker b a e), λ k. rw (n, e) (itself b k))
      go false false n e = (λ k. rw (n, e) (itself a k), λ k. rw (n, e) (total a b n k e))

abbrev pub more : Float → Float → Bool
more x y = lt y x

abbrev at_least : Float → Float → Bool
at_least x y = le y x

-- ---- minimum
min-drops-nan-first : (b : Float) → min_of nan b ≡ b
unfolding min_of
min-drops-nan-first b = drops-first lt le b

min-drops-nan-second : (a : Float) → min_of a nan ≡ a
unfolding min_of
min-drops-nan-second a = drops-second lt le a (nan-not-less a)

min-first-of-equals : (a b : Float) → eq a b ≡ true → min_of a b ≡ a
unfolding min_of
min-first-of-equals a b e = first-of-equals lt le a b (equal-number a b e) (equal-not-less a b e).1

min-nan-only-from-two : (a b : Float) → min_of a b ≡ nan → (a ≡ nan) × (b ≡ nan)
unfolding min_of
min-nan-only-from-two a b h = nan-only-from-two lt le a b nan-not-less h

min-is-operand : (a b : Float) → (min_of a b ≡ a) ⊎ (min_of a b ≡ b)
unfolding min_of
min-is-operand a b = is-operand lt le a b

min-not-above : (a b : Float) → (is_nan a ≡ false → T (le (min_of a b) a)) × (is_nan b ≡ false → T (le (min_of a b) b))
unfolding min_of
min-not-above a b = as-good lt le a b at-most-itself less-at-most in_order

-- ---- maximum
max-drops-nan-first : (b : Float) → max_of nan b ≡ b
unfolding max_of
max-drops-nan-first b = drops-first more at_least b

max-drops-nan-second : (a : Float) → max_of a nan ≡ a
unfolding max_of
max-drops-nan-second a = drops-second more at_least a (not-less-than-nan a)

max-first-of-equals : (a b : Float) → eq a b ≡ true → max_of a b ≡ a
unfolding max_of
max-first-of-equals a b e = first-of-equals more at_least a b (equal-number a b e) (equal-not-less a b e).0

max-nan-only-from-two : (a b : Float) → max_of a b ≡ nan → (a ≡ nan) × (b ≡ nan)
unfolding max_of
max-nan-only-from-two a b h = nan-only-from-two more at_least a b not-less-than-nan h

max-is-operand : (a b : Float) → (max_of a b ≡ a) ⊎ (max_of a b ≡ b)
unfolding max_of
max-is-operand a b = is-operand more at_least a b

max-not-below : (a b : Float) → (is_nan a ≡ false → T (le a (max_of a b))) × (is_nan b ≡ false → T (le b (max_of a b)))
unfolding max_of
max-not-below a b = as-good more at_least a b at-most-itself (λ x y e. less-at-most y x e) (λ x y n k e. in_order y x k n e)

pub min-max : Laws.MinMax
min-max =
    record {
      min-drops-nan-first = min-drops-nan-first;
      min-drops-nan-second = min-drops-nan-second;
      min-first-of-equals = min-first-of-equals;
      min-nan-only-from-two = min-nan-only-from-two;
      min-is-operand = min-is-operand;
      min-not-above = min-not-above;
      max-drops-nan-first = max-drops-nan-first;
      max-drops-nan-second = max-drops-nan-second;
      max-first-of-equals = max-first-of-equals;
      max-nan-only-from-two = max-nan-only-from-two;
      max-is-operand = max-is-operand;
      max-not-below = max-not-below;
    }
