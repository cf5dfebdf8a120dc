-- The order of floats as the code's comparisons give it, by the library's lemmas: two numbers of which one is not less are in order the other way round, and equal ones are not less. Assumes nothing.
use mathlib.Core.Path.{◌≡◌, refl}
use mathlib.Core.Bool.{false, true}
use lib.Dec.{T, not_T}
use lib.Ieee.{Float, nan, inf, fin, lt, le, eq, is_nan}
use lib.Ieee.Bits.{is_false}
use Rattle.std.proofs.lemmas.Float.{T_from_true, T_from_false, le_refl, le_of_lt, le_of_not-lt, le_of_eq, le_left, eq-not_lt, eq_flip}

pub at-most-itself : (x : Float) → is_nan x ≡ false → T (le x x)
at-most-itself x n = le_refl x (T_from_false (is_nan x) n)

-- not less is at least, of numbers
pub in_order : (x y : Float) → is_nan x ≡ false → is_nan y ≡ false → lt y x ≡ false → T (le x y)
in_order x y n k e = le_of_not-lt y x (T_from_false (is_nan y) k) (T_from_false (is_nan x) n) (T_from_false (lt y x) e)

pub less-at-most : (x y : Float) → lt x y ≡ true → T (le x y)
less-at-most x y e = le_of_lt x y (T_from_true (lt x y) e)

-- equal is not less, either way
pub equal-not-less : (x y : Float) → eq x y ≡ true → (lt x y ≡ false) × (lt y x ≡ false)
equal-not-less x y e =
    let h = T_from_true (eq x y) e in
    (is_false (lt x y) (not_T (lt x y) (eq-not_lt x y h)), is_false (lt y x) (not_T (lt y x) (eq-not_lt y x (eq_flip x y h))))

pub equal-number : (x y : Float) → eq x y ≡ true → is_nan x ≡ false
equal-number x y e = is_false (is_nan x) (le_left x y (le_of_eq x y (T_from_true (eq x y) e)))

-- nothing is less than NaN, nor NaN than anything
pub nan-not-less : (x : Float) → lt nan x ≡ false
unfolding lt
nan-not-less x = refl

pub not-less-than-nan : (x : Float) → lt x nan ≡ false
unfolding lt
not-less-than-nan nan = refl
not-less-than-nan (inf s) = refl
not-less-than-nan (fin s m e) = refl
