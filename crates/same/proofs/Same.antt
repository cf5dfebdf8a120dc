-- A number of the format is read back from its pattern, and every NaN's pattern is read as the one NaN. Assumes nothing.
use mathlib.Core.Bool.{Bool, true, false, not, ◌&&◌, ◌||◌}
use mathlib.Core.List.{List, [], ◌∷◌}
use mathlib.Core.Path.{◌≡◌, refl, sym, ap, ap₂, ◌∙◌, subst}
use Prim.Native.Nat.{ℕ, ◌^◌, ◌<◌}
use lib.Dec.{T, eqb, eqb→eq, eqb_refl}
use lib.Ieee.{Float, nan, binary32, is_nan, of_bits, to_bits}
use lib.Ieee.Bits.{is_true, of_bits-to_bits, to_bits-of_bits, nan_bits_is, nan_bits_above}
use Rattle.scalar.proofs.Nan.{nan-only}
use Rattle.same.specs.Same.{nan_pattern, same_bits, Same, SameAll, F32, AllF32, SameIsEqual}

-- ---- the patterns of NaN

pattern-is : (b : ℕ) → nan_pattern b ≡ is_nan (of_bits binary32 b)
pattern-is b = sym (nan_bits_above binary32 b) ∙ nan_bits_is binary32 b

read-nan : (b : ℕ) → nan_pattern b ≡ true → of_bits binary32 b ≡ nan
read-nan b e = nan-only (of_bits binary32 b) (sym (pattern-is b) ∙ e)

-- ---- by words

same_read : (a b : ℕ) → T (same_bits a b) → of_bits binary32 a ≡ of_bits binary32 b
same_read a b t = go (eqb a b) (nan_pattern a) (nan_pattern b) refl refl refl t
  where
    go : (e p q : Bool) → eqb a b ≡ e → nan_pattern a ≡ p → nan_pattern b ≡ q → T (e || (p && q)) → of_bits binary32 a ≡ of_bits binary32 b
    go true p q u v w t = ap (of_bits binary32) (eqb→eq a b (subst T (sym u) tt))
    go false true true u v w t = read-nan a v ∙ sym (read-nan b w)
    go false true false u v w t = absurd t
    go false false q u v w t = absurd t

itself : (b : ℕ) → T (same_bits b b)
itself b = subst (λ (e : Bool). T (e || (nan_pattern b && nan_pattern b))) (sym (is_true (eqb b b) (eqb_refl b))) tt

read_same : (a b : ℕ) → a < 2 ^ 32 → b < 2 ^ 32 → of_bits binary32 a ≡ of_bits binary32 b → T (same_bits a b)
read_same a b h k e = go (is_nan (of_bits binary32 a)) refl
  where
    go : (n : Bool) → is_nan (of_bits binary32 a) ≡ n → T (same_bits a b)
    go true n = rw (pattern-is a ∙ n, pattern-is b ∙ ap is_nan (sym e) ∙ n) (either (eqb a b))
      where
        either : (t : Bool) → T (t || true)
        either true = tt
        either false = tt
    go false n =
        let p : T (not (is_nan (of_bits binary32 a))) = subst (λ (t : Bool). T (not t)) (sym n) tt in
        let q : T (not (is_nan (of_bits binary32 b))) = subst (λ (x : Float). T (not (is_nan x))) e p in
        subst (λ (c : ℕ). T (same_bits a c)) (sym (to_bits-of_bits binary32 a h p) ∙ ap (to_bits binary32) e ∙ to_bits-of_bits binary32 b k q) (itself a)

-- ---- by numbers

pub equal-same : (x y : Float) → x ≡ y → Same x y
unfolding Same
equal-same x y e = subst (λ (z : Float). T (same_bits (to_bits binary32 x) (to_bits binary32 z))) e (itself (to_bits binary32 x))

pub same-equal : (x y : Float) → F32 x → F32 y → Same x y → x ≡ y
unfolding Same
same-equal x y p q t = sym (of_bits-to_bits binary32 x p) ∙ same_read (to_bits binary32 x) (to_bits binary32 y) t ∙ of_bits-to_bits binary32 y q

all-itself : (xs : List Float) → SameAll xs xs
all-itself [] = tt
all-itself (x ∷ xs) = (equal-same x x refl, all-itself xs)

pub equal-all : (xs ys : List Float) → xs ≡ ys → SameAll xs ys
equal-all xs ys e = subst (λ (zs : List Float). SameAll xs zs) e (all-itself xs)

pub all-equal : (xs ys : List Float) → AllF32 xs → AllF32 ys → SameAll xs ys → xs ≡ ys
all-equal [] [] p q t = refl
all-equal [] (y ∷ ys) p q t = absurd t
all-equal (x ∷ xs) [] p q t = absurd t
all-equal (x ∷ xs) (y ∷ ys) p q t = ap₂ (λ (z : Float) (zs : List Float). z ∷ zs) (same-equal x y p.0 q.0 t.0) (all-equal xs ys p.1 q.1 t.1)

zeros-apart : Same (of_bits binary32 0x8000_0000) (of_bits binary32 0) → ⊥
unfolding Same of_bits to_bits
zeros-apart t = t

pub same-is-equal : SameIsEqual
same-is-equal =
    record {
      equal-same = equal-same;
      same-equal = same-equal;
      equal-all = equal-all;
      all-equal = all-equal;
      words_same = λ a b h k t. same_read a b t;
      numbers-same = read_same;
      zeros_differ = zeros-apart;
    }
