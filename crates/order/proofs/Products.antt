-- `add` and `mul` keep the order: for every format, with overflow, underflow and infinite operands.
use mathlib.Core.Path.{◌≡◌, sym, ap, ◌∙◌, subst}
use Prim.Native.Nat.{ℕ, zero, suc, ◌+◌, ◌*◌, ◌^◌, ◌≤◌, ◌<◌, zero-le}
use native.Mathlib.Nat.{le_trans, le_of_eq, le_refl, lt_of_le_of_lt, lt_irrefl, zero-mul, mul-one, mul_comm, min-le_left, mul_assoc, mul-mul-mul_comm, mul-pos, mul-le-mul_left, add-le-add, sub-le-sub_left}
use native.Mathlib.Omega.{arith}
use mathlib.Core.Bool.{Bool, true, false, ◌&&◌, cond}
use lib.IntN.{ℤ}
use lib.Dec.{T, leb, eqb, leb→le, ltb→lt, eqb→eq, eqb-suc-zero}
use lib.Ieee.{Float, nan, inf, fin, Format, unlike, up, down, lt, le, fits, round, add, mul}
use lib.Ieee.Fits.{and_l, and_r, down_pos, add-fits, mul-fits}
use lib.Ieee.Scale.{overflow, finite, grid, round_under}
use lib.Ieee.Exact.{HasValue, round_exact}
use lib.Ieee.Positive.{positive, num, den, le→cross}
use Rattle.rounding.proofs.Units.{on-grid}
use Rattle.order.specs.Units.{real, key_of, mag, key, rounded, nought}
use Rattle.order.proofs.Keys.{mag_of, mag-lt, mag-inf}
use Rattle.order.proofs.Sums.{round-as, round-key, rounded-mono, total_mono, add-key, add-real, finite-real}
use Rattle.order.proofs.Tests.{le→keys, keys→le}

-- ---- the ends
pub le-top : (x : Float) → T (real x) → T (le x (inf false))
unfolding le
le-top nan h = absurd h
le-top (inf true) h = tt
le-top (inf false) h = tt
le-top (fin s m e) h = tt

pub bottom-le : (x : Float) → T (real x) → T (le (inf true) x)
unfolding le
bottom-le nan h = absurd h
bottom-le (inf true) h = tt
bottom-le (inf false) h = tt
bottom-le (fin s m e) h = tt

pub le-refl-real : (f : Format) (x : Float) → T (fits f x) → T (real x) → T (le x x)
le-refl-real f x p a = keys→le f x x p p a a (le_refl (key f x))

-- ---- the sum
add-fin : (f : Format) (x x' y : Float) → T (fits f x) → T (fits f x') → T (fits f y) → T (finite x) → T (finite x') → T (finite y) → T (le x x') → T (le (add f x y) (add f x' y))
add-fin f x x' y p p' q a a' b h =
    keys→le f (add f x y) (add f x' y) (add-fits f x y) (add-fits f x' y) (add-real f x y a b) (add-real f x' y a' b)
    (le_trans (le_of_eq (add-key f x y p q a b))
    (le_trans (total_mono f (key f x + key f y) (key f x' + key f y) (add-le-add (le→keys f x x' p p' (finite-real x a) (finite-real x' a') h) (le_refl (key f y)))) (le_of_eq (sym (add-key f x' y p' q a' b)))))

-- a larger operand gives a sum that is no smaller, if neither sum is a NaN
pub add-mono : (f : Format) (x x' y : Float) → T (fits f x) → T (fits f x') → T (fits f y) → T (le x x') → T (real (add f x y)) → T (real (add f x' y)) → T (le (add f x y) (add f x' y))
add-mono f nan x' y p p' q h a b = absurd (unfold le in h)
add-mono f (inf true) x' y p p' q h a b = low-left y a b
  where
    low-left : (y : Float) → T (real (add f (inf true) y)) → T (real (add f x' y)) → T (le (add f (inf true) y) (add f x' y))
    low-left nan a b = absurd (unfold add in a)
    low-left (inf true) a b = unfold add in bottom-le (add f x' (inf true)) b
    low-left (inf false) a b = absurd (unfold add in a)
    low-left (fin t n d) a b = unfold add in bottom-le (add f x' (fin t n d)) b
add-mono f (inf false) nan y p p' q h a b = absurd (unfold le in h)
add-mono f (inf false) (inf true) y p p' q h a b = absurd (unfold le in h)
add-mono f (inf false) (inf false) y p p' q h a b = le-refl-real f (add f (inf false) y) (add-fits f (inf false) y) a
add-mono f (inf false) (fin s m e) y p p' q h a b = absurd (unfold le in h)
add-mono f (fin s m e) nan y p p' q h a b = absurd (unfold le in h)
add-mono f (fin s m e) (inf true) y p p' q h a b = absurd (unfold le in h)
add-mono f (fin s m e) (inf false) nan p p' q h a b = absurd (unfold add in b)
add-mono f (fin s m e) (inf false) (inf true) p p' q h a b = absurd (unfold add in b)
add-mono f (fin s m e) (inf false) (inf false) p p' q h a b = unfold add le in tt
add-mono f (fin s m e) (inf false) (fin t n d) p p' q h a b = unfold add in le-top (add f (fin s m e) (fin t n d)) a
add-mono f (fin s m e) (fin s' m' e') nan p p' q h a b = absurd (unfold add in a)
add-mono f (fin s m e) (fin s' m' e') (inf true) p p' q h a b = unfold add le in tt
add-mono f (fin s m e) (fin s' m' e') (inf false) p p' q h a b = unfold add le in tt
add-mono f (fin s m e) (fin s' m' e') (fin t n d) p p' q h a b = add-fin f (fin s m e) (fin s' m' e') (fin t n d) p p' q tt tt tt h

-- ---- the product of x and a positive y
prod_mono : (M D N E N' E' : ℕ) → N * E' ≤ N' * E → M * N * (D * E') ≤ M * N' * (D * E)
prod_mono M D N E N' E' h = le_trans (le_of_eq (mul-mul-mul_comm M N D E')) (le_trans (mul-le-mul_left (M * D) h) (le_of_eq (mul-mul-mul_comm M D N' E)))

fin-key : (f : Format) (s : Bool) (m : ℕ) (e : ℤ) (n : ℕ) (d : ℤ) → key f (mul f (fin s m e) (fin false n d)) ≡ key_of (overflow f) s (rounded f (m * up e * (n * up d)) (down e * down d))
unfolding mul
fin-key f true m e n d = round-key f true (m * up e * (n * up d)) (down e * down d)
fin-key f false m e n d = round-key f false (m * up e * (n * up d)) (down e * down d)

inf-mul : (f : Format) (s : Bool) (y : Float) → T (positive y) → mul f (inf s) y ≡ inf s
inf-mul f s nan h = absurd h
inf-mul f s (inf t) h = absurd h
inf-mul f s (fin true n d) h = absurd h
inf-mul f s (fin false zero d) h = absurd h
inf-mul f true (fin false (suc n) d) h = unfold mul in ap (λ (b : Bool). cond b nan (inf true)) (eqb-suc-zero n)
inf-mul f false (fin false (suc n) d) h = unfold mul in ap (λ (b : Bool). cond b nan (inf false)) (eqb-suc-zero n)

fin-mul-real : (f : Format) (s : Bool) (m : ℕ) (e : ℤ) (t : Bool) (n : ℕ) (d : ℤ) → T (real (mul f (fin s m e) (fin t n d)))
unfolding mul
fin-mul-real f s m e t n d = (round-as f (unlike s t) (m * up e * (n * up d)) (down e * down d)).2

pub mul-real : (f : Format) (x y : Float) → T (real x) → T (positive y) → T (real (mul f x y))
mul-real f nan y a h = absurd a
mul-real f (inf s) y a h = subst (λ (z : Float). T (real z)) (sym (inf-mul f s y h)) tt
mul-real f (fin s m e) nan a h = absurd h
mul-real f (fin s m e) (inf t) a h = absurd h
mul-real f (fin s m e) (fin t n d) a h = fin-mul-real f s m e t n d

parts-mono : (f : Format) (M D n : ℕ) (d : ℤ) (n' : ℕ) (d' : ℤ) → 0 < D → n * up d * down d' ≤ n' * up d' * down d → rounded f (M * (n * up d)) (D * down d) ≤ rounded f (M * (n' * up d')) (D * down d')
parts-mono f M D n d n' d' P h = rounded-mono f (M * (n * up d)) (D * down d) (M * (n' * up d')) (D * down d') (mul-pos P (down_pos d)) (mul-pos P (down_pos d')) (prod_mono M D (n * up d) (down d) (n' * up d') (down d') h)

to_le : (f : Format) (m : ℕ) (e : ℤ) (s : Bool) (n : ℕ) (d : ℤ) (n' : ℕ) (d' : ℤ) → key f (mul f (fin s m e) (fin false n d)) ≤ key f (mul f (fin s m e) (fin false n' d')) → T (le (mul f (fin s m e) (fin false n d)) (mul f (fin s m e) (fin false n' d')))
to_le f m e s n d n' d' h = keys→le f (mul f (fin s m e) (fin false n d)) (mul f (fin s m e) (fin false n' d')) (mul-fits f (fin s m e) (fin false n d)) (mul-fits f (fin s m e) (fin false n' d')) (fin-mul-real f s m e false n d) (fin-mul-real f s m e false n' d') h

rise : (f : Format) (m : ℕ) (e : ℤ) (n : ℕ) (d : ℤ) (n' : ℕ) (d' : ℤ) → n * up d * down d' ≤ n' * up d' * down d → T (le (mul f (fin false m e) (fin false n d)) (mul f (fin false m e) (fin false n' d')))
rise f m e n d n' d' h =
    to_le f m e false n d n' d'
    (le_trans (le_of_eq (fin-key f false m e n d)) (le_trans (add-le-add (le_refl (overflow f)) (parts-mono f (m * up e) (down e) n d n' d' (down_pos e) h)) (le_of_eq (sym (fin-key f false m e n' d')))))

fall : (f : Format) (m : ℕ) (e : ℤ) (n : ℕ) (d : ℤ) (n' : ℕ) (d' : ℤ) → n * up d * down d' ≤ n' * up d' * down d → T (le (mul f (fin true m e) (fin false n' d')) (mul f (fin true m e) (fin false n d)))
fall f m e n d n' d' h =
    to_le f m e true n' d' n d
    (le_trans (le_of_eq (fin-key f true m e n' d')) (le_trans (sub-le-sub_left (parts-mono f (m * up e) (down e) n d n' d' (down_pos e) h) (overflow f)) (le_of_eq (sym (fin-key f true m e n d)))))

-- x is -0: both products are zero
flat : (f : Format) (m : ℕ) (e : ℤ) (n : ℕ) (d : ℤ) (n' : ℕ) (d' : ℤ) → m * up e ≡ 0 → T (le (mul f (fin true m e) (fin false n d)) (mul f (fin true m e) (fin false n' d')))
flat f m e n d n' d' z =
    to_le f m e true n d n' d'
    (le_trans (le_of_eq (fin-key f true m e n d)) (le_trans (sub-le-sub_left
    (rounded-mono f (m * up e * (n' * up d')) (down e * down d') (m * up e * (n * up d)) (down e * down d) (mul-pos (down_pos e) (down_pos d')) (mul-pos (down_pos e) (down_pos d)) (gone (m * up e) (n' * up d') (down e * down d) (m * up e * (n * up d) * (down e * down d')) z)) (overflow f))
    (le_of_eq (sym (fin-key f true m e n' d')))))
  where
    gone : (a b c r : ℕ) → a ≡ 0 → a * b * c ≤ r
    gone a b c r h = le_trans (le_of_eq (ap (λ (k : ℕ). k * b * c) h ∙ ap (λ (k : ℕ). k * c) (zero-mul b) ∙ zero-mul c)) zero-le

minus-zero : (m : ℕ) (e : ℤ) → T (le nought (fin true m e)) → m * up e ≡ 0
unfolding le
minus-zero m e h = sym (mul-one (m * up e)) ∙ sym (eqb→eq (0 * down e) (m * up e * 1) (and_l (eqb (0 * down e) (m * up e * 1)) (eqb (0 * down e) 0) h)) ∙ zero-mul (down e)

no_less : (m : ℕ) (e : ℤ) → T (lt (fin false m e) nought) → ⊥
unfolding lt
no_less m e h = no (m * up e * 1) (ltb→lt (m * up e * 1) (0 * down e) h)
  where
    no : (a : ℕ) → a < 0 * down e → ⊥
    no a g = omega arith

-- a positive factor no smaller: the product with an x that is not below zero is no smaller, an infinite x included
pub mul-rising : (f : Format) (x y y' : Float) → T (le nought x) → T (positive y) → T (positive y') → T (le y y') → T (le (mul f x y) (mul f x y'))
mul-rising f nan y y' h p q k = absurd (unfold le in h)
mul-rising f (inf true) y y' h p q k = absurd (unfold le in h)
mul-rising f (inf false) y y' h p q k = subst (λ (z : Float). T (le (mul f (inf false) y) z)) (inf-mul f false y p ∙ sym (inf-mul f false y' q)) (le-refl-real f (mul f (inf false) y) (mul-fits f (inf false) y) (mul-real f (inf false) y tt p))
mul-rising f (fin false m e) y y' h p q k = go y y' p q (le→cross y y' p q k)
  where
    go : (y y' : Float) → T (positive y) → T (positive y') → num y * den y' ≤ num y' * den y → T (le (mul f (fin false m e) y) (mul f (fin false m e) y'))
    go nan y' p q k = absurd p
    go (inf t) y' p q k = absurd p
    go (fin true n d) y' p q k = absurd p
    go (fin false n d) nan p q k = absurd q
    go (fin false n d) (inf t) p q k = absurd q
    go (fin false n d) (fin true n' d') p q k = absurd q
    go (fin false n d) (fin false n' d') p q k = rise f m e n d n' d' k
mul-rising f (fin true m e) y y' h p q k = go y y' p q
  where
    go : (y y' : Float) → T (positive y) → T (positive y') → T (le (mul f (fin true m e) y) (mul f (fin true m e) y'))
    go nan y' p q = absurd p
    go (inf t) y' p q = absurd p
    go (fin true n d) y' p q = absurd p
    go (fin false n d) nan p q = absurd q
    go (fin false n d) (inf t) p q = absurd q
    go (fin false n d) (fin true n' d') p q = absurd q
    go (fin false n d) (fin false n' d') p q = flat f m e n d n' d' (minus-zero m e h)

-- and with an x below zero it is no larger
pub mul-falling : (f : Format) (x y y' : Float) → T (lt x nought) → T (positive y) → T (positive y') → T (le y y') → T (le (mul f x y') (mul f x y))
mul-falling f nan y y' h p q k = absurd (unfold lt in h)
mul-falling f (inf s) y y' h p q k = subst (λ (z : Float). T (le (mul f (inf s) y') z)) (inf-mul f s y' q ∙ sym (inf-mul f s y p)) (le-refl-real f (mul f (inf s) y') (mul-fits f (inf s) y') (mul-real f (inf s) y' tt q))
mul-falling f (fin false m e) y y' h p q k = absurd (no_less m e h)
mul-falling f (fin true m e) y y' h p q k = go y y' p q (le→cross y y' p q k)
  where
    go : (y y' : Float) → T (positive y) → T (positive y') → num y * den y' ≤ num y' * den y → T (le (mul f (fin true m e) y') (mul f (fin true m e) y))
    go nan y' p q k = absurd p
    go (inf t) y' p q k = absurd p
    go (fin true n d) y' p q k = absurd p
    go (fin false n d) nan p q k = absurd q
    go (fin false n d) (inf t) p q k = absurd q
    go (fin false n d) (fin true n' d') p q k = absurd q
    go (fin false n d) (fin false n' d') p q k = fall f m e n d n' d' k

-- ---- a share of x, the product with a positive factor of at most one, does not overflow
finite-value : (x : Float) (s : Bool) (a c : ℕ) → HasValue x s a c → T (finite x)
finite-value nan s a c h = absurd h
finite-value (inf t) s a c h = absurd h
finite-value (fin t m e) s a c h = tt

own-under : (f : Format) (s : Bool) (m : ℕ) (e : ℤ) → T (fits f (fin s m e)) → rounded f (m * up e) (down e) < overflow f
own-under f s m e h =
    let g = on-grid f s m e h in
    let same : g.0 * 2 ^ g.1 ≡ mag f (fin s m e) = sym (mag_of f s m e (g.0 * 2 ^ g.1) g.3) in
    let v = round_exact f false (m * up e) (down e) g.0 g.1 (down_pos e) g.2 (lt_of_le_of_lt (le_of_eq same) (mag-lt f s m e h)) g.3 in
    lt_of_le_of_lt (min-le_left (grid f (m * up e) (down e)) (overflow f)) (round_under f (m * up e) (down e) (finite-value (round f false (m * up e) (down e)) false (m * up e) (down e) v))

share-under : (f : Format) (s : Bool) (m : ℕ) (e : ℤ) (N E : ℕ) → T (fits f (fin s m e)) → 0 < E → N ≤ E → rounded f (m * up e * N) (down e * E) < overflow f
share-under f s m e N E h P k =
    lt_of_le_of_lt
    (rounded-mono f (m * up e * N) (down e * E) (m * up e) (down e) (mul-pos (down_pos e) P) (down_pos e)
    (le_trans (le_of_eq (mul_assoc (m * up e) N (down e))) (le_trans (mul-le-mul_left (m * up e) (le_trans (le_of_eq (mul_comm N (down e))) (mul-le-mul_left (down e) k))) (le_refl (m * up e * (down e * E))))))
    (own-under f s m e h)

finite-of : (f : Format) (x : Float) → T (real x) → mag f x < overflow f → T (finite x)
finite-of f nan a h = absurd a
finite-of f (inf s) a h = absurd (lt_irrefl (overflow f) (lt_of_le_of_lt (le_of_eq (mag-inf f s)) h))
finite-of f (fin s m e) a h = tt

fin-mul-mag : (f : Format) (s : Bool) (m : ℕ) (e : ℤ) (t : Bool) (n : ℕ) (d : ℤ) → mag f (mul f (fin s m e) (fin t n d)) ≡ rounded f (m * up e * (n * up d)) (down e * down d)
unfolding mul
fin-mul-mag f s m e t n d = (round-as f (unlike s t) (m * up e * (n * up d)) (down e * down d)).0

-- positive and at most one
abbrev pub share : Float → Bool
share y = positive y && leb (num y) (den y)

pub share-positive : (y : Float) → T (share y) → T (positive y)
share-positive y h = and_l (positive y) (leb (num y) (den y)) h

pub mul-finite : (f : Format) (x y : Float) → T (fits f x) → T (finite x) → T (share y) → T (finite (mul f x y))
mul-finite f nan y p a h = absurd a
mul-finite f (inf s) y p a h = absurd a
mul-finite f (fin s m e) nan p a h = absurd h
mul-finite f (fin s m e) (inf t) p a h = absurd h
mul-finite f (fin s m e) (fin t n d) p a h =
    finite-of f (mul f (fin s m e) (fin t n d)) (fin-mul-real f s m e t n d)
    (lt_of_le_of_lt (le_of_eq (fin-mul-mag f s m e t n d)) (share-under f s m e (n * up d) (down d) p (down_pos d) (leb→le (n * up d) (down d) (and_r (positive (fin t n d)) (leb (n * up d) (down d)) h))))

-- ---- x * y + b for the shares y: with an x that is not below zero it never falls as y rises, with an x below zero it never rises, and if one of them is a NaN all are
abbrev pub affine : Format → Float → Float → Float → Float
affine f x b y = add f (mul f x y) b

real-of-finite : (f : Format) (x b : Float) → T (finite x) → T (real b) → T (real (add f x b))
real-of-finite f nan b a h = absurd a
real-of-finite f (inf s) b a h = absurd a
real-of-finite f (fin s m e) nan a h = absurd h
real-of-finite f (fin s m e) (inf t) a h = unfold add in tt
real-of-finite f (fin s m e) (fin t n d) a h = add-real f (fin s m e) (fin t n d) tt tt

nan_right : (f : Format) (x : Float) → T (real (add f x nan)) → ⊥
unfolding add
nan_right f nan h = h
nan_right f (inf s) h = h
nan_right f (fin s m e) h = h

pub affine-real : (f : Format) (x b y y' : Float) → T (fits f x) → T (share y) → T (share y') → T (real (affine f x b y)) → T (real (affine f x b y'))
affine-real f nan b y y' p s s' h = absurd (unfold mul add in h)
affine-real f (inf t) b y y' p s s' h = subst (λ (z : Float). T (real (add f z b))) (inf-mul f t y (share-positive y s) ∙ sym (inf-mul f t y' (share-positive y' s'))) h
affine-real f (fin t m e) nan y y' p s s' h = absurd (nan_right f (mul f (fin t m e) y) h)
affine-real f (fin t m e) (inf r) y y' p s s' h = real-of-finite f (mul f (fin t m e) y') (inf r) (mul-finite f (fin t m e) y' p tt s') tt
affine-real f (fin t m e) (fin r n d) y y' p s s' h = real-of-finite f (mul f (fin t m e) y') (fin r n d) (mul-finite f (fin t m e) y' p tt s') tt

pub affine-rising : (f : Format) (x b y y' : Float) → T (fits f x) → T (fits f b) → T (share y) → T (share y') → T (le nought x) → T (le y y') → T (real (affine f x b y)) → T (le (affine f x b y) (affine f x b y'))
affine-rising f x b y y' p q s s' h k r =
    add-mono f (mul f x y) (mul f x y') b (mul-fits f x y) (mul-fits f x y') q (mul-rising f x y y' h (share-positive y s) (share-positive y' s') k) r (affine-real f x b y y' p s s' r)

pub affine-falling : (f : Format) (x b y y' : Float) → T (fits f x) → T (fits f b) → T (share y) → T (share y') → T (lt x nought) → T (le y y') → T (real (affine f x b y')) → T (le (affine f x b y') (affine f x b y))
affine-falling f x b y y' p q s s' h k r =
    add-mono f (mul f x y') (mul f x y) b (mul-fits f x y') (mul-fits f x y) q (mul-falling f x y y' h (share-positive y s) (share-positive y' s') k) r (affine-real f x b y' y p s' s r)

-- and none is a NaN where x is not one and b is finite
pub affine-defined : (f : Format) (x b y : Float) → T (fits f x) → T (share y) → T (real x) → T (finite b) → T (real (affine f x b y))
affine-defined f nan b y p s a h = absurd a
affine-defined f (inf t) nan y p s a h = absurd h
affine-defined f (inf t) (inf r) y p s a h = absurd h
affine-defined f (inf t) (fin r n d) y p s a h = subst (λ (z : Float). T (real (add f z (fin r n d)))) (sym (inf-mul f t y (share-positive y s))) (unfold add in tt)
affine-defined f (fin t m e) b y p s a h = real-of-finite f (mul f (fin t m e) y) b (mul-finite f (fin t m e) y p tt s) (finite-real b h)
