-- Products and quotients of values that are not below zero, by their sizes in units: each is the exact size, rounded. So they never fall as a factor or the dividend rises, nor as the divisor falls.
use mathlib.Core.Path.{◌≡◌, refl, sym, ap, ap₂, ◌∙◌, subst}
use mathlib.Core.Bool.{Bool, true, false, not, cond, beq}
use Prim.Native.Nat.{ℕ, zero, suc, ◌+◌, ◌-◌, ◌*◌, ◌^◌, ◌≤◌, ◌<◌}
use native.Mathlib.Nat.{le_trans, le_of_lt, mul-pos, zero-mul, mul-zero, eq_of_mul-eq-mul_right, mul-le-mul, mul-le-mul_right}
use native.Mathlib.Omega.{arith}
use lib.Dec.{T, eqb, eqb-suc-zero}
use lib.Pow.{pow_pos}
use lib.IntN.{ℤ}
use lib.Ieee.{Float, nan, inf, fin, Format, low, up, down, unlike, fits, round, sub, mul, div}
use lib.Ieee.Fits.{down_pos, up_pos, sub-fits, mul-fits, div-fits}
use lib.Ieee.Scale.{overflow, finite}
use Rattle.order.specs.Units.{real, key_of, mag, key, rounded, total}
use Rattle.order.proofs.Keys.{mag_of, mag-val, mag-le, mag-lt, mag-inf, overflow-pos}
use Rattle.order.proofs.Sums.{round-as, round-key, rounded-mono, rounded-same, R-zero, total_mono, sub-key, sub-real}

module _ (f : Format) where
  abbrev L : ℕ
  L = 2 ^ low f

  rounded-zero : (c : ℕ) → 0 < c → rounded f 0 c ≡ 0
  rounded-zero c h = rounded-same f 0 c 0 L h (pow_pos (low f)) (zero-mul L ∙ sym (zero-mul c)) ∙ R-zero f

  quotient-same : (X Y De Dd mx my : ℕ) → X * L ≡ mx * De → Y * L ≡ my * Dd → X * Dd * my ≡ mx * (Y * De)
  quotient-same X Y De Dd mx my a b =
      eq_of_mul-eq-mul_right L (pow_pos (low f)) (X * Dd * my) (mx * (Y * De))
      (omega (arith, ap (λ (z : ℕ). z * (Dd * my)) a, ap (λ (z : ℕ). z * (mx * De)) b))

  product-same : (X Y De Dd mx my : ℕ) → X * L ≡ mx * De → Y * L ≡ my * Dd → X * Y * (L * L) ≡ mx * my * (De * Dd)
  product-same X Y De Dd mx my a b = omega (arith, ap₂ (λ (z w : ℕ). z * w) a b)

  -- a value of size u with a sign is not below zero only where the sign is plus or u is 0
  plus : (C u : ℕ) → 0 < C → u ≤ C → C ≤ C - u → u ≡ 0
  plus C u h k g = omega arith

  -- the key of what is rounded to r, where a minus goes with r 0
  signed : (s : Bool) (C r : ℕ) → (s ≡ true → r ≡ 0) → key_of C s r ≡ C + r
  signed true C r h = let e = h refl in omega arith
  signed false C r h = refl

  -- not below zero, above zero: by keys
  abbrev pub NotBelow : Float → Type 0
  NotBelow x = overflow f ≤ key f x

  abbrev pub Above : Float → Type 0
  Above x = overflow f < key f x

  minus-none : (m : ℕ) (e : ℤ) → T (fits f (fin true m e)) → NotBelow (fin true m e) → mag f (fin true m e) ≡ 0
  minus-none m e p h = plus (overflow f) (mag f (fin true m e)) (overflow-pos f) (mag-le f (fin true m e) p) h

  -- a minus goes with size 0
  size_none : (s : Bool) (m : ℕ) (e : ℤ) → T (fits f (fin s m e)) → NotBelow (fin s m e) → s ≡ true → mag f (fin s m e) ≡ 0
  size_none true m e p h q = minus-none m e p h
  size_none false m e p h q = let z : ◌≡◌ {A = ℕ} 0 1 = cc in absurd (omega arith)

  pub key-size : (x : Float) → T (fits f x) → T (finite x) → NotBelow x → key f x ≡ overflow f + mag f x
  key-size nan p a h = absurd a
  key-size (inf s) p a h = absurd a
  key-size (fin s m e) p a h = signed s (overflow f) (mag f (fin s m e)) (size_none s m e p h)

  unlike-plus : (s : Bool) (C r : ℕ) → (s ≡ true → r ≡ 0) → key_of C (not (beq s false)) r ≡ C + r
  unlike-plus true C r h = let e = h refl in omega arith
  unlike-plus false C r h = refl

  size-pos : (n : ℕ) (d : ℤ) → Above (fin false n d) → 0 < mag f (fin false n d)
  size-pos n d h = omega arith

  pub none-size : (s : Bool) (d : ℤ) → mag f (fin s 0 d) ≡ 0
  none-size s d = mag_of f s 0 d 0 (ap (λ (z : ℕ). z * L) (zero-mul (up d)) ∙ zero-mul L ∙ sym (zero-mul (down d)))

  pub div-key : (x y : Float) → T (fits f x) → T (fits f y) → T (finite x) → T (finite y) → NotBelow x → Above y → key f (div f x y) ≡ overflow f + rounded f (mag f x) (mag f y)
  unfolding div
  div-key nan y p q a b h k = absurd a
  div-key (inf s) y p q a b h k = absurd a
  div-key (fin s m e) nan p q a b h k = absurd b
  div-key (fin s m e) (inf t) p q a b h k = absurd b
  div-key (fin s m e) (fin true n d) p q a b h k = absurd (omega arith)
  div-key (fin s m e) (fin false zero d) p q a b h k = absurd (let z = none-size false d in omega arith)
  div-key (fin s m e) (fin false (suc n) d) p q a b h k =
      let mx = mag f (fin s m e) in
      let my = mag f (fin false (suc n) d) in
      let A = m * up e * down d in
      let C = suc n * up d * down e in
      let r : rounded f A C ≡ rounded f mx my =
      rounded-same f A C mx my (mul-pos (mul-pos (let z : 0 < suc n = omega arith in z) (up_pos d)) (down_pos e)) (size-pos (suc n) d k)
      (quotient-same (m * up e) (suc n * up d) (down e) (down d) mx my (mag-val f s m e p) (mag-val f false (suc n) d q)) in
      ap (λ (z : Bool). key f (cond z (cond (eqb m 0) nan (inf (unlike s false))) (round f (unlike s false) A C))) (eqb-suc-zero n)
      ∙ round-key f (unlike s false) A C
      ∙ unlike-plus s (overflow f) (rounded f A C) (λ w. r ∙ ap (λ (z : ℕ). rounded f z my) (size_none s m e p h w) ∙ rounded-zero my (size-pos (suc n) d k))
      ∙ ap (λ (z : ℕ). overflow f + z) r

  pub div-real : (x y : Float) → T (finite x) → T (finite y) → Above y → T (real (div f x y))
  unfolding div
  div-real nan y a b k = absurd a
  div-real (inf s) y a b k = absurd a
  div-real (fin s m e) nan a b k = absurd b
  div-real (fin s m e) (inf t) a b k = absurd b
  div-real (fin s m e) (fin true n d) a b k = absurd (omega arith)
  div-real (fin s m e) (fin false zero d) a b k = absurd (let z = none-size false d in omega arith)
  div-real (fin s m e) (fin false (suc n) d) a b k =
      subst (λ (z : Bool). T (real (cond z (cond (eqb m 0) nan (inf (unlike s false))) (round f (unlike s false) (m * up e * down d) (suc n * up d * down e))))) (sym (eqb-suc-zero n))
      (round-as f (unlike s false) (m * up e * down d) (suc n * up d * down e)).2

  signs : (s t : Bool) (C r : ℕ) → (s ≡ true → r ≡ 0) → (t ≡ true → r ≡ 0) → key_of C (unlike s t) r ≡ C + r
  signs true true C r h g = refl
  signs true false C r h g = let e = h refl in omega arith
  signs false true C r h g = let e = g refl in omega arith
  signs false false C r h g = refl

  pub mul-key : (x y : Float) → T (fits f x) → T (fits f y) → T (finite x) → T (finite y) → NotBelow x → NotBelow y → key f (mul f x y) ≡ overflow f + rounded f (mag f x * mag f y) (L * L)
  unfolding mul
  mul-key nan y p q a b h k = absurd a
  mul-key (inf s) y p q a b h k = absurd a
  mul-key (fin s m e) nan p q a b h k = absurd b
  mul-key (fin s m e) (inf t) p q a b h k = absurd b
  mul-key (fin s m e) (fin t n d) p q a b h k =
      let mx = mag f (fin s m e) in
      let my = mag f (fin t n d) in
      let A = m * up e * (n * up d) in
      let C = down e * down d in
      let LL : 0 < L * L = mul-pos (pow_pos (low f)) (pow_pos (low f)) in
      let r : rounded f A C ≡ rounded f (mx * my) (L * L) =
      rounded-same f A C (mx * my) (L * L) (mul-pos (down_pos e) (down_pos d)) LL
      (product-same (m * up e) (n * up d) (down e) (down d) mx my (mag-val f s m e p) (mag-val f t n d q)) in
      round-key f (unlike s t) A C
      ∙ signs s t (overflow f) (rounded f A C)
      (λ w. r ∙ ap (λ (z : ℕ). rounded f (z * my) (L * L)) (size_none s m e p h w) ∙ ap (λ (z : ℕ). rounded f z (L * L)) (zero-mul my) ∙ rounded-zero (L * L) LL)
      (λ w. r ∙ ap (λ (z : ℕ). rounded f (mx * z) (L * L)) (size_none t n d q k w) ∙ ap (λ (z : ℕ). rounded f z (L * L)) (mul-zero mx) ∙ rounded-zero (L * L) LL)
      ∙ ap (λ (z : ℕ). overflow f + z) r

  pub mul-real : (x y : Float) → T (finite x) → T (finite y) → T (real (mul f x y))
  unfolding mul
  mul-real nan y a b = absurd a
  mul-real (inf s) y a b = absurd a
  mul-real (fin s m e) nan a b = absurd b
  mul-real (fin s m e) (inf t) a b = absurd b
  mul-real (fin s m e) (fin t n d) a b = (round-as f (unlike s t) (m * up e * (n * up d)) (down e * down d)).2

  -- a value between finite ones is finite
  pub finite-of : (x : Float) → T (real x) → 0 < key f x → key f x < overflow f + overflow f → T (finite x)
  finite-of nan r h k = absurd r
  finite-of (inf true) r h k = absurd (let e = mag-inf f true in omega arith)
  finite-of (inf false) r h k = absurd (let e = mag-inf f false in omega arith)
  finite-of (fin s m e) r h k = tt

  sized-key : (s : Bool) (C u : ℕ) → u < C → (0 < key_of C s u) × (key_of C s u < C + C)
  sized-key true C u h = (omega arith, omega arith)
  sized-key false C u h = (omega arith, omega arith)

  pub key-range : (x : Float) → T (fits f x) → T (finite x) → (0 < key f x) × (key f x < overflow f + overflow f)
  key-range nan p a = absurd a
  key-range (inf s) p a = absurd a
  key-range (fin s m e) p a = sized-key s (overflow f) (mag f (fin s m e)) (mag-lt f s m e p)

  -- x not below zero and at most X
  pub record UpTo (X x : Float) : Type 0 where
    pub held : T (fits f x)
    pub fin : T (finite x)
    pub low : overflow f ≤ key f x
    pub high : key f x ≤ key f X

  -- x above zero, from X on
  pub record From (X x : Float) : Type 0 where
    pub held : T (fits f x)
    pub fin : T (finite x)
    pub low : key f X ≤ key f x

  size-le : (x y : Float) → T (fits f x) → T (fits f y) → T (finite x) → T (finite y) → NotBelow x → key f x ≤ key f y → mag f x ≤ mag f y
  size-le x y p q a b h k =
      let u = key-size x p a h in
      let v = key-size y q b (le_trans h k) in
      omega arith

  size_above : (x : Float) → T (fits f x) → T (finite x) → Above x → 0 < mag f x
  size_above x p a h = let u = key-size x p a (le_of_lt h) in omega arith

  pub quotient : (X Y x y : Float) → T (fits f X) → T (fits f Y) → T (finite X) → T (finite Y) → Above Y → T (finite (div f X Y)) → UpTo X x → From Y y → UpTo (div f X Y) (div f x y)
  quotient X Y x y p q a b k w hx hy =
      let above : Above y = le_trans k hy.low in
      let e = div-key x y hx.held hy.held hx.fin hy.fin hx.low above in
      let g = div-key X Y p q a b (le_trans hx.low hx.high) k in
      let m : rounded f (mag f x) (mag f y) ≤ rounded f (mag f X) (mag f Y) =
      rounded-mono f (mag f x) (mag f y) (mag f X) (mag f Y) (size_above y hy.held hy.fin above) (size_above Y q b k)
      (mul-le-mul (size-le x X hx.held p hx.fin a hx.low hx.high) (size-le Y y q hy.held b hy.fin (le_of_lt k) hy.low)) in
      let r = key-range (div f X Y) (div-fits f X Y) w in
      let o = overflow-pos f in
      record {
        held = div-fits f x y;
        fin = finite-of (div f x y) (div-real x y hx.fin hy.fin above) (omega arith) (omega arith);
        low = omega arith;
        high = omega arith;
      }

  pub product : (X Y x y : Float) → T (fits f X) → T (fits f Y) → T (finite X) → T (finite Y) → T (finite (mul f X Y)) → UpTo X x → UpTo Y y → UpTo (mul f X Y) (mul f x y)
  product X Y x y p q a b w hx hy =
      let e = mul-key x y hx.held hy.held hx.fin hy.fin hx.low hy.low in
      let g = mul-key X Y p q a b (le_trans hx.low hx.high) (le_trans hy.low hy.high) in
      let LL : 0 < L * L = mul-pos (pow_pos (low f)) (pow_pos (low f)) in
      let m : rounded f (mag f x * mag f y) (L * L) ≤ rounded f (mag f X * mag f Y) (L * L) =
      rounded-mono f (mag f x * mag f y) (L * L) (mag f X * mag f Y) (L * L) LL LL
      (mul-le-mul_right (L * L) (mul-le-mul (size-le x X hx.held p hx.fin a hx.low hx.high) (size-le y Y hy.held q hy.fin b hy.low hy.high))) in
      let r = key-range (mul f X Y) (mul-fits f X Y) w in
      let o = overflow-pos f in
      record {
        held = mul-fits f x y;
        fin = finite-of (mul f x y) (mul-real x y hx.fin hy.fin) (omega arith) (omega arith);
        low = omega arith;
        high = omega arith;
      }

  -- the same from below, of two values above zero
  pub product-from : (X Y x y : Float) → T (fits f X) → T (fits f Y) → T (finite X) → T (finite Y) → NotBelow X → NotBelow Y → T (finite (mul f x y)) → From X x → From Y y → From (mul f X Y) (mul f x y)
  product-from X Y x y p q a b h k w hx hy =
      let e = mul-key x y hx.held hy.held hx.fin hy.fin (le_trans h hx.low) (le_trans k hy.low) in
      let g = mul-key X Y p q a b h k in
      let LL : 0 < L * L = mul-pos (pow_pos (low f)) (pow_pos (low f)) in
      let m : rounded f (mag f X * mag f Y) (L * L) ≤ rounded f (mag f x * mag f y) (L * L) =
      rounded-mono f (mag f X * mag f Y) (L * L) (mag f x * mag f y) (L * L) LL LL
      (mul-le-mul_right (L * L) (mul-le-mul (size-le X x p hx.held a hx.fin h hx.low) (size-le Y y q hy.held b hy.fin k hy.low))) in
      record { held = mul-fits f x y; fin = w; low = omega arith }

  -- x between A and B
  pub record Between (A B x : Float) : Type 0 where
    pub held : T (fits f x)
    pub fin : T (finite x)
    pub low : key f A ≤ key f x
    pub high : key f x ≤ key f B

  pub difference : (A B C D x y : Float) → T (fits f A) → T (fits f B) → T (fits f C) → T (fits f D) → T (finite A) → T (finite B) → T (finite C) → T (finite D)
      → T (finite (sub f A D)) → T (finite (sub f B C)) → Between A B x → Between C D y → Between (sub f A D) (sub f B C) (sub f x y)
  difference A B C D x y pa pb pc pd fa fb fc fd lo hi hx hy =
      let o = overflow f in
      let e = sub-key f x y hx.held hy.held hx.fin hy.fin in
      let g = sub-key f A D pa pd fa fd in
      let k = sub-key f B C pb pc fb fc in
      let m : total f (key f A + (o + o - key f D)) ≤ total f (key f x + (o + o - key f y)) = total_mono f _ _ (omega (arith, hx.low, hy.high)) in
      let n : total f (key f x + (o + o - key f y)) ≤ total f (key f B + (o + o - key f C)) = total_mono f _ _ (omega (arith, hx.high, hy.low)) in
      let r = key-range (sub f A D) (sub-fits f A D) lo in
      let t = key-range (sub f B C) (sub-fits f B C) hi in
      record {
        held = sub-fits f x y;
        fin = finite-of (sub f x y) (sub-real f x y hx.fin hy.fin) (omega arith) (omega arith);
        low = omega arith;
        high = omega arith;
      }
