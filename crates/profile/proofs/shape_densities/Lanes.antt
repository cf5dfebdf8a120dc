-- What vectors hold that are worked out lane by lane from the vector h: each is `map` of one lane's value. A mask's lanes are words, all ones where its test holds and else 0.
use mathlib.Core.Bool.{Bool, true, false, cond, ◌&&◌, ◌||◌}
use mathlib.Core.Path.{◌≡◌, refl, sym, ap, ap₂, ◌∙◌}
use mathlib.Core.List.{List, [], ◌∷◌, map}
use Prim.Native.Nat.{ℕ}
use lib.Bits.{bit_and, bit_or}
use lib.Ieee.{Float, lt, ne}
use lib.Lanes.{zip2, sel_l, top}
use lib.ListN.{length, replicate}
use Rattle.std.proofs.lemmas.List.{map-id}
use Rattle.std.proofs.lemmas.Simd.{splat_is_map, zip2-map}
use Rattle.scalar.specs.Scalar.{or_second, max_of}
use Rattle.scalar.proofs.Nan.{differs-is-nan}

abbrev pub word : Bool → ℕ
word t = cond t 0xffff_ffff 0

module _ {A : Type 0} (h : List A) where
  pub record Made {X : Type 0} (f : A → X) (xs : List X) : Type 0 where
    pub is : xs ≡ map f h

  pub record Tells (t : A → Bool) (ms : List ℕ) : Type 0 where
    pub is : ms ≡ map (λ x. word (t x)) h

pub made : {A X : Type 0} (h : List A) (f : A → X) {xs : List X} → xs ≡ map f h → Made h f xs
made h f e = record { is = e }

pub own : {A : Type 0} (h : List A) → Made h (λ x. x) h
own h = record { is = sym (map-id h) }

pub splat : {A : Type 0} (h : List A) {n : ℕ} → length h ≡ n → (y : Float) → Made h (λ _. y) (replicate n y)
splat h {n} e y = record { is = splat_is_map h n y e }

module _ {A X Y : Type 0} {h : List A} {g : A → X} {k : A → Y} {xs : List X} {ys : List Y} where
  pub op : {Z : Type 0} (f : X → Y → Z) → Made h g xs → Made h k ys → Made h (λ x. f (g x) (k x)) (zip2 f xs ys)
  op f a b = record { is = (λ i. zip2 f (a.is i) (b.is i)) ∙ zip2-map f g k h }

  pub test : (t : X → Y → Bool) → Made h g xs → Made h k ys → Tells h (λ x. t (g x) (k x)) (zip2 (λ a b. word (t a b)) xs ys)
  test t a b = record { is = (λ i. zip2 (λ a b. word (t a b)) (a.is i) (b.is i)) ∙ zip2-map (λ a b. word (t a b)) g k h }

and : (a b : Bool) → bit_and (word a) (word b) ≡ word (a && b)
and true true = refl
and true false = refl
and false true = refl
and false false = refl

pub both : {A : Type 0} {h : List A} {p q : A → Bool} {ms ns : List ℕ} → Tells h p ms → Tells h q ns → Tells h (λ x. p x && q x) (zip2 bit_and ms ns)
both {h = h} {p} {q} a b = record { is = (λ i. zip2 bit_and (a.is i) (b.is i)) ∙ zip2-map bit_and (λ x. word (p x)) (λ x. word (q x)) h ∙ ap (λ w. map w h) (λ i x. and (p x) (q x) i) }

top_of : (t : Bool) → top 31 (word t) ≡ t
top_of true = refl
top_of false = refl

selected : {A X : Type 0} (h : List A) (t : A → Bool) (f g : A → X) → sel_l (map (top 31) (map (λ x. word (t x)) h)) (map f h) (map g h) ≡ map (λ x. cond (t x) (f x) (g x)) h
selected [] t f g = refl
selected (x ∷ h) t f g = ap₂ (λ a b. cond a (f x) (g x) ∷ b) (top_of (t x)) (selected h t f g)

pub select : {A X : Type 0} {h : List A} {t : A → Bool} {f g : A → X} {ms : List ℕ} {xs ys : List X} → Tells h t ms → Made h f xs → Made h g ys → Made h (λ x. cond (t x) (f x) (g x)) (sel_l (map (top 31) ms) xs ys)
select {h = h} {t} {f} {g} m a b = record { is = (λ i. sel_l (map (top 31) (m.is i)) (a.is i) (b.is i)) ∙ selected h t f g }

-- ---- the larger of two
or : (a b : Float) (p q : Bool) → cond (top 31 (bit_or (word p) (word q))) b a ≡ or_second (p || q) a b
unfolding or_second
or a b true true = refl
or a b true false = refl
or a b false true = refl
or a b false false = refl

pub larger : (xs ys : List Float) → sel_l (map (top 31) (zip2 bit_or (zip2 (λ a b. word (ne a b)) xs xs) (zip2 (λ a b. word (lt a b)) xs ys))) ys xs ≡ zip2 max_of xs ys
unfolding max_of
larger [] ys = refl
larger (x ∷ xs) [] = refl
larger (x ∷ xs) (y ∷ ys) = ap₂ (λ a l. a ∷ l) (or x y (ne x x) (lt x y) ∙ ap (λ t. or_second (t || lt x y) x y) (differs-is-nan x)) (larger xs ys)
