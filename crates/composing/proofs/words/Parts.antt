-- What stands between the blanks of a line, without the empty parts, are its words.
use mathlib.Core.Path.{◌≡◌, refl, ap}
use mathlib.Core.Bool.{Bool, true, false, not, cond}
use mathlib.Core.List.{List, [], ◌∷◌}
use Prim.Native.Nat.{ℕ, suc}
use native.Mathlib.Omega.{arith}
use borrow.Author.Tests.{ne_eqb}
use lib.Dec.{eqb}
use lib.ListN.{length}
use Rattle.std.specs.List.{filter, slice_split, onto_first}
use Rattle.first_difference.specs.Lines.{in_front}
use Rattle.composing.specs.Words.{blank, word_ends, words_of}

abbrev pub not_empty : List ℕ → Bool
not_empty w = not (eqb (length w) 0)

-- a word ends before t just where the first part of t is empty
abbrev First : Bool → List (List ℕ) → Type 0
First true [] = ⊥
First true ([] ∷ ps) = Unit {0}
First true ((b ∷ w) ∷ ps) = ⊥
First false [] = ⊥
First false ([] ∷ ps) = ⊥
First false ((b ∷ w) ∷ ps) = Unit {0}

onto : (b : ℕ) (ps : List (List ℕ)) → First false (onto_first b ps)
onto b [] = tt
onto b (p ∷ ps) = tt

first : (t : List ℕ) → First (word_ends t) (slice_split blank t)
first [] = tt
first (b ∷ t) = by (blank b)
  where
    by : (q : Bool) → First q (cond q ([] ∷ slice_split blank t) (onto_first b (slice_split blank t)))
    by true = tt
    by false = onto b (slice_split blank t)

some : (n : ℕ) → eqb (suc n) 0 ≡ false
some n = ne_eqb (suc n) 0 (λ e. omega (arith, e))

step : (b : ℕ) (q : Bool) (ps ws : List (List ℕ)) → First q ps → filter not_empty ps ≡ ws → filter not_empty (onto_first b ps) ≡ cond q ((b ∷ []) ∷ ws) (in_front b ws)
step b true ([] ∷ ps) ws f e = ap (λ (x : List (List ℕ)). (b ∷ []) ∷ x) e
step b false ((c ∷ w) ∷ ps) ws f e = rw (some (suc (length w))) (ap (in_front b) (rw (some (length w)) at e))
step b true [] ws f e = elim f [ ]
step b true ((_ ∷ _) ∷ _) ws f e = elim f [ ]
step b false [] ws f e = elim f [ ]
step b false ([] ∷ _) ws f e = elim f [ ]

pub parts : (t : List ℕ) → filter not_empty (slice_split blank t) ≡ words_of t
unfolding words_of
parts [] = refl
parts (b ∷ t) = by (blank b) (parts t)
  where
    by : (q : Bool) → filter not_empty (slice_split blank t) ≡ words_of t
        → filter not_empty (cond q ([] ∷ slice_split blank t) (onto_first b (slice_split blank t))) ≡ cond q (words_of t) (cond (word_ends t) ((b ∷ []) ∷ words_of t) (in_front b (words_of t)))
    by true h = h
    by false h = step b (word_ends t) (slice_split blank t) (words_of t) (first t) h
