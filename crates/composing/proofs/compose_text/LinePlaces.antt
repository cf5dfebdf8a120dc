-- A text split after each line feed is its lines.
use mathlib.Core.Path.{◌≡◌, refl, ap, ◌∙◌}
use mathlib.Core.Bool.{Bool, true, false, true≢false}
use mathlib.Core.List.{List, [], ◌∷◌, ◌++◌}
use Prim.Native.Nat.{ℕ, zero, suc, ◌+◌, ◌<◌, min}
use native.Mathlib.Omega.{arith}
use lib.Dec.{eqb}
use lib.ListN.{length}
use Rattle.std.specs.Prelude.{Option}
use Rattle.std.specs.List.{IsFirstMatchOrLen}
use Rattle.first_difference.specs.Lines.{in_front, lines_of}
use Rattle.composing.specs.declared.compose_text.Draft.{Draft}
use Rattle.composing.specs.Draft.{at_line, with_lines, ended_draft}

abbrev pub is_feed : ℕ → Bool
is_feed b = eqb b 10

-- the tail of a list has its first match one place before
later : (b i : ℕ) (t : List ℕ) → IsFirstMatchOrLen is_feed (b ∷ t) (suc i) → IsFirstMatchOrLen is_feed t i
later b i t m = (λ k d l h. m.0 (suc k) d (omega arith) (omega arith), λ h d. m.1 (omega arith) d)

-- a byte that is the last of its line
last : (b : ℕ) (rest : List ℕ) (q : Bool) → eqb b 10 ≡ q → (q ≡ false → rest ≡ []) → lines_of (b ∷ rest) ≡ (b ∷ []) ∷ lines_of rest
unfolding lines_of
last b rest true e h = rw e
last b rest false e h = rw (h refl, e)

-- and one that is not
within : (b : ℕ) (t : List ℕ) → eqb b 10 ≡ false → lines_of (b ∷ t) ≡ in_front b (lines_of t)
unfolding lines_of
within b t e = rw e

none : (rest : List ℕ) → length rest ≡ 0 → rest ≡ []
none [] h = refl
none (b ∷ rest) h = absurd (omega arith)

-- up to the first line feed, and that, or all
pub first : (x rest : List ℕ) (i : ℕ) → 0 < length (x ++ rest) → length x ≡ min (i + 1) (length (x ++ rest)) → IsFirstMatchOrLen is_feed (x ++ rest) i → lines_of (x ++ rest) ≡ x ∷ lines_of rest
first [] rest i s l m = absurd (omega arith)
first (b ∷ []) rest zero s l m = last b rest true (m.1 (omega arith) 0) (λ e. absurd (true≢false e))
first (b ∷ []) rest (suc i) s l m = last b rest (eqb b 10) refl (λ e. none rest (omega arith))
first (b ∷ c ∷ x) rest zero s l m = absurd (omega arith)
first (b ∷ c ∷ x) rest (suc i) s l m =
    within b (c ∷ x ++ rest) (m.0 0 0 (omega arith) (omega arith))
    ∙ ap (in_front b) (first (c ∷ x) rest i (omega arith) (omega arith) (later b i (c ∷ x ++ rest) m))

pub no_lines : (d : Option Draft) (n : ℕ) (t : List ℕ) → length t ≡ 0 → with_lines d n (lines_of t) ≡ at_line n (ended_draft d)
unfolding with_lines lines_of
no_lines d n t h = rw (none t h) refl
