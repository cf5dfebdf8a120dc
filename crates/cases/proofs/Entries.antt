-- A table's rule from one computed test: `all` asks it of each entry with its place, so it holds at the place one asks for.
use mathlib.Core.Path.{◌≡◌, sym, ◌∙◌, subst}
use mathlib.Core.Bool.{Bool, true, ◌&&◌}
use mathlib.Core.List.{List, [], ◌∷◌}
use Prim.Native.Nat.{ℕ, zero, suc, ◌+◌, ◌<◌}
use native.Mathlib.Nat.{le_of_suc-le-suc, not-suc-le-zero, add-zero, zero-add, add-suc, suc-add}
use lib.Dec.{T}
use lib.Ieee.Fits.{and_l, and_r}
use lib.ListN.{length, get_or}

-- the entries of the list, the first one's place being i
abbrev pub all : (rule : ℕ → ℕ → Bool) → List ℕ → ℕ → Bool
all rule [] i = true
all rule (x ∷ xs) i = rule i x && all rule xs (suc i)

-- k places further: the place is handed down as a number p with p ≡ k + i
walk : (rule : ℕ → ℕ → Bool) (xs : List ℕ) (i k p : ℕ) → k + i ≡ p → T (all rule xs i) → k < length xs → T (rule p (get_or xs k 0))
walk rule [] i k p e t h = absurd (not-suc-le-zero h)
walk rule (x ∷ xs) i zero p e t h = subst (λ (j : ℕ). T (rule j x)) (sym (zero-add i) ∙ e) (and_l (rule i x) (all rule xs (suc i)) t)
walk rule (x ∷ xs) i (suc k) p e t h = walk rule xs (suc i) k p (add-suc k i ∙ sym (suc-add k i) ∙ e) (and_r (rule i x) (all rule xs (suc i)) t) (le_of_suc-le-suc h)

pub entry : (rule : ℕ → ℕ → Bool) (xs : List ℕ) → T (all rule xs 0) → (k : ℕ) → k < length xs → T (rule k (get_or xs k 0))
entry rule xs t k h = walk rule xs 0 k k (add-zero k) t h
