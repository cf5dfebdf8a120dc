-- The words from a place on.
use mathlib.Core.Path.{◌≡◌, refl}
use mathlib.Core.List.{List}
use Prim.Native.Nat.{ℕ, suc, ◌≤◌, ◌<◌}
use lib.ListN.{length, get_or, drop, drop_of_length-le}
use lib.Seq.{drop-cons}
use Rattle.composing.specs.declared.compose_line.Row.{Row}
use Rattle.std.specs.Prelude.{Option, Some, Ok}
use Rattle.composing.specs.Row.{then, with_word, with_words}

pub next_word : (r : Option Row) (ws : List (List ℕ)) (i n : ℕ) (w : List ℕ) → i < length ws → w ≡ get_or ws i w → n ≡ suc i
    → then (λ (s : Row). with_words (Some s) (drop n ws)) (with_word r w) ≡ with_words r (drop i ws)
unfolding with_words
next_word r ws i n w h e m = rw (m, drop-cons ws i w h, ← e) refl

pub no_words : (r : Option Row) (ws : List (List ℕ)) (i : ℕ) → length ws ≤ i → with_words r (drop i ws) ≡ Ok r
unfolding with_words
no_words r ws i h = rw (drop_of_length-le ws h)
