-- A line as words, which blanks set apart, and a text up to a byte and after it.
use Rattle.std.specs.Prelude.{ℕ, suc, Bool, true, not, ◌||◌, cond, List, [], ◌∷◌, eqb, take, drop}
use Rattle.first_difference.specs.Lines.{in_front}

-- space, tab, carriage return, line feed
unfoldable pub blank : ℕ → Bool
blank b = eqb b 32 || (eqb b 9 || (eqb b 13 || eqb b 10))

-- how many bytes at the front are of a kind
unfoldable pub run : (ℕ → Bool) → List ℕ → ℕ
run p [] = 0
run p (b ∷ t) = cond (p b) (suc (run p t)) 0

abbrev pub other : ℕ → ℕ → Bool
other b c = not (eqb c b)

-- what stands before the first b, all where there is none, and what stands after it
abbrev pub up_to : ℕ → List ℕ → List ℕ
up_to b t = take (run (other b) t) t

abbrev pub after : ℕ → List ℕ → List ℕ
after b t = drop (suc (run (other b) t)) t

-- a blank follows, or nothing
abbrev pub word_ends : List ℕ → Bool
word_ends [] = true
word_ends (b ∷ t) = blank b

-- A byte that is not blank is the first of the word that goes on after it; where none goes on it is a word by itself.
unfoldable pub words_of : List ℕ → List (List ℕ)
words_of [] = []
words_of (b ∷ t) = cond (blank b) (words_of t) (cond (word_ends t) ((b ∷ []) ∷ words_of t) (in_front b (words_of t)))
