-- A circuit as 657 words: km, shape, gcd, gcdkm, amind, ssn, 75 of the points (15 a point), 576 deciles.
use Rattle.std.specs.Prelude.{List, [], ◌∷◌, ◌++◌, ℕ, ◌+◌, get_or, length, take, drop}
use Rattle.circuit.specs.declared.Circuit.{Circuit}

-- word i; 0 past the end, where no code reads
abbrev pub word : List ℕ → ℕ → ℕ
word w i = get_or w i 0

-- the n words from word `from` on
unfoldable pub words_from : List ℕ → ℕ → ℕ → List ℕ
words_from w from n = take n (drop from w)

-- the words with those of x from word `from` on
unfoldable pub words_into : List ℕ → ℕ → List ℕ → List ℕ
words_into w from x = take from w ++ x ++ drop (from + length x) w

unfoldable pub circuit_of_words : List ℕ → Circuit
circuit_of_words w =
    record {
      km = word w 0;
      shape = word w 1;
      gcd = word w 2;
      gcdkm = word w 3;
      amind = word w 4;
      ssn = word w 5;
      points = words_from w 6 75;
      deciles = words_from w 81 576;
    }

-- words 0 to 5
abbrev pub head_words : Circuit → List ℕ
head_words c = c.km ∷ c.shape ∷ c.gcd ∷ c.gcdkm ∷ c.amind ∷ c.ssn ∷ []

unfoldable pub layout_of : Circuit → List ℕ
layout_of c = head_words c ++ (c.points ++ c.deciles)

-- words past the 657 stay
unfoldable pub circuit_into : Circuit → List ℕ → List ℕ
circuit_into c w = layout_of c ++ drop 657 w
