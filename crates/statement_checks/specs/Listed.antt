-- The lists that statements go through: that nothing is left out of them, and that an entry is what it is written as.
use Rattle.std.specs.Prelude.{Bool, true, ◌&&◌, List, [], ◌∷◌, ◌≡◌, ℕ, length, Float}
use Rattle.scalar.specs.F32.{◌<f◌, negf}
use Rattle.scalar.specs.Literals.{Literal, is, literals, f1}
use Rattle.nominal.specs.FactorLiterals.{coefficients}
use Rattle.starred.specs.Starred.{Trial, TrialAnswer, StarredRow, ◌gives◌, result_of, Holds}

-- each literal is above the one before it, the first above x: so none stands twice
abbrev pub climbs : Float → List Literal → Bool
climbs x [] = true
climbs x (l ∷ ls) = (x <f l.value) && climbs l.value ls

-- what `literals-nearest` and `coefficients-nearest` go through: all 143 and all 20, each with the value, digits and places that it is written with
pub record LiteralsListed : Type 0 where
  pub value : (x : Float) (n d : ℕ) → (is x n d).value ≡ x
  pub digits : (x : Float) (n d : ℕ) → (is x n d).digits ≡ n
  pub places : (x : Float) (n d : ℕ) → (is x n d).places ≡ d
  pub literals-all : length literals ≡ 143
  pub literals-climb : climbs (negf f1) literals ≡ true
  pub coefficients-all : length coefficients ≡ 20
  pub coefficients-climb : climbs (negf f1) coefficients ≡ true

-- what `starred-trials` holds of: the trial and the paper's result as written, and that the one gives the other
pub record TrialsListed : Type 0 where
  pub trial : (t : Trial) (r : TrialAnswer) → (t gives r).trial ≡ t
  pub paper : (t : Trial) (r : TrialAnswer) → (t gives r).paper ≡ r
  pub holds : (t : Trial) (r : TrialAnswer) (rows : List StarredRow) → Holds ((t gives r) ∷ rows) → (result_of t ≡ r) × Holds rows
