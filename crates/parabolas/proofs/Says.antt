-- Number and value of an answer, case by case of the definition.
use Rattle.std.specs.Prelude.{Result}
use mathlib.Core.Bool.{Bool, true, false, cond, ◌||◌}
use mathlib.Core.List.{[], ◌∷◌}
use mathlib.Core.Path.{◌≡◌, refl}
use Prim.Native.Nat.{ℕ}
use lib.Dec.{ltb}
use lib.Ieee.{Float}
use Rattle.refusal.specs.declared.Refusal.{Refusal}
use Rattle.refusal.specs.Number.{answer_number}
use Rattle.layers.specs.declared.IonoState.{IonoState}
use Rattle.parabolas.specs.Bendy.{bendy_of, pen_of, layer_answer_by, bendy_answer, pen_answer, layer_values_of, LayerSays}

says-by : (i k : Bool) (v : Float) → let r : Result Float Refusal = layer_answer_by i k v in (answer_number r ≡ cond (i || k) 6 0) × (layer_values_of r ≡ cond (i || k) [] (v ∷ []))
says-by true k v = (refl, refl)
says-by false true v = (refl, refl)
says-by false false v = (refl, refl)

-- an answer that is the definition's says what the definition says
pub bendy-says : (r : Result Float Refusal) (s : IonoState) (i k : ℕ) (f : Float) → r ≡ bendy_answer s i k f → LayerSays r i k (bendy_of s i k f)
unfolding bendy_answer LayerSays
bendy-says r s i k f e = rw e (says-by (ltb 2 i) (ltb 2 k) (bendy_of s i k f))

pub pen-says : (r : Result Float Refusal) (s : IonoState) (i k : ℕ) (f : Float) → r ≡ pen_answer s i k f → LayerSays r i k (pen_of s i k f)
unfolding pen_answer LayerSays
pen-says r s i k f e = rw e (says-by (ltb 2 i) (ltb 2 k) (pen_of s i k f))
