-- A place found is that of the layer, and the answer is worked out there; a number that is refused is refused whatever the answer would be.
use mathlib.Core.Bool.{Bool, true, false}
use mathlib.Core.Path.{◌≡◌, ap}
use Rattle.std.specs.Prelude.{Ok, Err}
use Rattle.refusal.specs.declared.Refusal.{Refusal}
use Rattle.parabolas.specs.Bendy.{layer_answer_by}

pub answered : {A B : Type 0} (i k : Bool) (n m : A) (f : A → B) → Ok m ≡ layer_answer_by i k n → Ok (f m) ≡ layer_answer_by i k (f n)
answered true k n m f e = absurd cc
answered false true n m f e = absurd cc
answered {A = A} false false n m f e = let h : m ≡ n = cc in ap (λ (x : A). Ok (f x)) h

pub refused : {A B : Type 0} (i k : Bool) (n : A) (r : Refusal) (x : B) → Err r ≡ layer_answer_by i k n → Err r ≡ layer_answer_by i k x
refused true k n r x e = cc
refused false true n r x e = cc
refused false false n r x e = absurd cc
