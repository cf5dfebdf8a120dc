-- The paper's marked trials as one table: what is tried, and the answer. Numbers stand as the paper writes them: `decimal 3125 3` is the f32 nearest to 3.125.
use Rattle.std.specs.Prelude.{List, [], ◌∷◌, ◌≡◌, ℕ, ℤ, pos, replicate, Float, Result, Ok, Err}
use Rattle.std.specs.Float.{nan}
use Rattle.refusal.specs.Number.{number_of}
use Rattle.refusal.specs.declared.Refusal.{Refusal}
use Rattle.scalar.specs.F32.{negf, at}
use Rattle.scalar.specs.Literals.{f0, f1, f10, f50, decimal}
use Rattle.scalar.specs.Scalar.{trunc_of}
use Rattle.scalar.specs.Root.{sqrt_of}
use Rattle.layers.specs.declared.LayerParams.{LayerParams}
use Rattle.layers.specs.FromLayers.{from_layers_of}
use Rattle.layers.specs.Ionset.{ionset_of}
use Rattle.deciles.specs.F2dis.{icc_of, f2dis_of}
use Rattle.reflectrix.specs.Angles.{sang_of}

pub data Trial : Type 0 where
  -- `sang` at gcdkm and amind
  sang : Float → Float → Trial
  truncation : Float → Trial
  root : Float → Trial
  -- the time block of `f2dis` at this clck, the first decile number being above 0
  block : Float → Trial
  -- the F1 that `ionset` leaves of E, F1 and F2
  kept_f1 : Float → Float → Float → Trial

pub data TrialAnswer : Type 0 where
  count : ℕ → TrialAnswer
  refused : ℕ → TrialAnswer
  whole : ℤ → TrialAnswer
  number : Float → TrialAnswer

-- what is answered, or the refusal by the paper's number
abbrev pub trial_answer_by : {A : Type 0} → (A → TrialAnswer) → Result A Refusal → TrialAnswer
trial_answer_by f (Ok a) = f a
trial_answer_by f (Err r) = refused (number_of r)

abbrev pub starred_point : Float → Float → Float → LayerParams
starred_point e one two = record { fi = e ∷ one ∷ two ∷ []; yi = replicate 3 f0; hi = replicate 3 f0 }

unfoldable pub result_of : Trial → TrialAnswer
result_of (sang gcdkm amind) = trial_answer_by count (sang_of gcdkm amind)
result_of (truncation x) = whole (trunc_of x)
result_of (root x) = number (sqrt_of x)
result_of (block clck) = trial_answer_by (λ _. count (icc_of clck)) (f2dis_of (replicate 576 f1) f10 f50 f0 f10 clck)
result_of (kept_f1 e one two) =
    trial_answer_by (λ made. trial_answer_by (λ slots. number (at slots.fi 1)) (ionset_of made)) (from_layers_of (starred_point e one two ∷ []) 1)

pub record StarredRow : Type 0 where
  pub trial : Trial
  pub paper : TrialAnswer

infix 20 ◌gives◌
abbrev pub ◌gives◌ : Trial → TrialAnswer → StarredRow
t gives r = record { trial = t; paper = r }

abbrev pub km : ℕ → Float
km n = decimal n 0

abbrev pub starred : List StarredRow
starred =
    (sang (km 1999) f0 gives count 40) ∷
    (sang (km 2000) f0 gives count 34) ∷
    (sang (km 40000) f0 gives count 9) ∷
    (sang (negf (km 2000)) f0 gives refused 7) ∷
    (sang (km 20000) (decimal 10 0) gives count 15) ∷
    (sang f0 (decimal 85 0) gives count 40) ∷
    (truncation (negf (decimal 9 1)) gives whole (pos 0)) ∷
    (truncation (decimal 10000000000 0) gives whole (pos 0x7fff_ffff)) ∷
    (truncation nan gives whole (pos 0)) ∷
    (root (decimal 4 0) gives number (decimal 2 0)) ∷
    (root (negf f0) gives number (negf f0)) ∷
    (block (decimal 12 0) gives count 4) ∷
    (block (decimal 24 0) gives count 1) ∷
    (block (negf (decimal 3 0)) gives refused 12) ∷
    (kept_f1 (decimal 3 0) (decimal 3125 3) (decimal 6 0) gives number f0) ∷
    (kept_f1 (decimal 3 0) (decimal 325 2) (decimal 6 0) gives number (decimal 325 2)) ∷ []

-- every row holds
abbrev pub Holds : List StarredRow → Type 0
Holds [] = Unit {0}
Holds (row ∷ rows) = (result_of row.trial ≡ row.paper) × Holds rows
