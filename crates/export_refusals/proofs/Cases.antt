-- A number by the cases of a test or of an answer, and in a longer list.
use mathlib.Core.Bool.{Bool, true, false, false≢true, cond, ◌&&◌, ◌||◌}
use mathlib.Core.List.{List, [], ◌∷◌}
use mathlib.Core.Path.{◌≡◌, refl}
use Prim.Native.Nat.{ℕ}
use borrow.Author.Tests.{eqb-true}
use lib.Dec.{eqb}
use Rattle.std.specs.Prelude.{Result, Ok, Err, IfErr}
use Rattle.std.proofs.lemmas.Bool.{and_parts}
use Rattle.refusal.specs.Number.{number_of, answer_number}
use Rattle.refusal.specs.declared.Refusal.{Refusal}
use Rattle.records.specs.Chain.{member}
use Rattle.sheet_refusals.specs.Refusals.{Among}
use Rattle.export_refusals.specs.Exports.{OneOf}

pub both : (P : Bool → Type 0) → P true → P false → (b : Bool) → P b
both P t f true = t
both P t f false = f

pub either : {A : Type 0} (P : A → Type 0) (b : Bool) (x y : A) → P x → P y → P (cond b x y)
either P true x y p q = p
either P false x y p q = q

-- `number` gives each refusal its number
pub by-answer : {T : Type 0} (numbers : List ℕ) (number : Result T Refusal → ℕ) → ((t : T) → OneOf numbers (number (Ok t))) → ((r : Refusal) → number (Err r) ≡ number_of r) → (a : Result T Refusal) → IfErr a (Among numbers) → OneOf numbers (number a)
by-answer numbers number zero same (Ok t) p = zero t
by-answer numbers number zero same (Err r) p = rw (same r) p

pub numbered : {T : Type 0} (numbers : List ℕ) (a : Result T Refusal) → OneOf numbers 0 → IfErr a (Among numbers) → OneOf numbers (answer_number a)
numbered numbers a zero p = by-answer numbers answer_number (λ _. zero) (λ _. refl) a p

-- ---- a longer list

-- is every number of the first list in the second
unfoldable pub within : List ℕ → List ℕ → Bool
within [] m = true
within (x ∷ l) m = member x m && within l m

module _ (n : ℕ) (m : List ℕ) where
  longer-by : (x : ℕ) (b rest : Bool) → eqb n x ≡ b → member x m ≡ true → (rest ≡ true → member n m ≡ true) → (b || rest) ≡ true → member n m ≡ true
  longer-by x true rest e h next p = rw (eqb-true n x e) h
  longer-by x false rest e h next p = next p

  pub longer : (l : List ℕ) → within l m ≡ true → member n l ≡ true → member n m ≡ true
  unfolding within member
  longer [] h p = absurd (false≢true p)
  longer (x ∷ l) h p = let t = and_parts (member x m) (within l m) h in longer-by x (eqb n x) (member n l) refl t.0 (longer l t.1) p
