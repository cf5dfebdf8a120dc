-- Texts are found the same just where their bytes are.
use Prim.Native.Nat.{ℕ, ◌+◌}
use mathlib.Core.Path.{◌≡◌, refl, sym, subst, ◌∙◌}
use mathlib.Core.Bool.{Bool, true, false, cond, ◌&&◌}
use mathlib.Core.List.{List, [], ◌∷◌}
use native.Mathlib.Omega.{arith}
use borrow.Author.Tests.{eq-eqb, eqb-true}
use lib.Dec.{eqb}
use lib.ListN.{take}
use Rattle.std.specs.Prelude.{None, Some}
use Rattle.first_difference.specs.Difference.{same_bytes, verdict_of}
use Rattle.first_difference.specs.Closed.{feeds_of, common_of, closed_of}
use Rattle.first_difference.proofs.Bytes.{closed-form}

pub bytes-equal : (s t : List ℕ) → same_bytes s t ≡ true → s ≡ t
unfolding same_bytes
bytes-equal [] [] e = refl
bytes-equal [] (b ∷ t) e = let z : ◌≡◌ {A = ℕ} 0 1 = cc in absurd (omega arith)
bytes-equal (a ∷ s) [] e = let z : ◌≡◌ {A = ℕ} 0 1 = cc in absurd (omega arith)
bytes-equal (a ∷ s) (b ∷ t) e = by (λ (h : same_bytes s t ≡ true). bytes-equal s t h) (eqb a b) refl e
  where
    by : (same_bytes s t ≡ true → s ≡ t) → (q : Bool) → eqb a b ≡ q → (q && same_bytes s t) ≡ true → a ∷ s ≡ b ∷ t
    by r true f h = let x = eqb-true a b f in let y = r h in cc
    by r false f h = let z : ◌≡◌ {A = ℕ} 0 1 = cc in absurd (omega arith)

pub bytes-own : (s : List ℕ) → same_bytes s s ≡ true
unfolding same_bytes
bytes-own [] = refl
bytes-own (a ∷ s) = rw (eq-eqb a a refl) (bytes-own s)

found-same : (ours theirs : List ℕ) → closed_of ours theirs ≡ None → theirs ≡ ours
unfolding closed_of
found-same ours theirs e = by (same_bytes ours theirs) refl e
  where
    by : (q : Bool) → same_bytes ours theirs ≡ q
        → cond q None (Some (1 + feeds_of (take (common_of ours theirs) ours))) ≡ None
        → theirs ≡ ours
    by true f h = sym (bytes-equal ours theirs f)
    by false f h = let z : ◌≡◌ {A = ℕ} 0 1 = cc in absurd (omega arith)

pub same-only : (ours theirs : List ℕ) → verdict_of ours theirs ≡ None → theirs ≡ ours
same-only ours theirs e = found-same ours theirs (sym (closed-form ours theirs) ∙ e)

own : (ours : List ℕ) → closed_of ours ours ≡ None
unfolding closed_of
own ours = rw (bytes-own ours)

pub same-all : (ours theirs : List ℕ) → theirs ≡ ours → verdict_of ours theirs ≡ None
same-all ours theirs e =
    subst (λ (t : List ℕ). verdict_of ours t ≡ None) (sym e) (closed-form ours ours ∙ own ours)
