-- The laws of a marking: by our answer and the size of theirs, then those of two texts compared.
use Prim.Native.Nat.{ℕ, ◌+◌, ◌<◌}
use mathlib.Core.Path.{◌≡◌, refl, sym, ap, ◌∙◌}
use mathlib.Core.Bool.{Bool, true, false, cond}
use mathlib.Core.List.{List}
use native.Mathlib.Omega.{arith}
use borrow.Author.Tests.{ltb-false, lt-ltb, le-ltb}
use lib.Dec.{ltb}
use lib.ListN.{length, take}
use Rattle.std.specs.Prelude.{Option, None, Some, Result, Ok, Err}
use Rattle.refusal.specs.declared.Refusal.{Refusal}
use Rattle.first_difference.specs.Difference.{same_bytes, verdict_of}
use Rattle.first_difference.specs.Closed.{feeds_of, common_of, closed_of}
use Rattle.first_difference.specs.Laws.{FirstOther}
use Rattle.first_difference.proofs.Laws.{difference-laws}
use Rattle.marking.specs.Answer.{sheet_most, sized_by, sized_of, marking_of, text_marked_by, text_marked}
use Rattle.marking.specs.AnswerLaws.{Markable, TextLaws}

-- ---- where theirs is compared, the verdict is the marking

pub compared : {T : Type 0} (o : Result T Refusal) (ours theirs : List ℕ) → Markable o theirs → text_marked o ours theirs ≡ marking_of (verdict_of ours theirs)
unfolding text_marked sized_of
compared o ours theirs c = rw (c.answered.1, le-ltb _ _ c.within)

-- a marking that is no refusal is one of theirs compared
data Of {T : Type 0} (o : Result T Refusal) (ours theirs : List ℕ) : Type 0 where
  verdict : Markable o theirs → Of o ours theirs
  refusal : (r : Refusal) → text_marked o ours theirs ≡ Err r → Of o ours theirs

by_size : {T : Type 0} (t : T) (q : Bool) (ours theirs : List ℕ) → ltb sheet_most (length theirs) ≡ q → Of (Ok t) ours theirs
unfolding text_marked sized_of
by_size t true ours theirs e = refusal Refusal.SheetLength (rw e)
by_size t false ours theirs e = verdict (record { answered = (t, refl); within = ltb-false _ _ e })

of : {T : Type 0} (o : Result T Refusal) (ours theirs : List ℕ) → Of o ours theirs
unfolding text_marked sized_of
of (Ok t) ours theirs = by_size t (ltb sheet_most (length theirs)) ours theirs refl
of (Err r) ours theirs = refusal r refl

-- ---- verdicts and markings

same-verdict : (v : Option ℕ) → marking_of v ≡ Ok None → v ≡ None
same-verdict v e = cc

differs-verdict : (v : Option ℕ) (n : ℕ) → marking_of v ≡ Ok (Some n) → v ≡ Some n
differs-verdict v n e = cc

-- ---- the laws

same-only : {T : Type 0} (o : Result T Refusal) (ours theirs : List ℕ) → text_marked o ours theirs ≡ Ok None → Markable o theirs × (theirs ≡ ours)
same-only o ours theirs e = by (of o ours theirs)
  where
    by : Of o ours theirs → Markable o theirs × (theirs ≡ ours)
    by (verdict c) = (c, (difference-laws.same ours theirs).0 (same-verdict (verdict_of ours theirs) (sym (compared o ours theirs c) ∙ e)))
    by (refusal r f) = let z : ◌≡◌ {A = ℕ} 0 1 = cc in absurd (omega arith)

same-all : {T : Type 0} (o : Result T Refusal) (ours theirs : List ℕ) → Markable o theirs × (theirs ≡ ours) → text_marked o ours theirs ≡ Ok None
same-all o ours theirs p = compared o ours theirs p.0 ∙ ap marking_of ((difference-laws.same ours theirs).1 p.1)

verdict-is : {T : Type 0} (o : Result T Refusal) (ours theirs : List ℕ) (n : ℕ) → text_marked o ours theirs ≡ Ok (Some n)
    → Markable o theirs × (verdict_of ours theirs ≡ Some n)
verdict-is o ours theirs n e = by (of o ours theirs)
  where
    by : Of o ours theirs → Markable o theirs × (verdict_of ours theirs ≡ Some n)
    by (verdict c) = (c, differs-verdict (verdict_of ours theirs) n (sym (compared o ours theirs c) ∙ e))
    by (refusal r f) = let z : ◌≡◌ {A = ℕ} 0 1 = cc in absurd (omega arith)

differs-only : {T : Type 0} (o : Result T Refusal) (ours theirs : List ℕ) (n : ℕ) → text_marked o ours theirs ≡ Ok (Some n)
    → Markable o theirs × FirstOther ours theirs n
differs-only o ours theirs n e =
    let v = verdict-is o ours theirs n e in (v.0, (difference-laws.differs ours theirs n).0 v.1)

differs-all : {T : Type 0} (o : Result T Refusal) (ours theirs : List ℕ) (n : ℕ) → Markable o theirs × FirstOther ours theirs n
    → text_marked o ours theirs ≡ Ok (Some n)
differs-all o ours theirs n p =
    compared o ours theirs p.0 ∙ ap marking_of ((difference-laws.differs ours theirs n).1 p.1)

closed-number : (ours theirs : List ℕ) (n : ℕ) → closed_of ours theirs ≡ Some n
    → n ≡ 1 + feeds_of (take (common_of ours theirs) ours)
unfolding closed_of
closed-number ours theirs n e = by (same_bytes ours theirs) e
  where
    by : (q : Bool)
        → cond q None (Some (1 + feeds_of (take (common_of ours theirs) ours))) ≡ Some n
        → n ≡ 1 + feeds_of (take (common_of ours theirs) ours)
    by true h = let z : ◌≡◌ {A = ℕ} 0 1 = cc in absurd (omega arith)
    by false h = cc

refused : (T : Type 0) (r : Refusal) (ours theirs : List ℕ) → text_marked {T = T} (Err r) ours theirs ≡ Err r
unfolding text_marked sized_of
refused T r ours theirs = refl

long : {T : Type 0} (t : T) (ours theirs : List ℕ) → sheet_most < length theirs → text_marked (Ok t) ours theirs ≡ Err Refusal.SheetLength
unfolding text_marked sized_of
long t ours theirs h = rw (lt-ltb _ _ h)

-- what was answered decides nothing
pub any-answer : {T U : Type 0} (t : T) (u : U) (ours theirs : List ℕ) → text_marked (Ok t) ours theirs ≡ text_marked (Ok u) ours theirs
unfolding text_marked sized_of
any-answer t u ours theirs = by (ltb sheet_most (length theirs))
  where
    by : (q : Bool) → text_marked_by (sized_by (Ok t) q) ours theirs ≡ text_marked_by (sized_by (Ok u) q) ours theirs
    by true = refl
    by false = refl

pub text-laws : {T : Type 0} → TextLaws T
text-laws {T} =
    record {
      same = λ o ours theirs. (same-only o ours theirs, same-all o ours theirs);
      differs = λ o ours theirs n. (differs-only o ours theirs n, differs-all o ours theirs n);
      closed = λ o ours theirs n e.
          closed-number ours theirs n (sym (difference-laws.closed ours theirs) ∙ (verdict-is o ours theirs n e).1);
      most = λ o ours theirs n e. difference-laws.most ours theirs n (verdict-is o ours theirs n e).1;
      refused = refused T;
      long = long;
    }
