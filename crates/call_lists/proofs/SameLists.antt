-- The equations of `lists-of-calls`, read by bits: what is equal is the same, part by part.
use mathlib.Core.List.{List, [], ◌∷◌}
use mathlib.Core.Path.{◌≡◌, refl, subst}
use Rattle.std.specs.Prelude.{Result, Ok, Err}
use lib.Dec.{T}
use lib.Ieee.{Float}
use Rattle.refusal.specs.declared.Refusal.{Refusal}
use Rattle.same.specs.Same.{SameAll}
use Rattle.same.proofs.Same.{equal-same, equal-all}
use Rattle.layers.specs.declared.IonoState.{IonoState}
use Rattle.layers.specs.declared.LayerMuf.{LayerMuf}
use Rattle.layers.specs.declared.EsParams.{EsParams}
use Rattle.profile.specs.Rising.{rises_of}
use Rattle.profile.specs.declared.slot_curves.Slot.{Slot}
use Rattle.heights.specs.SameReads.{SameReads}
use Rattle.heights.proofs.SameReads.{same_reads}
use Rattle.reflectrix.specs.declared.Ionogram.{Ionogram}
use Rattle.muf.specs.declared.MufHour.{MufHour}
use Rattle.call_lists.specs.Calls.{EsRows, flat, records, Call, SlotRows, Answer, of_muf, of_sheet, of_nominal}
use Rattle.call_lists.specs.Lists.{run_of, states_read, Every, Allowed, last_preparing, alone, ReadsWell, SameProfile, ListOfCalls}
use Rattle.call_lists.specs.SameLists.{Pairwise, line_numbers, SameLine, hour_numbers, SameHour, SameRecord, SameEs, SameRows, SameSlotRows, SameResult, SameAnswer, slot_numbers, SameSlot, SameProfileBits, SameState, SameListOfCalls, SameListsOfCalls}
use Rattle.call_lists.proofs.Lists.{any-list, if-set}

-- ---- each is the same as itself

all-self : (xs : List Float) → SameAll xs xs
all-self xs = equal-all xs xs refl

pairwise-self : {A : Type 0} (R : A → A → Type 0) → ((x : A) → R x x) → (xs : List A) → Pairwise R xs xs
pairwise-self R r [] = tt
pairwise-self R r (x ∷ xs) = (r x, pairwise-self R r xs)

line-self : (l : LayerMuf) → SameLine l l
line-self l = (all-self (line_numbers l), refl)

hour-self : (h : MufHour) → SameHour h h
hour-self h = (all-self (hour_numbers h), refl, pairwise-self SameLine line-self h.layers, refl)

record-self : (e : EsParams) → SameRecord e e
record-self e = (all-self e.fs, equal-same e.hs e.hs refl)

es-self : (es : EsRows) → SameEs es es
es-self (flat es) = all-self es
es-self (records es) = pairwise-self SameRecord record-self es

rows_self : (i : Ionogram) → SameRows i i
rows_self i = (all-self i.fvert, all-self i.hprim, all-self i.htrue, all-self i.afac, refl)

slot-rows : (a : SlotRows) → SameSlotRows a a
slot-rows a = (rows_self a.ion, refl)

result-self : {A : Type 0} (R : A → A → Type 0) → ((a : A) → R a a) → (r : Result A Refusal) → SameResult R r r
result-self R h (Ok a) = h a
result-self R h (Err r) = refl

answer-self : (a : Answer) → SameAnswer a a
answer-self (of_muf h es) = (result-self SameHour hour-self h, es-self es)
answer-self (of_sheet i cs) = (result-self SameSlotRows slot-rows i, refl)
answer-self (of_nominal h) = result-self SameHour hour-self h

slot-self : (p : Slot) → SameSlot p p
slot-self p = all-self (slot_numbers p)

state-self : (u : IonoState) → SameState u u
state-self u =
    record {
      fi-same = all-self u.fi;
      yi-same = all-self u.yi;
      hi-same = all-self u.hi;
      km-same = refl;
      kfx-same = refl;
      profile-same = (all-self u.htr, all-self u.fnsq, refl, refl);
      fsecv-same = all-self u.fsecv;
      iedp-same = refl;
      ielect-same = refl;
      exact_same = refl;
    }

-- ---- what is equal is the same

answers-so : (xs ys : List Answer) → xs ≡ ys → Pairwise SameAnswer xs ys
answers-so xs ys e = subst (λ (zs : List Answer). Pairwise SameAnswer xs zs) e (pairwise-self SameAnswer answer-self xs)

slot-so : (p q : Slot) → p ≡ q → SameSlot p q
slot-so p q e = subst (λ (z : Slot). SameSlot p z) e (slot-self p)

state-so : (u v : IonoState) → u ≡ v → SameState u v
state-so u v e = subst (λ (z : IonoState). SameState u z) e (state-self u)

profile-so : (u v : IonoState) → SameProfile u v → SameProfileBits u v
profile-so u v e = (equal-all u.htr v.htr e.0, equal-all u.fnsq v.fnsq e.1, e.2, e.3)

reads_so : (us : List IonoState) → Every ReadsWell us → Every (λ u. (f : Float) → T (rises_of u.htr) → SameReads u f) us
reads_so [] h = tt
reads_so (u ∷ us) h = (λ f rises. same_reads u f (h.0 f rises), reads_so us h.1)

-- ---- the whole

pub list_same : (s : IonoState) (calls : List Call) → ListOfCalls s calls → SameListOfCalls s calls
list_same s calls l =
    let left = l.state-left in
    record {
      answers-alone = answers-so _ _ l.answers-alone;
      slots-left = λ k h. slot-so _ _ (left.slots-left k h);
      profile-left = profile-so (run_of s calls) (alone s (last_preparing s calls)) left.profile-left;
      supplied-left = λ e. state-so _ _ (left.supplied-left e);
      fi-left = equal-all _ _ left.fi-left;
      yi-left = λ i h. equal-same _ _ (left.yi-left.1 i h);
      hi-left = λ i h. equal-same _ _ (left.hi-left.1 i h);
      answers-walked = λ n. answers-so _ _ (l.answers-walked n);
      state-walked = λ n. state-so _ _ (l.state-walked n);
      answers-scanned = answers-so _ _ l.answers-scanned;
      state-scanned = state-so _ _ l.state-scanned;
      reads_same = λ n. reads_so (states_read s calls) (l.reads-well n);
    }

-- for any first state
pub any-list-same : (s : IonoState) (calls : List Call) → Allowed s calls → SameListOfCalls s calls
any-list-same s calls allowed = list_same s calls (any-list s calls allowed)

pub lists-of-calls-same : SameListsOfCalls
lists-of-calls-same first counted = if-set first _ counted (λ s e calls allowed. any-list-same s calls allowed)
