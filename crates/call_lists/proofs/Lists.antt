-- By induction over the calls that are left: what each of them picks still stands as it first did, since no call before it picked the same slot.
use mathlib.Core.Bool.{Bool, true, false}
use mathlib.Core.List.{List, [], ◌∷◌, map}
use Rattle.std.specs.Prelude.{Option, Some, None, Ok, IsOkAnd}
use Rattle.std.specs.Bool.{then_some}
use Rattle.std.proofs.lemmas.Bool.{false≢true}
use Rattle.std.proofs.lemmas.Option.{none-some, same_Some}
use mathlib.Core.Path.{◌≡◌, refl, sym, ap, ◌∙◌, subst}
use Prim.Native.Nat.{ℕ}
use borrow.Author.Tests.{eqb-true, eqb-false}
use lib.Dec.{T}
use Rattle.layers.specs.declared.IonoState.{IonoState}
use Rattle.layers.specs.Owners.{owner_of}
use Rattle.layers.specs.Ionset.{ionset_by, ionset_of}
use Rattle.layers.specs.Rules.{count_taken}
use Rattle.profile.specs.Lecden.{slot_at, lecden_of}
use Rattle.profile.proofs.Owns.{lecden-owner}
use Rattle.heights.specs.Gethp.{Finder, gethp_of, gethp_scan_of}
use Rattle.heights.specs.GethpWalk.{gethp_walk_of}
use Rattle.heights.proofs.Whole.{forty-reads}
use Rattle.heights.proofs.Finders.{Agree, walks-agree, scans-agree}
use Rattle.call_lists.specs.Calls.{Call, Answer, answer_of, after_of, after_with, prepares, picked_slot}
use Rattle.call_lists.specs.Lists.{run_of, answers_of, run_with, answers_with, with_picked, states_read, Every, Together, Allowed, picks, or_else, own, later_or, last_preparing, alone, SameProfile, owner_picked, last_owner, ReadsWell, HeldNumbers, ListOfCalls, ListsOfCalls, ReadAll, HeldState}
use Rattle.call_lists.proofs.Prepared.{Common, common-self}
use Rattle.call_lists.proofs.Numbers.{lecden-numbers, ionset-numbers}
use Rattle.call_lists.proofs.Frames.{FreshFor, prepared_if, AgreesAt, slot_of, call-leaves, answer-with, after-with, picks-own, one-step}

-- ---- who picks a slot

picks-true : (o : Option ℕ) (k : ℕ) → picks o k ≡ true → o ≡ Some k
picks-true None k e = absurd (false≢true e)
picks-true (Some j) k e = ap Some (eqb-true j k e)

picks-false : (o : Option ℕ) (k : ℕ) → picks o k ≡ false → o ≡ Some k → ⊥
picks-false None k e h = none-some k h
picks-false (Some j) k e h = eqb-false j k e (same_Some j k h)

pub every-both : {A : Type 0} (P Q R : A → Type 0) (xs : List A) → Every P xs → Every Q xs → ((x : A) → P x → Q x → R x) → Every R xs
every-both P Q R [] p q f = tt
every-both P Q R (x ∷ xs) p q f = (f x p.0 q.0, every-both P Q R xs p.1 q.1 f)

-- a slot that c picks has no own call among calls that stand together with c
no-other-by : (b : Bool) (s : IonoState) (d : Call) (k : ℕ) (rest : Option Call) → picks (picked_slot s d) k ≡ b → (picked_slot s d ≡ Some k → ⊥) → rest ≡ None → or_else b d rest ≡ None
no-other-by true s d k rest p apart e = absurd (apart (picks-true (picked_slot s d) k p))
no-other-by false s d k rest p apart e = e

no_other : (s : IonoState) (c : Call) (k : ℕ) (cs : List Call) → Every (Together s c) cs → picked_slot s c ≡ Some k → own s cs k ≡ None
unfolding own
no_other s c k [] h e = refl
no_other s c k (d ∷ cs) h e = no-other-by (picks (picked_slot s d) k) s d k (own s cs k) refl (h.0 k e) (no_other s c k cs h.1 e)

-- ---- the induction

-- what a call alone leaves of s; t where there is None
abbrev left : Option Call → IonoState → IonoState → IonoState
left None s t = t
left (Some c) s t = after_of s c

record RanOn (s t : IonoState) (cs : List Call) : Type 0 where
  all-answers : answers_of t cs ≡ map (answer_of s) cs
  all-common : Common s (run_of t cs)
  all_slots : (k : ℕ) → slot_at (run_of t cs) k ≡ slot_at (left (own s cs k) s t) k
  the-profile : SameProfile (run_of t cs) (left (last_preparing s cs) s t)

-- a slot after one call more
slot_step : (s t t₁ r : IonoState) (c : Call) (k : ℕ) (o : Option Call) (b : Bool) → picks (picked_slot s c) k ≡ b → (picked_slot s c ≡ Some k → o ≡ None) → (picked_slot s c ≡ Some k → slot_at t₁ k ≡ slot_at (after_of s c) k) → ((picked_slot s c ≡ Some k → ⊥) → slot_at t₁ k ≡ slot_at t k) → slot_at r k ≡ slot_at (left o s t₁) k → slot_at r k ≡ slot_at (left (or_else b c o) s t) k
slot_step s t t₁ r c k o true p alone-here own-slot other-slot ih =
    let e = picks-true (picked_slot s c) k p in
    ih ∙ ap (λ (x : Option Call). slot_at (left x s t₁) k) (alone-here e) ∙ own-slot e
slot_step s t t₁ r c k None false p alone-here own-slot other-slot ih = ih ∙ other-slot (picks-false (picked_slot s c) k p)
slot_step s t t₁ r c k (Some d) false p alone-here own-slot other-slot ih = ih

-- the profile after one call more
profile-step : (s t t₁ r : IonoState) (c : Call) (o : Option Call) (b : Bool) → (b ≡ true → SameProfile t₁ (after_of s c)) → (b ≡ false → t₁ ≡ t) → SameProfile r (left o s t₁) → SameProfile r (left (later_or o (then_some b c)) s t)
profile-step s t t₁ r c (Some d) b h g ih = ih
profile-step s t t₁ r c None true h g ih = let p = h refl in (ih.0 ∙ p.0, ih.1 ∙ p.1, ih.2 ∙ p.2, ih.3 ∙ p.3)
profile-step s t t₁ r c None false h g ih = subst (λ (w : IonoState). SameProfile r w) (g refl) ih

ran : (s : IonoState) (cs : List Call) (t : IonoState) → Common s t → Every (FreshFor s t) cs → Allowed s cs → RanOn s t cs
unfolding run_with answers_with own last_preparing
ran s [] t g fresh allowed = record { all-answers = refl; all-common = g; all_slots = λ k. refl; the-profile = (refl, refl, refl, refl) }
ran s (c ∷ cs) t g fresh allowed =
    let x = one-step s t c g fresh.0 in
    let t₁ = after_of t c in
    let still = every-both (FreshFor s t) (Together s c) (FreshFor s t₁) cs fresh.1 allowed.0 (λ d f h. λ k e. x.other-slot k (λ p. h k p e) ∙ f k e) in
    let ih = ran s cs t₁ x.still-common still allowed.1 in
    record {
      all-answers = rw (x.answer-same, ih.all-answers);
      all-common = ih.all-common;
      all_slots = λ k. slot_step s t t₁ (run_of t₁ cs) c k (own s cs k) (picks (picked_slot s c) k) refl (λ e. no_other s c k cs allowed.0 e) (x.own-slot k) (x.other-slot k) (ih.all_slots k);
      the-profile = profile-step s t t₁ (run_of t₁ cs) c (last_preparing s cs) (prepares s c) x.profile-answered x.state-refused ih.the-profile;
    }

-- ---- f32 numbers stay f32 numbers

prepared-numbers : (b : Bool) (t : IonoState) (k : ℕ) → HeldNumbers t → HeldNumbers (prepared_if b t k)
prepared-numbers true t k n = lecden-numbers t k n
prepared-numbers false t k n = n

after-numbers : (t : IonoState) (c : Call) → HeldNumbers t → HeldNumbers (after_of t c)
after-numbers t c n = subst HeldNumbers (sym (call-leaves c t)) (prepared-numbers (prepares t c) t (slot_of t c) n)

-- ---- other ways of finding heights

-- `find` agrees with `gethp_of` on every profile that is read
abbrev AgreesAll : Finder → List IonoState → Type 0
AgreesAll find us = Every (λ u. Agree find gethp_of u) us

picked-agree : (o : Option ℕ) (find : Finder) (t : IonoState) (rest : List IonoState) → AgreesAll find (with_picked o t rest) → ((k : ℕ) → o ≡ Some k → AgreesAt find t k) × AgreesAll find rest
picked-agree None find t rest h = (λ k e. absurd (none-some k e), h)
picked-agree (Some j) find t rest h = (λ k e. subst (λ (i : ℕ). AgreesAt find t i) (same_Some j k e) h.0, h.1)

run-with : (find : Finder) (cs : List Call) (t : IonoState) → AgreesAll find (states_read t cs) → run_with find t cs ≡ run_of t cs
unfolding run_with states_read
run-with find [] t h = refl
run-with find (c ∷ cs) t h =
    let p = picked-agree (picked_slot t c) find t (states_read (after_of t c) cs) h in
    ap (λ (w : IonoState). run_with find w cs) (after-with c find t p.0) ∙ run-with find cs (after_of t c) p.1

answers_with_lem : (find : Finder) (cs : List Call) (t : IonoState) → AgreesAll find (states_read t cs) → answers_with find t cs ≡ answers_of t cs
unfolding answers_with states_read
answers_with_lem find [] t h = refl
answers_with_lem find (c ∷ cs) t h =
    let p = picked-agree (picked_slot t c) find t (states_read (after_of t c) cs) h in
    ap (λ (a : Answer). a ∷ answers_with find (after_with find t c) cs) (answer-with c find t p.0)
    ∙ ap (λ (w : IonoState). answer_of t c ∷ answers_with find w cs) (after-with c find t p.0)
    ∙ ap (λ (rest : List Answer). answer_of t c ∷ rest) (answers_with_lem find cs (after_of t c) p.1)

pub read_all : ReadAll
read_all find s calls h = (answers_with_lem find calls s h, run-with find calls s h)

-- ---- the reads

-- P holds of every state that a list comes through, and so Q of every profile that is read
module _ (P Q : IonoState → Type 0) (stays : (t : IonoState) (c : Call) → P t → P (after_of t c)) (prepared : (t : IonoState) (k : ℕ) → P t → Q (lecden_of t k)) where
  picked-reads : (o : Option ℕ) (t : IonoState) (rest : List IonoState) → P t → Every Q rest → Every Q (with_picked o t rest)
  picked-reads None t rest p h = h
  picked-reads (Some k) t rest p h = (prepared t k p, h)

  every-read : (cs : List Call) (t : IonoState) → P t → Every Q (states_read t cs)
  unfolding states_read
  every-read [] t p = tt
  every-read (c ∷ cs) t p = picked-reads (picked_slot t c) t (states_read (after_of t c) cs) p (every-read cs (after_of t c) (stays t c p))

by-walks : (cs : List Call) (t : IonoState) → HeldNumbers t → AgreesAll gethp_walk_of (states_read t cs)
by-walks cs t n = every-read HeldNumbers (λ u. Agree gethp_walk_of gethp_of u) after-numbers (λ t k n. walks-agree (lecden_of t k) (lecden-numbers t k n).htr-held) cs t n

by-scans : (cs : List Call) (t : IonoState) → AgreesAll gethp_scan_of (states_read t cs)
by-scans cs t = every-read (λ t. Unit {0}) (λ u. Agree gethp_scan_of gethp_of u) (λ t c u. tt) (λ t k u. scans-agree (lecden_of t k)) cs t tt

reads-well-all : (cs : List Call) (t : IonoState) → HeldNumbers t → Every ReadsWell (states_read t cs)
reads-well-all cs t n = every-read HeldNumbers ReadsWell after-numbers (λ t k n f rises. forty-reads (lecden_of t k) f (lecden-numbers t k n).htr-held rises) cs t n

pub numbers-walk : (s : IonoState) → HeldNumbers s → HeldState s
numbers-walk s n =
    record {
      numbers = n;
      answers-walked = λ calls. answers_with_lem gethp_walk_of calls s (by-walks calls s n);
      state-walked = λ calls. run-with gethp_walk_of calls s (by-walks calls s n);
      reads-well = λ calls. reads-well-all calls s n;
    }

-- ---- the whole

at_first : (s : IonoState) (cs : List Call) → Every (FreshFor s s) cs
at_first s [] = tt
at_first s (c ∷ cs) = (λ k e. refl, at_first s cs)

left_alone : (o : Option Call) (s : IonoState) → left o s s ≡ alone s o
left_alone None s = refl
left_alone (Some c) s = refl

-- ---- the owner

prepared-owner : (c : Call) (s : IonoState) → prepares s c ≡ true → owner_of (after_of s c) ≡ owner_picked s.ielect (picked_slot s c)
prepared-owner c s e =
    ap owner_of (call-leaves c s) ∙ ap (λ (b : Bool). owner_of (prepared_if b s (slot_of s c))) e ∙ lecden-owner s (slot_of s c) ∙ ap (owner_picked s.ielect) (sym (picks-own c s e))

-- the last call that prepares a slot does prepare one
later-owner : (s : IonoState) (o : Option Call) (b : Bool) (c : Call) → prepares s c ≡ b → owner_of (alone s o) ≡ last_owner s o → owner_of (alone s (later_or o (then_some b c))) ≡ last_owner s (later_or o (then_some b c))
later-owner s (Some d) b c e h = h
later-owner s None true c e h = prepared-owner c s e
later-owner s None false c e h = refl

last-owner : (s : IonoState) (cs : List Call) → owner_of (alone s (last_preparing s cs)) ≡ last_owner s (last_preparing s cs)
unfolding last_preparing
last-owner s [] = refl
last-owner s (c ∷ cs) = later-owner s (last_preparing s cs) (prepares s c) c refl (last-owner s cs)

alone-ielect : (s : IonoState) (o : Option Call) → (alone s o).ielect ≡ s.ielect
alone-ielect s None = refl
alone-ielect s (Some c) = (one-step s s c (common-self s) (λ k e. refl)).still-common.ielect-common

-- equal fields, equal owners
same-owner : (u v : IonoState) → u.ielect ≡ v.ielect → u.owner ≡ v.owner → owner_of u ≡ owner_of v
unfolding owner_of
same-owner u v e h = rw (e, h)

-- for any first state
pub any-list : (s : IonoState) (calls : List Call) → Allowed s calls → ListOfCalls s calls
any-list s calls allowed =
    let r = ran s calls s (common-self s) (at_first s calls) allowed in
    let c = r.all-common in
    record {
      answers-alone = r.all-answers;
      state-left =
          record {
            slots-left = λ k h. r.all_slots k ∙ ap (λ (w : IonoState). slot_at w k) (left_alone (own s calls k) s);
            profile-left = subst (λ (w : IonoState). SameProfile (run_of s calls) w) (left_alone (last_preparing s calls) s) r.the-profile;
            owner-left =
                same-owner (run_of s calls) (alone s (last_preparing s calls)) (c.ielect-common ∙ sym (alone-ielect s (last_preparing s calls))) (subst (λ (w : IonoState). SameProfile (run_of s calls) w) (left_alone (last_preparing s calls) s) r.the-profile).3
                ∙ last-owner s calls;
            supplied-left = c.supplied;
            fi-left = c.fi-common;
            yi-left = (c.yi-long, c.yi-upper);
            hi-left = (c.hi-long, c.hi-upper);
            fsecv-left = c.fsecv-long;
            km-left = c.km-common;
            kfx-left = c.kfx-common;
            iedp-left = c.iedp-common;
            ielect-left = c.ielect-common;
            exact-left = c.exact-common;
          };
      answers-walked = λ n. (numbers-walk s n).answers-walked calls;
      state-walked = λ n. (numbers-walk s n).state-walked calls;
      answers-scanned = answers_with_lem gethp_scan_of calls s (by-scans calls s);
      state-scanned = run-with gethp_scan_of calls s (by-scans calls s);
      reads-well = λ n. (numbers-walk s n).reads-well calls;
    }

-- `ionset` answers a state with 1 to 5 points
set-answers : (b : Bool) (first : IonoState) (Q : IonoState → Type 0) → T b → ((s : IonoState) → ionset_by b first ≡ Ok s → Q s) → IsOkAnd (ionset_by b first) Q
set-answers true first Q h f = f _ refl
set-answers false first Q h f = absurd h

pub if-set : (first : IonoState) (Q : IonoState → Type 0) → T (count_taken first.km) → ((s : IonoState) → ionset_of first ≡ Ok s → Q s) → IsOkAnd (ionset_of first) Q
unfolding ionset_of
if-set first Q h f = set-answers (count_taken first.km) first Q h f

pub lists-of-calls : ListsOfCalls
lists-of-calls first h = if-set first _ h (λ s e. (λ calls allowed. any-list s calls allowed, λ n. ionset-numbers first s n e))
