-- The theorem on lists of calls by bits: what is the same of states, slots and answers, a zero's sign included and any NaN like any other, and the claim of Lists.antt in that sense.
use Rattle.std.specs.Prelude.{true, List, [], ◌∷◌, map, ◌≡◌, ℕ, ◌<◌, ◌≤◌, T, Float, Result, Ok, Err, IsOkAnd}
use Rattle.refusal.specs.declared.Refusal.{Refusal}
use Rattle.same.specs.Same.{Same, SameAll}
use Rattle.scalar.specs.F32.{at}
use Rattle.layers.specs.Ionset.{ionset_of}
use Rattle.layers.specs.Rules.{count_taken}
use Rattle.layers.specs.declared.IonoState.{IonoState}
use Rattle.layers.specs.declared.LayerMuf.{LayerMuf}
use Rattle.layers.specs.declared.EsParams.{EsParams}
use Rattle.profile.specs.Lecden.{slot_at}
use Rattle.profile.specs.Rising.{rises_of}
use Rattle.profile.specs.declared.slot_curves.Slot.{Slot}
use Rattle.heights.specs.SameReads.{SameReads}
use Rattle.reflectrix.specs.declared.Ionogram.{Ionogram}
use Rattle.muf.specs.declared.MufHour.{MufHour}
use Rattle.call_lists.specs.Calls.{EsRows, flat, records, Call, SlotRows, Answer, of_muf, of_sheet, of_nominal, answer_of}
use Rattle.call_lists.specs.Lists.{run_of, answers_of, run_walk_of, answers_walk_of, run_scan_of, answers_scan_of, states_read, Every, Allowed, own, last_preparing, alone, HeldNumbers}

-- ---- the same, part by part: numbers by their bits, all else equal

-- as many, and each the same
abbrev pub Pairwise : {A : Type 0} → (A → A → Type 0) → List A → List A → Type 0
Pairwise R [] [] = Unit {0}
Pairwise R [] (y ∷ ys) = ⊥
Pairwise R (x ∷ xs) [] = ⊥
Pairwise R (x ∷ xs) (y ∷ ys) = R x y × Pairwise R xs ys

abbrev pub line_numbers : LayerMuf → List Float
line_numbers l = l.sigl ∷ l.sigu ∷ l.delmuf ∷ l.hpmuf ∷ l.htmuf ∷ l.fvmuf ∷ l.afmuf ∷ l.yfot ∷ l.ymuf ∷ l.yhpf ∷ []

abbrev pub SameLine : LayerMuf → LayerMuf → Type 0
SameLine l m = SameAll (line_numbers l) (line_numbers m) × (l.nhopmf ≡ m.nhopmf)

abbrev pub hour_numbers : MufHour → List Float
hour_numbers h = h.emuf ∷ h.f1muf ∷ h.f2muf ∷ h.esmuf ∷ h.allmuf ∷ h.fot ∷ h.hpf ∷ h.angmuf ∷ []

abbrev pub SameHour : MufHour → MufHour → Type 0
SameHour h g = SameAll (hour_numbers h) (hour_numbers g) × (h.modmuf ≡ g.modmuf) × Pairwise SameLine h.layers g.layers × (h.ks ≡ g.ks)

abbrev pub SameRecord : EsParams → EsParams → Type 0
SameRecord e d = SameAll e.fs d.fs × Same e.hs d.hs

abbrev pub SameEs : EsRows → EsRows → Type 0
SameEs (flat es) (flat ds) = SameAll es ds
SameEs (flat es) (records ds) = ⊥
SameEs (records es) (flat ds) = ⊥
SameEs (records es) (records ds) = Pairwise SameRecord es ds

abbrev pub SameRows : Ionogram → Ionogram → Type 0
SameRows i j = SameAll i.fvert j.fvert × SameAll i.hprim j.hprim × SameAll i.htrue j.htrue × SameAll i.afac j.afac × (i.segment ≡ j.segment)

abbrev pub SameSlotRows : SlotRows → SlotRows → Type 0
SameSlotRows a b = SameRows a.ion b.ion × (a.marks ≡ b.marks)

-- both answered, and the same, or refused alike
abbrev pub SameResult : {A : Type 0} → (A → A → Type 0) → Result A Refusal → Result A Refusal → Type 0
SameResult R (Ok a) (Ok b) = R a b
SameResult R (Ok a) (Err r) = ⊥
SameResult R (Err q) (Ok b) = ⊥
SameResult R (Err q) (Err r) = q ≡ r

-- hour and Es rows, or rows, marks and cells, or hour
abbrev pub SameAnswer : Answer → Answer → Type 0
SameAnswer (of_muf h es) (of_muf g ds) = SameResult SameHour h g × SameEs es ds
SameAnswer (of_muf h es) (of_sheet j ds) = ⊥
SameAnswer (of_muf h es) (of_nominal g) = ⊥
SameAnswer (of_sheet i cs) (of_muf g ds) = ⊥
SameAnswer (of_sheet i cs) (of_sheet j ds) = SameResult SameSlotRows i j × (cs ≡ ds)
SameAnswer (of_sheet i cs) (of_nominal g) = ⊥
SameAnswer (of_nominal h) (of_muf g ds) = ⊥
SameAnswer (of_nominal h) (of_sheet j ds) = ⊥
SameAnswer (of_nominal h) (of_nominal g) = SameResult SameHour h g

abbrev pub slot_numbers : Slot → List Float
slot_numbers p = p.fi0 ∷ p.fi1 ∷ p.fi2 ∷ p.yi0 ∷ p.yi1 ∷ p.yi2 ∷ p.hi0 ∷ p.hi1 ∷ p.hi2 ∷ p.fsec ∷ []

abbrev pub SameSlot : Slot → Slot → Type 0
SameSlot p q = SameAll (slot_numbers p) (slot_numbers q)

abbrev pub SameProfileBits : IonoState → IonoState → Type 0
SameProfileBits u v = SameAll u.htr v.htr × SameAll u.fnsq v.fnsq × (u.htr_rises ≡ v.htr_rises) × (u.owner ≡ v.owner)

pub record SameState (u v : IonoState) : Type 0 where
  pub fi-same : SameAll u.fi v.fi
  pub yi-same : SameAll u.yi v.yi
  pub hi-same : SameAll u.hi v.hi
  pub km-same : u.km ≡ v.km
  pub kfx-same : u.kfx ≡ v.kfx
  pub profile-same : SameProfileBits u v
  pub fsecv-same : SameAll u.fsecv v.fsecv
  pub iedp-same : u.iedp ≡ v.iedp
  pub ielect-same : u.ielect ≡ v.ielect
  pub exact_same : u.exact_virtual_height ≡ v.exact_virtual_height

-- ---- the claim, part by part as `ListOfCalls` has it

pub record SameListOfCalls (s : IonoState) (calls : List Call) : Type 0 where
  -- (i) every answer is that of the call alone
  pub answers-alone : Pairwise SameAnswer (answers_of s calls) (map (answer_of s) calls)
  -- (ii) each slot is what its own call alone leaves, or as it was
  pub slots-left : (k : ℕ) → k < 3 → SameSlot (slot_at (run_of s calls) k) (slot_at (alone s (own s calls k)) k)
  -- (iii) the profile, its owner too, is that of the last answered MUF or sheet alone, or s's
  pub profile-left : SameProfileBits (run_of s calls) (alone s (last_preparing s calls))
  pub supplied-left : s.ielect ≡ true → SameState (run_of s calls) s
  -- (iv) the numbers of the tables that are no slot's are s's; the counts and the switches are said in `ListOfCalls`
  pub fi-left : SameAll (run_of s calls).fi s.fi
  pub yi-left : (i : ℕ) → 9 ≤ i → Same (at (run_of s calls).yi i) (at s.yi i)
  pub hi-left : (i : ℕ) → 9 ≤ i → Same (at (run_of s calls).hi i) (at s.hi i)
  -- (v) the same by walks, as the code reads, and by forty scans in place of each
  pub answers-walked : HeldNumbers s → Pairwise SameAnswer (answers_walk_of s calls) (answers_of s calls)
  pub state-walked : HeldNumbers s → SameState (run_walk_of s calls) (run_of s calls)
  pub answers-scanned : Pairwise SameAnswer (answers_scan_of s calls) (answers_of s calls)
  pub state-scanned : SameState (run_scan_of s calls) (run_of s calls)
  -- (vi) on each profile that is read and rises the forty reads are the scans'
  pub reads_same : HeldNumbers s → Every (λ u. (f : Float) → T (rises_of u.htr) → SameReads u f) (states_read s calls)

abbrev pub SameListsOfCalls : Type 0
SameListsOfCalls = (first : IonoState) → T (count_taken first.km) → IsOkAnd (ionset_of first) (λ s. (calls : List Call) → Allowed s calls → SameListOfCalls s calls)
