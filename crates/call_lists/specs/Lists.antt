-- The theorem on lists of calls, as one claim about a whole list of any length. Nothing is asked of the state's switch of the exact height rule: all of it holds for both settings.
-- The first call gets the state s that `ionset` answered, each later one the state that the one before returned. "Alone" is on s, with the same arguments and cells.
use Rattle.std.specs.Prelude.{Bool, true, false, List, [], ◌∷◌, map, ◌≡◌, ℕ, ◌<◌, ◌≤◌, T, eqb, length, Float, Option, Some, None, IsOkAnd}
use Rattle.std.specs.Bool.{then_some}
use Rattle.scalar.specs.F32.{at}
use Rattle.layers.specs.Owners.{owner_by, owner_of}
use Rattle.layers.specs.Ionset.{ionset_of}
use Rattle.layers.specs.Rules.{count_taken}
use Rattle.layers.specs.declared.IonoState.{IonoState}
use Rattle.layers.specs.declared.Owner.{Owner}
use Rattle.profile.specs.Lecden.{slot_at, lecden_of}
use Rattle.profile.specs.Rising.{rises_of}
use Rattle.heights.specs.Walk.{EachF32}
use Rattle.heights.specs.Gethp.{Finder, gethp_of, gethp_scan_of}
use Rattle.heights.specs.GethpWalk.{gethp_walk_of}
use Rattle.heights.specs.Reads.{FortyReads}
use Rattle.call_lists.specs.Calls.{Call, Answer, answer_of, after_of, answer_with, after_with, prepares, picked_slot}

-- ---- a list run: the state at its end, and the answers in their order

unfoldable pub run_with : Finder → IonoState → List Call → IonoState
run_with find s [] = s
run_with find s (c ∷ cs) = run_with find (after_with find s c) cs

unfoldable pub answers_with : Finder → IonoState → List Call → List Answer
answers_with find s [] = []
answers_with find s (c ∷ cs) = answer_with find s c ∷ answers_with find (after_with find s c) cs

-- as the contracts say
abbrev pub run_of : IonoState → List Call → IonoState
run_of = run_with gethp_of

abbrev pub answers_of : IonoState → List Call → List Answer
answers_of = answers_with gethp_of

-- by walks, as the code reads
abbrev pub run_walk_of : IonoState → List Call → IonoState
run_walk_of = run_with gethp_walk_of

abbrev pub answers_walk_of : IonoState → List Call → List Answer
answers_walk_of = answers_with gethp_walk_of

-- by forty full scans in place of each walk
abbrev pub run_scan_of : IonoState → List Call → IonoState
run_scan_of = run_with gethp_scan_of

abbrev pub answers_scan_of : IonoState → List Call → List Answer
answers_scan_of = answers_with gethp_scan_of

-- ---- the states whose profiles its calls read: each with the slot prepared that the call picks

abbrev pub with_picked : Option ℕ → IonoState → List IonoState → List IonoState
with_picked None s rest = rest
with_picked (Some k) s rest = lecden_of s k ∷ rest

unfoldable pub states_read : IonoState → List Call → List IonoState
states_read s [] = []
states_read s (c ∷ cs) = with_picked (picked_slot s c) s (states_read (after_of s c) cs)

-- ---- which lists are allowed

abbrev pub Every : {A : Type 0} → (A → Type 0) → List A → Type 0
Every P [] = Unit {0}
Every P (c ∷ cs) = P c × Every P cs

-- No slot is picked twice: each has at most one answered sheet, or one MUF that picks it, not both. A refused sheet picks nothing, nor does a MUF refused 9, or 10 for its deciles, nor any nominal MUF: any number of these may stand anywhere.
abbrev pub Together : IonoState → Call → Call → Type 0
Together s c d = (k : ℕ) → picked_slot s c ≡ Some k → picked_slot s d ≡ Some k → ⊥

abbrev pub Allowed : IonoState → List Call → Type 0
Allowed s [] = Unit {0}
Allowed s (c ∷ cs) = Every (Together s c) cs × Allowed s cs

-- ---- a slot's own call, and the last one that prepares a slot

abbrev pub picks : Option ℕ → ℕ → Bool
picks None k = false
picks (Some j) k = eqb j k

abbrev pub or_else : Bool → Call → Option Call → Option Call
or_else true c rest = Some c
or_else false c rest = rest

-- the answered sheet of slot k, or the MUF where it picks k, or none
unfoldable pub own : IonoState → List Call → ℕ → Option Call
own s [] k = None
own s (c ∷ cs) k = or_else (picks (picked_slot s c) k) c (own s cs k)

abbrev pub later_or : Option Call → Option Call → Option Call
later_or None c = c
later_or (Some d) c = Some d

unfoldable pub last_preparing : IonoState → List Call → Option Call
last_preparing s [] = None
last_preparing s (c ∷ cs) = later_or (last_preparing s cs) (then_some (prepares s c) c)

-- what a call alone leaves of s; s where there is none
abbrev pub alone : IonoState → Option Call → IonoState
alone s None = s
alone s (Some c) = after_of s c

-- heights, densities, rising mark and owner
abbrev pub SameProfile : IonoState → IonoState → Type 0
SameProfile u v = (u.htr ≡ v.htr) × (u.fnsq ≡ v.fnsq) × (u.htr_rises ≡ v.htr_rises) × (u.owner ≡ v.owner)

-- whose profile a call leaves that prepares a slot: that slot's, or a supplied one; s's where there is no such call
abbrev pub owner_picked : Bool → Option ℕ → Owner
owner_picked supplied None = owner_by supplied Owner.None
owner_picked supplied (Some k) = owner_by supplied (Owner.Slot k)

abbrev pub last_owner : IonoState → Option Call → Owner
last_owner s None = owner_of s
last_owner s (Some c) = owner_picked s.ielect (picked_slot s c)

-- the forty reads of any frequency, where the heights rise
abbrev pub ReadsWell : IonoState → Type 0
ReadsWell u = (f : Float) → T (rises_of u.htr) → FortyReads u f

-- The definitions' numbers are of any precision, those of a state that a program holds are f32 (`held`). It is asked of the first state only where a walk depends on it: semi-thicknesses, layers' heights and the profile's heights. `ionset` and every call keep it.
pub record HeldNumbers (s : IonoState) : Type 0 where
  pub yi-held : EachF32 s.yi
  pub hi-held : EachF32 s.hi
  pub htr-held : EachF32 s.htr

-- ---- the claim

-- what is said of the state u that the list leaves
pub record StateLeft (s : IonoState) (calls : List Call) (u : IonoState) : Type 0 where
  -- (ii) each slot, its nine layer numbers and `fsecv[k]`, is what its own call alone leaves, or as it was; also at or above kfx
  pub slots-left : (k : ℕ) → k < 3 → slot_at u k ≡ slot_at (alone s (own s calls k)) k
  -- (iii) the profile, its rising mark and its owner are those that the last answered MUF or sheet alone leaves, or s's; the owner that counts is that call's slot, or s's own
  pub profile-left : SameProfile u (alone s (last_preparing s calls))
  pub owner-left : owner_of u ≡ last_owner s (last_preparing s calls)
  pub supplied-left : s.ielect ≡ true → u ≡ s
  -- (iv) all else is s's: rows 3 and 4 of the tables, the critical frequencies, the counts, the switches
  pub fi-left : u.fi ≡ s.fi
  pub yi-left : (length u.yi ≡ length s.yi) × ((i : ℕ) → 9 ≤ i → at u.yi i ≡ at s.yi i)
  pub hi-left : (length u.hi ≡ length s.hi) × ((i : ℕ) → 9 ≤ i → at u.hi i ≡ at s.hi i)
  pub fsecv-left : length u.fsecv ≡ length s.fsecv
  pub km-left : u.km ≡ s.km
  pub kfx-left : u.kfx ≡ s.kfx
  pub iedp-left : u.iedp ≡ s.iedp
  pub ielect-left : u.ielect ≡ s.ielect
  pub exact-left : u.exact_virtual_height ≡ s.exact_virtual_height

pub record ListOfCalls (s : IonoState) (calls : List Call) : Type 0 where
  -- (i) every answer, refusals included, its Es rows, its marks and its cells are those of the call alone
  pub answers-alone : answers_of s calls ≡ map (answer_of s) calls
  -- (ii) to (iv)
  pub state-left : StateLeft s calls (run_of s calls)
  -- (v) read by walks, as the code does where it reads, every answer (rows with their segments, marks, cells, hours, Es rows) and the state left are these; and they are the same with forty full scans in place of each walk
  pub answers-walked : HeldNumbers s → answers_walk_of s calls ≡ answers_of s calls
  pub state-walked : HeldNumbers s → run_walk_of s calls ≡ run_of s calls
  pub answers-scanned : answers_scan_of s calls ≡ answers_of s calls
  pub state-scanned : run_scan_of s calls ≡ run_of s calls
  -- (vi) on each profile that is read the forty reads, kind, number and segment, where the exact rule does not stand for them, are the scans', in rising order, with the cursor as counted and moved 49 places at most
  pub reads-well : HeldNumbers s → Every ReadsWell (states_read s calls)

-- `ionset` answers any state with 1 to 5 points; so it is for what it answers, and its numbers are f32 where those of that state are
abbrev pub ListsOfCalls : Type 0
ListsOfCalls =
    (first : IonoState) → T (count_taken first.km)
    → IsOkAnd (ionset_of first) (λ s. ((calls : List Call) → Allowed s calls → ListOfCalls s calls) × (HeldNumbers first → HeldNumbers s))

-- what `only-state` says: (ii) to (iv) leave nothing of the state unsaid. One state alone is so, of those whose `fsecv` has three numbers, as every state of the code has.
abbrev pub OnlyState : Type 0
OnlyState = (s : IonoState) (calls : List Call) → length s.fsecv ≡ 3 → (u v : IonoState) → StateLeft s calls u → StateLeft s calls v → u ≡ v

-- what `read_all` says: these are all the profiles that are read. Whoever finds heights on them as the contracts say, in whatever way, has all answers and the state left.
abbrev pub FindsAs : Finder → IonoState → Type 0
FindsAs find u = (f : Float) → ((find u f).hp ≡ (gethp_of u f).hp) × ((find u f).ht ≡ (gethp_of u f).ht) × ((find u f).segment ≡ (gethp_of u f).segment)

abbrev pub ReadAll : Type 0
ReadAll = (find : Finder) (s : IonoState) (calls : List Call) → Every (FindsAs find) (states_read s calls) → (answers_with find s calls ≡ answers_of s calls) × (run_with find s calls ≡ run_of s calls)

-- what `held` promises of every state that code holds, whoever made it: its numbers are f32, so what is said of walks holds of every list of calls on it, with nothing assumed
pub record HeldState (s : IonoState) : Type 0 where
  pub numbers : HeldNumbers s
  pub answers-walked : (calls : List Call) → answers_walk_of s calls ≡ answers_of s calls
  pub state-walked : (calls : List Call) → run_walk_of s calls ≡ run_of s calls
  pub reads-well : (calls : List Call) → Every ReadsWell (states_read s calls)
