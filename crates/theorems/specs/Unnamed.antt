-- Statements of the page about slots, marks, readings, heights and lists of calls that have no name in their own crate's specs/.
use Rattle.std.specs.Prelude.{◌≡◌, Bool, true, false, List, ℕ, T, Float}
use Rattle.scalar.specs.F32.{◌<f◌, ◌≥f◌}
use Rattle.scalar.specs.Literals.{f0}
use Rattle.layers.specs.declared.IonoState.{IonoState}
use Rattle.layers.specs.declared.LayerParams.{LayerParams}
use Rattle.layers.specs.State.{with_profile, state_after}
use Rattle.layers.specs.Ionset.{ionset_of}
use Rattle.layers.specs.IonsetKept.{IonsetKept}
use Rattle.layers.specs.ExactOff.{ExactOff}
use Rattle.readings.specs.Scan.{scan_of}
use Rattle.readings.specs.Segments.{FirstHeld}
use Rattle.profile.specs.Lecden.{lecden_of}
use Rattle.profile.specs.LecdenKept.{LecdenKept}
use Rattle.profile.specs.Rising.{rises_of}
use Rattle.heights.specs.Walk.{EachF32}
use Rattle.heights.specs.Gethp.{gethp_of}
use Rattle.heights.specs.Reads.{FortyReads, ExactRule}
use Rattle.profile.specs.declared.shape_densities.Curves.{Curves}
use Rattle.profile.specs.Meaning.{MarkRule, SlotMarks}
use Rattle.call_lists.specs.Calls.{Call}
use Rattle.call_lists.specs.Lists.{Allowed, ListOfCalls}

abbrev pub LecdenKeeps : Type 0
LecdenKeeps = (s : IonoState) (k : ℕ) → LecdenKept s (lecden_of s k) k

abbrev pub LecdenSupplied : Type 0
LecdenSupplied = (s : IonoState) (k : ℕ) → s.ielect ≡ true → lecden_of s k ≡ s

abbrev pub NeverBoth : Type 0
NeverBoth = (x : Float) → (x ≥f f0) ≡ true → (x <f f0) ≡ false

abbrev pub ReadsOfWalk : Type 0
ReadsOfWalk = (s : IonoState) (fxx : Float) → EachF32 s.htr → T (rises_of s.htr) → FortyReads s fxx

abbrev pub MarkUnread : Type 0
MarkUnread = (s : IonoState) (mark : Bool) (fxx : Float) → gethp_of (with_profile s s.htr s.fnsq mark) fxx ≡ gethp_of s fxx

abbrev pub AnyList : Type 0
AnyList = (s : IonoState) (calls : List Call) → Allowed s calls → ListOfCalls s calls

abbrev pub MarkRules : Type 0
MarkRules = (c : Curves) (h : Float) → MarkRule c h

abbrev pub SlotsMarked : Type 0
SlotsMarked = (s : IonoState) (k : ℕ) → SlotMarks s k

abbrev pub ExactRules : Type 0
ExactRules = (s : IonoState) (fxx : Float) → ExactRule s fxx

abbrev pub IonsetKeeps : Type 0
IonsetKeeps = (s : IonoState) → IonsetKept s (state_after s (ionset_of s))

abbrev pub SwitchesOff : Type 0
SwitchesOff = (params : List LayerParams) (count : ℕ) → ExactOff params count

abbrev pub FirstFound : Type 0
FirstFound = (from to : List Float) (probe : Float) → FirstHeld from to probe (scan_of from to probe)
