-- `lecden`: the density profile of slot k. It writes the slot's F1 height and semi-thickness, `fsecv[k]`, the profile, the rising mark and the owner, which is slot k; nothing where the profile is supplied. The paper's refusal: 6 for a slot above 2.
use Rattle.std.specs.Prelude.{Bool, true, false, map, ℕ, ◌+◌, ◌*◌, ltb, set, Option, None, Some, Result, Ok, Err}
use Rattle.scalar.specs.F32.{at}
use Rattle.refusal.specs.declared.Refusal.{Refusal}
use Rattle.layers.specs.State.{with_tables, with_fsecv, with_profile, with_owner}
use Rattle.layers.specs.declared.IonoState.{IonoState}
use Rattle.layers.specs.declared.Owner.{Owner}
use Rattle.profile.specs.Rising.{rises_of}
use Rattle.profile.specs.F1.{valley_of, f1_of, reshaped_of}
use Rattle.profile.specs.Grid.{heights_of}
use Rattle.profile.specs.Density.{density_of}
use Rattle.profile.specs.Draw.{tail_of, curves_of, drawn_of}
use Rattle.profile.specs.declared.slot_curves.Slot.{Slot}
use Rattle.profile.specs.declared.slot_curves.Drawn.{Drawn}

unfoldable pub slot_at : IonoState → ℕ → Slot
slot_at s k =
    record { fi0 = at s.fi (3 * k); fi1 = at s.fi (3 * k + 1); fi2 = at s.fi (3 * k + 2); yi0 = at s.yi (3 * k); yi1 = at s.yi (3 * k + 1); yi2 = at s.yi (3 * k + 2); hi0 = at s.hi (3 * k); hi1 = at s.hi (3 * k + 1); hi2 = at s.hi (3 * k + 2); fsec = at s.fsecv k }

-- what the reshaping writes: the F1 height and semi-thickness of slot k, and `fsecv[k]`
unfoldable pub slot_written : IonoState → ℕ → Slot → IonoState
slot_written s k p = with_fsecv (with_tables s s.fi (set s.yi (3 * k + 1) p.yi1) (set s.hi (3 * k + 1) p.hi1)) (set s.fsecv k p.fsec)

-- whether the profile came from outside
unfoldable pub supplied_of : IonoState → Bool
supplied_of s = s.ielect

-- the shapes of slot k as it stands; none where the profile is supplied
abbrev pub drawn_by : Bool → Slot → Option Drawn
drawn_by true p = None
drawn_by false p = Some (drawn_of p)

unfoldable pub slot_drawn : IonoState → ℕ → Option Drawn
slot_drawn s k = drawn_by (supplied_of s) (slot_at s k)

-- the profile of a slot whose numbers are p, and what of it is written at slot k
abbrev pub profiled_of : IonoState → ℕ → Slot → IonoState
profiled_of s k p =
    let v = valley_of p in
    let f = f1_of p v in
    let q = reshaped_of p f in
    let t = tail_of q in
    let htr = heights_of q t.hex in
    let fnsq = map (density_of (curves_of q v f t)) htr in
    with_owner (with_profile (slot_written s k q) htr fnsq (rises_of htr)) (Owner.Slot k)

abbrev pub lecden_by : Bool → IonoState → ℕ → IonoState
lecden_by true s k = s
lecden_by false s k = profiled_of s k (slot_at s k)

unfoldable pub lecden_of : IonoState → ℕ → IonoState
lecden_of s k = lecden_by (supplied_of s) s k

abbrev pub lecden_answer_by : Bool → IonoState → ℕ → Result IonoState Refusal
lecden_answer_by true s k = Ok (lecden_of s k)
lecden_answer_by false s k = Err Refusal.SlotNumber

-- 6 for a slot above 2
unfoldable pub lecden_answer : IonoState → ℕ → Result IonoState Refusal
lecden_answer s k = lecden_answer_by (ltb k 3) s k
