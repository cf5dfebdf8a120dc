-- A file that is not turned away has 1 to 5 points, they make at most three slots, and at most 40 angles are scanned. So neither `from_layers` nor `ionset` nor a slot sheet is refused, and the MUF's lists reach: 5, 6, 8 and 10 are no answer of `sheet`.
use mathlib.Core.Bool.{Bool, true, false, false≢true, cond}
use mathlib.Core.Path.{◌≡◌, refl, ap, ◌∙◌}
use mathlib.Core.List.{List, map}
use Prim.Native.Nat.{ℕ, zero, suc, ◌+◌, ◌-◌, ◌*◌, ◌≤◌, ◌<◌}
use native.Mathlib.Omega.{arith}
use borrow.Author.Tests.{le-leb, leb-false, lt-ltb, eq-eqb, eqb-false}
use lib.Dec.{leb, eqb}
use lib.IntN.{pos}
use lib.ListN.{get_or, length, length-map, replicate, take}
use lib.Ieee.{Float, binary32, of_bits}
use Rattle.scalar.specs.F32.{◌-f◌, ◌≤f◌, ◌>f◌, at}
use Rattle.scalar.specs.Literals.{f0}
use Rattle.std.proofs.Common.{Result, Ok, Err}
use Rattle.std.specs.Result.{result_unwrap_or}
use Rattle.refusal.specs.declared.Refusal.{Refusal}
use Rattle.records.specs.declared.record_chain.Chain.{Chain}
use Rattle.records.specs.Record.{form64}
use Rattle.records.specs.Chain.{chain_of}
use Rattle.circuit.specs.Read.{read_of, circuit_of}
use Rattle.records.proofs.Lists.{fit64}
use Rattle.records.proofs.record_chain.Followed.{followed, count-range}
use Rattle.circuit.proofs.Answers.{read-answered, read-refused, small_read}
use Rattle.circuit.proofs.Lists.{length-read}
use Rattle.layers.specs.Owners.{disowned}
use Rattle.layers.specs.Rules.{count_taken, too_close}
use Rattle.layers.specs.FromLayers.{point_set, points_set, empty_of, from_layers_by, from_layers_of}
use Rattle.layers.specs.Ionset.{layer_from, two_slots, three_slots, assigned_by, assigned_of, f1_kept_by, f1_by, f1_settled, f2_settled, slot_settled, slots_settled, ionset_by, ionset_of}
use Rattle.layers.specs.declared.IonoState.{IonoState}
use Rattle.layers.specs.declared.LayerParams.{LayerParams}
use Rattle.layers.specs.declared.LayerMuf.{LayerMuf}
use Rattle.layers.specs.State.{zero_state}
use Rattle.layers.proofs.slots.Counts.{three-at-most}
use Rattle.layers.proofs.slots.OwnersLeft.{disowned-only}
use Rattle.layer_mufs.specs.Controlling.{compare_e, controlling_of}
use Rattle.layer_mufs.proofs.controlling_slot.Small.{controlling-small}
use Rattle.reflectrix.specs.Angles.{NANGX, distance_step_of, scan_by, sang_of}
use Rattle.reflectrix.specs.Fobby.{room_for}
use Rattle.reflectrix.proofs.scan_angles.Forty.{count-most}
use Rattle.reflectrix.proofs.scan_angles.Counts.{step_range, nangx-range}
use Rattle.slot_sheet.specs.declared.SlotSheet.{SlotSheet}
use Rattle.slot_sheet.specs.Sheet.{slot_sheet_with, slot_sheet_of}
use Rattle.muf.specs.Curmuf.{lists_reach}
use Rattle.circuit_sheet.specs.Numbers.{params_of, column_of, shaped_of}
use Rattle.circuit_sheet.proofs.circuit_numbers.Sizes.{column-lent}
use Rattle.circuit_sheet.specs.CircuitSheet.{Circuit, slots_of}

-- ---- points

-- what is read is read along a chain
read-by : (f : List ℕ) (a : Result Chain Refusal) (c : Circuit) → chain_of form64 f ≡ a → read_of form64 f ≡ Ok c → (k : Chain) × (chain_of form64 f ≡ Ok k) × (c ≡ circuit_of form64 f k)
read-by f (Ok k) c e q = let r = read-answered form64 f k e in (k, e, cc)
read-by f (Err r) c e q = let p = read-refused form64 f r e in absurd cc

pub points-some : (f : List ℕ) (c : Circuit) → read_of form64 f ≡ Ok c → 1 ≤ c.km
unfolding circuit_of
points-some f c q =
    let w = read-by f (chain_of form64 f) c refl q in
    rw w.2 (followed form64 fit64 f w.0 w.1).head.some

-- ---- slots

kept-kfx : (b : Bool) (s : IonoState) (k : ℕ) → (f1_kept_by b s k).kfx ≡ s.kfx
kept-kfx true s k = refl
kept-kfx false s k = refl

f1-kfx : (b : Bool) (s : IonoState) (k : ℕ) → (f1_by b s k).kfx ≡ s.kfx
f1-kfx true s k = kept-kfx (too_close (at s.fi (3 * k)) (at s.fi (3 * k + 1)) (at s.fi (3 * k + 2))) s k
f1-kfx false s k = refl

settled-kfx : (s : IonoState) (n : ℕ) → (slots_settled s n).kfx ≡ s.kfx
unfolding slots_settled slot_settled f1_settled f2_settled
settled-kfx s zero = refl
settled-kfx s (suc n) = let t = slots_settled s n in f1-kfx (at t.fi (3 * n + 1) >f f0) t n ∙ settled-kfx s n

disowned-kfx : (s : IonoState) → (disowned s).kfx ≡ s.kfx
disowned-kfx s = ap (λ (r : IonoState). r.kfx) (disowned-only s)

set-by : (b : Bool) (s : IonoState) → s.kfx ≤ 3 → (result_unwrap_or (ionset_by b s) s).kfx ≤ 3
set-by true s h = rw (disowned-kfx (slots_settled (assigned_of s) (assigned_of s).kfx), settled-kfx (assigned_of s) (assigned_of s).kfx) (three-at-most s)
set-by false s h = h

points-kfx : (s : IonoState) (params : List LayerParams) (n : ℕ) → (points_set s params n).kfx ≡ s.kfx
unfolding points_set point_set
points-kfx s params zero = refl
points-kfx s params (suc n) = points-kfx s params n

from-by : (b : Bool) (params : List LayerParams) (n : ℕ) → (result_unwrap_or (from_layers_by b params n) zero_state).kfx ≤ 3
unfolding empty_of
from-by true params n = rw (points-kfx (empty_of n) params n) (omega arith)
from-by false params n = omega arith

pub slots-most : (c : Circuit) → (slots_of c).kfx ≤ 3
unfolding slots_of ionset_of shaped_of from_layers_of
slots-most c =
    let s = result_unwrap_or (from_layers_of (params_of c.points) c.km) zero_state in
    set-by (count_taken s.km) (shaped_of s c.shape) (from-by (count_taken c.km) (params_of c.points) c.km)

-- ---- angles

abbrev Few : Result ℕ Refusal → Type 0
Few (Ok nang) = nang ≤ 40
Few (Err r) = Unit {0}

scan-by : (b : Bool) (amind : Float) (id : ℕ) → eqb id 0 ≡ b → id ≤ 8 → Few (scan_by b amind id)
scan-by true amind id e h = tt
scan-by false amind id e h =
    let n : (id ≡ 0) → ⊥ = eqb-false id 0 e in
    let i = get_or NANGX (id - 1) 0 in
    count-most amind i (nangx-range (id - 1) (omega arith)).1

few : (gcdkm amind : Float) → Few (sang_of gcdkm amind)
unfolding sang_of
few gcdkm amind = scan-by (eqb (distance_step_of gcdkm) 0) amind (distance_step_of gcdkm) refl (step_range gcdkm)

pub angles-most : (gcdkm amind : Float) (nang : ℕ) → sang_of gcdkm amind ≡ Ok nang → nang ≤ 40
angles-most gcdkm amind nang e = rw e at (few gcdkm amind)

-- ---- the controlling slot is one of those that the points make, and these are no more than the points

slots-for : Bool → Bool → ℕ
slots-for true q = 1
slots-for false true = 2
slots-for false false = 3

assigned-kfx : (p q : Bool) (s : IonoState) → (assigned_by p q s).kfx ≡ slots-for p q
unfolding two_slots three_slots layer_from slots-for
assigned-kfx true q s = refl
assigned-kfx false true s = refl
assigned-kfx false false s = refl

one_of_two : (b : Bool) → cond b 0 1 < 2
one_of_two true = omega arith
one_of_two false = omega arith

-- with one, two or three slots the controlling one is below 1, 2 or 3
controlling-by : (p q : Bool) (s : IonoState) → s.kfx ≡ slots-for p q → controlling_of s < slots-for p q
unfolding slots-for controlling_of compare_e
controlling-by true q s e = rw e (omega arith)
controlling-by false true s e = rw e (one_of_two (at s.fi 0 -f at s.fi 3 ≤f f0))
controlling-by false false s e = controlling-small s

under-points : (p q : Bool) (km : ℕ) → leb km 1 ≡ p → leb km 3 ≡ q → 1 ≤ km → slots-for p q ≤ km
unfolding slots-for
under-points true q km e f h = h
under-points false true km e f h = let l = leb-false km 1 e in omega arith
under-points false false km e f h = let l = leb-false km 3 f in omega arith

set-by-km : (b : Bool) (t : IonoState) → b ≡ true → (result_unwrap_or (ionset_by b t) t).kfx ≡ slots-for (leb t.km 1) (leb t.km 3)
unfolding assigned_of
set-by-km true t e = disowned-kfx (slots_settled (assigned_of t) (assigned_of t).kfx) ∙ settled-kfx (assigned_of t) (assigned_of t).kfx ∙ assigned-kfx (leb t.km 1) (leb t.km 3) t
set-by-km false t e = absurd (false≢true e)

set-kfx : (t : IonoState) (n : ℕ) → t.km ≡ n → count_taken n ≡ true → (result_unwrap_or (ionset_of t) t).kfx ≡ slots-for (leb n 1) (leb n 3)
unfolding ionset_of
set-kfx t n e k = set-by-km (count_taken t.km) t (ap count_taken e ∙ k) ∙ ap (λ (n : ℕ). slots-for (leb n 1) (leb n 3)) e

deciles-read : (f : List ℕ) (c : Circuit) → read_of form64 f ≡ Ok c → length c.deciles ≡ 576
unfolding circuit_of
deciles-read f c q =
    let w = read-by f (chain_of form64 f) c refl q in
    let n = count-range form64 f w.0 (followed form64 fit64 f w.0 w.1) in
    rw w.2 (length-read form64 f w.0.order _ 0 12 576 _ (omega arith))

-- ---- so nothing is refused but by the file, `sang`, and the MUF's input, hops and deciles

points-km : (s : IonoState) (params : List LayerParams) (n : ℕ) → (points_set s params n).km ≡ s.km
unfolding points_set point_set
points-km s params zero = refl
points-km s params (suc n) = points-km s params n

module _ (f : List ℕ) (c : Circuit) (answered : read_of form64 f ≡ Ok c) where
  abbrev made : IonoState
  made = result_unwrap_or (from_layers_of (params_of c.points) c.km) zero_state

  taken : count_taken c.km ≡ true
  unfolding count_taken
  taken = rw (le-leb _ _ (points-some f c answered), le-leb _ _ (small_read form64 fit64 f c answered).0)

  pub made-answered : from_layers_of (params_of c.points) c.km ≡ Ok (points_set (empty_of c.km) (params_of c.points) c.km)
  unfolding from_layers_of
  made-answered = rw taken

  pub set-answered : (t : IonoState) × (ionset_of (shaped_of made c.shape) ≡ Ok t)
  unfolding ionset_of shaped_of from_layers_of empty_of
  set-answered = rw (taken, points-km (empty_of c.km) (params_of c.points) c.km, taken) (_, refl)

  made-km : (shaped_of made c.shape).km ≡ c.km
  unfolding shaped_of from_layers_of empty_of
  made-km = rw taken (points-km (empty_of c.km) (params_of c.points) c.km)

  slots-are : (slots_of c).kfx ≡ slots-for (leb c.km 1) (leb c.km 3)
  unfolding slots_of
  slots-are = set-kfx _ c.km made-km taken

  controlling-under : controlling_of (slots_of c) < c.km
  controlling-under =
      let p = leb c.km 1 in
      let q = leb c.km 3 in
      omega (arith, controlling-by p q (slots_of c) slots-are, under-points p q c.km refl refl (points-some f c answered))

  pub lists-reach : lists_reach (controlling_of (slots_of c)) (length (map (of_bits binary32) c.deciles)) (length (take c.km (column_of c.points 13))) (length (take c.km (column_of c.points 14))) ≡ true
  unfolding lists_reach
  lists-reach =
      let d = length-map c.deciles (of_bits binary32) ∙ deciles-read f c answered in
      let m = (small_read form64 fit64 f c answered).0 in
      let u = controlling-under in
      rw (eq-eqb _ _ d, ← column-lent c.points 13 _ c.km refl m, ← column-lent c.points 14 _ c.km refl m, lt-ltb _ _ u)

pub sheet-answered : (s : IonoState) (k nang : ℕ) (lines : List LayerMuf) → k ≤ 2 → nang ≤ 40
    → (a : SlotSheet) × (slot_sheet_of s k nang lines (replicate 1200 (pos 0)) ≡ Ok a)
unfolding slot_sheet_with room_for
sheet-answered s k nang lines h n = rw (le-leb k 2 h, le-leb nang 40 n, le-leb (30 * nang) 1200 (omega arith)) (_, refl)
