-- The file's refusals, then that of `sang`, then the MUF's.
use Rattle.std.specs.Prelude.{◌≡◌, ℕ, ◌*◌, ◌-◌, ◌≤◌, ◌<◌, Bool, true, false, ◌&&◌, ltb, eqb, List, map, get_or, length, take, Float, Result, Ok, Err, IfErr, MatchResult}
use Rattle.std.specs.Float.{binary32}
use Rattle.std.specs.Float.Ieee.{of_bits}
use mathlib.Core.Path.{refl, subst}
use Rattle.std.proofs.lemmas.Bool.{and_parts}
use Rattle.refusal.specs.declared.Refusal.{Refusal}
use Rattle.records.specs.Record.{form64}
use Rattle.records.specs.declared.record_chain.Chain.{Chain}
use Rattle.records.specs.Chain.{member, chain_of}
use Rattle.circuit.specs.Read.{read_by, circuit_of, read_of}
use Rattle.layers.specs.declared.IonoState.{IonoState}
use Rattle.layer_mufs.specs.Controlling.{controlling_of}
use Rattle.muf.specs.declared.MufAnswer.{MufAnswer}
use Rattle.muf.specs.Curmuf.{lists_reach}
use Rattle.reflectrix.specs.Angles.{NANGX, distance_step_of, angle_count_of, scan_by, sang_of}
use Rattle.circuit_sheet.specs.declared.Sheet.{Sheet}
use Rattle.circuit_sheet.specs.Numbers.{es_of, column_of, path_of}
use Rattle.circuit_sheet.specs.CircuitSheet.{Circuit, slots_of, muf_of, answered_of, muf_then, scanned_of, scan_then, circuit_sheet_of, read_then, sheet_of}
use Rattle.circuit_sheet.proofs.Ranges.{slots-most, lists-reach}
use Rattle.sheet_refusals.specs.Refusals.{Among, chain_numbers, sheet_numbers, ChainRefusals, SheetRefusals, SheetPrinted}
use Rattle.sheet_refusals.proofs.Chain.{chain-in}
use Rattle.sheet_refusals.proofs.Muf.{Mode3, HourGood, muf-in}

pub chain-refusals : ChainRefusals
unfolding member
chain-refusals o f r e = let P = Among chain_numbers in subst (λ (c : Result Chain Refusal). IfErr c P) e (chain-in P refl refl refl refl o f)

abbrev OfSheet : Refusal → Type 0
OfSheet = Among sheet_numbers

-- what is said of a sheet: an answered one's numbers, or its refusal
abbrev Shown : Sheet → Type 0
Shown s = Mode3 s.hour.modmuf × (s.hour.ks < 3) × (s.slots ≤ 3)

abbrev Good : Result Sheet Refusal → Type 0
Good s = MatchResult s Shown OfSheet

muf-then : (m : Result MufAnswer Refusal) (s : IonoState) (nang : ℕ) → MatchResult m (λ a. HourGood a.hour) OfSheet → s.kfx ≤ 3 → Good (muf_then m s nang)
unfolding answered_of
muf-then (Ok a) s nang h k = (h.0, h.1, k)
muf-then (Err r) s nang h k = h

pub deciles-right : (ks d a b : ℕ) → lists_reach ks d a b ≡ true → eqb d 576 ≡ true
unfolding lists_reach
deciles-right ks d a b e = (and_parts (eqb d 576) (ltb ks a) (and_parts (eqb d 576 && ltb ks a) (ltb ks b) e).0).0

scanned-good : (c : Circuit) (nang : ℕ) → lists_reach (controlling_of (slots_of c)) (length (map (of_bits binary32) c.deciles)) (length (take c.km (column_of c.points 13))) (length (take c.km (column_of c.points 14))) ≡ true → Good (scanned_of c nang)
unfolding scanned_of muf_of member
scanned-good c nang reach =
    let s = slots_of c in
    let d = deciles-right (controlling_of s) (length (map (of_bits binary32) c.deciles)) (length (take c.km (column_of c.points 13))) (length (take c.km (column_of c.points 14))) reach in
    muf-then (muf_of c s) s nang (muf-in OfSheet refl refl refl s (take (4 * c.km) (es_of c.points)) (map (of_bits binary32) c.deciles) (take c.km (column_of c.points 13)) (take c.km (column_of c.points 14)) (path_of c) d reach) (slots-most c)

scan-then : (b : Bool) (amind : Float) (id : ℕ) (c : Circuit) → ((nang : ℕ) → Good (scanned_of c nang)) → Good (scan_then (scan_by b amind id) c)
unfolding member
scan-then true amind id c h = refl
scan-then false amind id c h = h (angle_count_of amind (get_or NANGX (id - 1) 0))

circuit-good : (c : Circuit) → ((nang : ℕ) → Good (scanned_of c nang)) → Good (circuit_sheet_of c)
unfolding circuit_sheet_of sang_of
circuit-good c h = let id = distance_step_of (of_bits binary32 c.gcdkm) in scan-then (eqb id 0) (of_bits binary32 c.amind) id c h

read-then : (a : Result Circuit Refusal) → IfErr a OfSheet → ((c : Circuit) → a ≡ Ok c → Good (circuit_sheet_of c)) → Good (read_then a)
read-then (Ok c) p h = h c refl
read-then (Err r) p h = p

-- the circuit is refused as its chain
pub read-refused : (P : Refusal → Type 0) (k : Result Chain Refusal) (f : Chain → Circuit) → IfErr k P → IfErr (read_by k f) P
read-refused P (Ok c) f p = tt
read-refused P (Err r) f p = p

read-in : (f : List ℕ) → IfErr (read_of form64 f) OfSheet
unfolding read_of member
read-in f = read-refused OfSheet (chain_of form64 f) (circuit_of form64 f) (chain-in OfSheet refl refl refl refl form64 f)

sheet-good : (f : List ℕ) → Good (sheet_of f)
unfolding sheet_of
sheet-good f = read-then (read_of form64 f) (read-in f) (λ c e. circuit-good c (λ nang. scanned-good c nang (lists-reach f c e)))

pub sheet-refusals : SheetRefusals
sheet-refusals f r e = subst Good e (sheet-good f)

pub sheet-printed : SheetPrinted
sheet-printed f s e = let g = subst Good e (sheet-good f) in record { mode = g.0; controlling = g.1; slots = g.2 }
