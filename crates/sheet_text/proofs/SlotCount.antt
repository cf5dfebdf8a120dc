-- A sheet has as many slots as `ionset` made of the points, at most three.
use mathlib.Core.List.{List}
use Prim.Native.Nat.{ℕ}
use lib.Ieee.{binary32, of_bits}
use Rattle.std.specs.Prelude.{Result, Ok, Err}
use Rattle.refusal.specs.declared.Refusal.{Refusal}
use Rattle.records.specs.Record.{form64}
use Rattle.circuit.specs.Read.{read_of}
use Rattle.muf.specs.declared.MufAnswer.{MufAnswer}
use Rattle.reflectrix.specs.Angles.{sang_of}
use Rattle.circuit_sheet.specs.CircuitSheet.{Circuit, slots_of, muf_of, answered_of, muf_then, scanned_of, scan_then, circuit_sheet_of, read_then, sheet_of}
use Rattle.circuit_sheet.proofs.Ranges.{slots-most}
use Rattle.sheet_text.specs.SheetText.{SlotsFew}

muf-few : (x : Result MufAnswer Refusal) (c : Circuit) (nang : ℕ) → SlotsFew (muf_then x (slots_of c) nang)
unfolding answered_of
muf-few (Ok m) c nang = slots-most c
muf-few (Err r) c nang = tt

scan-few : (x : Result ℕ Refusal) (c : Circuit) → SlotsFew (scan_then x c)
unfolding scanned_of
scan-few (Ok nang) c = muf-few (muf_of c (slots_of c)) c nang
scan-few (Err r) c = tt

read-few : (x : Result Circuit Refusal) → SlotsFew (read_then x)
unfolding circuit_sheet_of
read-few (Ok c) = scan-few (sang_of (of_bits binary32 c.gcdkm) (of_bits binary32 c.amind)) c
read-few (Err r) = tt

pub three-slots : (f : List ℕ) → SlotsFew (sheet_of f)
unfolding sheet_of
three-slots f = read-few (read_of form64 f)
