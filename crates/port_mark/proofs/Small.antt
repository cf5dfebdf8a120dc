-- A sheet that is compared has at most 49,152 bytes, and a line has a byte.
use Prim.Native.Nat.{ℕ}
use mathlib.Core.Path.{◌≡◌, refl}
use mathlib.Core.List.{List}
use native.Mathlib.Omega.{arith}
use Rattle.std.specs.Prelude.{Option, None, Some, Result, Ok, Err}
use Rattle.refusal.specs.declared.Refusal.{Refusal}
use Rattle.marking.specs.Marked.{marked_of}
use Rattle.marking.proofs.Laws.{marking-laws}
use Rattle.port_mark.specs.Words.{SmallLine}

pub small : (input : List ℕ) → SmallLine (marked_of input)
small input = by (marked_of input) refl
  where
    by : (m : Result (Option ℕ) Refusal) → marked_of input ≡ m → SmallLine m
    by (Ok None) e = tt
    by (Ok (Some n)) e = omega (arith, marking-laws.most input n e)
    by (Err r) e = tt
