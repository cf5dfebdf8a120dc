-- A row of four words is that of the words as floats, and so are the rows.
use mathlib.Core.Path.{◌≡◌, refl}
use mathlib.Core.List.{List, [], ◌∷◌}
use Prim.Native.Nat.{ℕ, zero, suc, ◌+◌, ◌*◌, ◌≤◌, ◌<◌}
use native.Mathlib.Omega.{arith}
use lib.Ieee.{nan, binary32, of_bits}
use lib.ListN.{length, get_or, drop}
use Rattle.std.proofs.Math.Seq.{drop-cons}
use Rattle.std.proofs.lemmas.List.{get_or-map}
use Rattle.muf.specs.Sporadic.{no_row, row_at}
use Rattle.port_state.specs.Words.{number, floats_of}
use Rattle.port_state.specs.Ports.{five_rows_of}
use Rattle.port_muf.specs.Floats.{floats}
use Rattle.port_muf.specs.NominalExports.{word_row, word_rows}

module _ (w : List ℕ) where
  after : (j k : ℕ) → k ≡ suc j → j < length w → drop j w ≡ get_or w j 0 ∷ drop k w
  after j k e h = rw e (drop-cons w j 0 h)

  three : (j : ℕ) → j + 3 ≤ length w → floats_of w j 3 ≡ number w j ∷ number w (j + 1) ∷ number w (j + 2) ∷ []
  unfolding floats_of
  three j h = rw (after j (j + 1) (omega arith) (omega arith), after (j + 1) (j + 2) (omega arith) (omega arith), after (j + 2) (j + 3) (omega arith) (omega arith)) refl

  one : (i : ℕ) → i < length w → get_or (floats w) i nan ≡ number w i
  one i h = get_or-map (of_bits binary32) w i 0 nan h

  row : (k : ℕ) → 4 * k + 4 ≤ length w → row_at (floats w) k ≡ word_row w k
  unfolding word_row
  row k h = rw (three (4 * k) (omega arith), one (4 * k) (omega arith), one (4 * k + 1) (omega arith), one (4 * k + 2) (omega arith), one (4 * k + 3) (omega arith)) refl

  pub rows : (n : ℕ) → 4 * n ≤ length w → five_rows_of (row_at (floats w)) no_row n ≡ word_rows w n
  unfolding five_rows_of
  rows zero h = refl
  rows (suc n) h = rw (rows n (omega arith), row n (omega arith))
