-- A list's words as floats, one at a time, and a call whose lists but for the deciles are words.
use Rattle.port_muf.specs.HourWords.{WordThere}
use Rattle.std.specs.Prelude.{Option, Some, None, Result}
use mathlib.Core.Path.{◌≡◌}
use mathlib.Core.List.{List}
use Prim.Native.Nat.{ℕ, ◌*◌, ◌≤◌}
use native.Mathlib.Omega.{arith}
use lib.ListN.{length, length-map}
use lib.Ieee.{Float, binary32, of_bits}
use Rattle.refusal.specs.declared.Refusal.{Refusal}
use Rattle.layers.specs.declared.IonoState.{IonoState}
use Rattle.layer_mufs.specs.declared.PathNumbers.{PathNumbers}
use Rattle.muf.specs.Domain.{row_count_of}
use Rattle.muf.specs.Curmuf.{flat_muf_of, RowBelow, rewrite_by}
use Rattle.muf.specs.declared.AnswerAndRow.{AnswerAndRow}
use Rattle.muf.specs.declared.sporadic.Rewrite.{Rewrite}
use Rattle.muf.proofs.Rows.{flat-below, rows-there}
use Rattle.port_muf.specs.Floats.{floats}

-- of n rows, four words each
word-there : (n m : ℕ) (w : Option Rewrite) → 4 * n ≤ m → RowBelow n w → WordThere w m
word-there n m (Some w) h b = omega arith
word-there n m None h b = tt

module _ (s : IonoState) (es : List ℕ) (deciles : List Float) (clat clck : List ℕ) (c : PathNumbers) where
  -- the row that is rewritten is there
  pub row-there : (d : Result AnswerAndRow Refusal) → d ≡ flat_muf_of s (floats es) deciles (floats clat) (floats clck) c → WordThere (rewrite_by d) (length es)
  row-there d e =
      let h : 4 * row_count_of (length (floats es)) s.km ≤ length es = let r = rows-there (length (floats es)) s.km in omega (arith, length-map es (of_bits binary32)) in
      rw e (word-there _ _ _ h (flat-below s (floats es) deciles (floats clat) (floats clck) c))
