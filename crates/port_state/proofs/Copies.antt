-- A turn of the loops that read floats from words and write them there, and their ends.
use mathlib.Core.Path.{◌≡◌, ap, sym, ◌∙◌}
use mathlib.Core.List.{List, map}
use Prim.Native.Nat.{ℕ, suc, ◌+◌, ◌<◌, ◌≤◌}
use native.Mathlib.Omega.{arith}
use lib.ListN.{length, get_or, take, drop, set, length-map, length-drop, get_or-map}
use lib.Seq.{length-take-le, get_or-take, get_or-drop, take_all, paste, paste-suc}
use lib.Ieee.{Float, nan, binary32, of_bits, to_bits}
use Rattle.cases.proofs.Tabulate.{mapped, mapped-more, mapped-all}
use Rattle.port_state.specs.Words.{floats_of, floats_into}

module _ (w : List ℕ) (from : ℕ) (x : List Float) (room : from + length x ≤ length w) where
  part_length : length (take (length x) (drop from w)) ≡ length x
  part_length = length-take-le (length x) (drop from w) (rw length-drop (omega arith))

  -- the first i floats read
  abbrev pub read_so_far : ℕ → List Float
  read_so_far i = mapped (of_bits binary32) 0 (take (length x) (drop from w)) x i

  pub read_more : (i : ℕ) → i < length x → set (read_so_far i) i (of_bits binary32 (get_or w (from + i) 0)) ≡ read_so_far (suc i)
  read_more i h =
      let e : get_or (take (length x) (drop from w)) i 0 ≡ get_or w (from + i) 0 = get_or-take (length x) (drop from w) i 0 h ∙ get_or-drop from w i 0 in
      let l : i < length (take (length x) (drop from w)) = rw part_length h in
      rw (← e) (mapped-more (of_bits binary32) 0 (take (length x) (drop from w)) x i l)

  pub read_all : read_so_far (length x) ≡ floats_of w from (length x)
  unfolding floats_of
  read_all =
      ap read_so_far (sym part_length) ∙ mapped-all (of_bits binary32) 0 (take (length x) (drop from w)) x (sym part_length)

  -- the first i floats written
  abbrev pub written_so_far : ℕ → List ℕ
  written_so_far i = paste w from (map (to_bits binary32) x) i

  pub write-more : (i : ℕ) → i < length x → set (written_so_far i) (from + i) (to_bits binary32 (get_or x i nan)) ≡ written_so_far (suc i)
  write-more i h =
      let l : i < length (map (to_bits binary32) x) = rw length-map h in
      rw (← get_or-map (to_bits binary32) x i nan) (paste-suc w from (map (to_bits binary32) x) i (to_bits binary32 nan) (omega arith) l)

  pub write-all : written_so_far (length x) ≡ floats_into w from x
  unfolding floats_into
  write-all =
      rw (take_all (length x) (map (to_bits binary32) x) (rw length-map (omega arith)))
