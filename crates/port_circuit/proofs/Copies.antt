-- Words copied into a part of a list.
use mathlib.Core.Path.{◌≡◌, refl}
use mathlib.Core.List.{List, ◌++◌, append_assoc}
use Prim.Native.Nat.{ℕ, ◌+◌, ◌-◌}
use native.Mathlib.Nat.{add-sub_cancel_left}
use lib.ListN.{length, take, drop}
use lib.Seq.{drop-drop}
use Rattle.port_circuit.specs.Words.{words_into}

pub written-part : (w : List ℕ) (from : ℕ) (x : List ℕ)
    → take from w ++ (x ++ drop (from + length x - from) (drop from w)) ≡ words_into w from x
unfolding words_into
written-part w from x = rw (add-sub_cancel_left from (length x), drop-drop (length x) from w, append_assoc) refl
