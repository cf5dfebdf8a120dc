-- Words put into a part of a list.
use mathlib.Core.Path.{◌≡◌}
use mathlib.Core.List.{List, ◌++◌, append_assoc}
use Prim.Native.Nat.{ℕ, ◌+◌, ◌-◌, ◌≤◌}
use native.Mathlib.Nat.{add-sub_cancel_left}
use native.Mathlib.Omega.{arith}
use lib.ListN.{length, take, drop}
use lib.Seq.{drop-drop}
use Rattle.std.proofs.lemmas.List.Edits.{sets, sets-eq}

pub part_put : (l vs : List ℕ) (i n : ℕ) → length vs ≡ n → i + n ≤ length l → take i l ++ (vs ++ drop (i + n - i) (drop i l)) ≡ sets l i vs
part_put l vs i n e h = rw (add-sub_cancel_left i n, drop-drop n i l, sets-eq vs l i (omega arith), e, append_assoc)
