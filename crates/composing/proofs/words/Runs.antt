-- A run of bytes is what an iterator takes while they are of that kind.
use mathlib.Core.Path.{◌≡◌, refl}
use mathlib.Core.Bool.{Bool, true, false, cond}
use mathlib.Core.List.{List, [], ◌∷◌}
use Prim.Native.Nat.{ℕ, suc, ◌+◌, ◌≤◌}
use native.Mathlib.Omega.{arith}
use lib.ListN.{length, take}
use lib.Seq.{length-take-le}
use Rattle.std.specs.List.{prefix_len}
use Rattle.composing.specs.Words.{run}

run_prefix : (p : ℕ → Bool) (l : List ℕ) → run p l ≡ prefix_len p l
unfolding run
run_prefix p [] = refl
run_prefix p (b ∷ t) = by (p b) (run_prefix p t)
  where
    by : (q : Bool) → run p t ≡ prefix_len p t → cond q (suc (run p t)) 0 ≡ cond q (1 + prefix_len p t) 0
    by true h = omega arith
    by false h = refl

run-most : (p : ℕ → Bool) (l : List ℕ) → run p l ≤ length l
unfolding run
run-most p [] = omega arith
run-most p (b ∷ t) = by (p b) (run-most p t)
  where
    by : (q : Bool) → run p t ≤ length t → cond q (suc (run p t)) 0 ≤ suc (length t)
    by true h = omega arith
    by false h = omega arith

pub taken : (p : ℕ → Bool) (l : List ℕ) (n : ℕ) → n ≡ length (take (prefix_len p l) l) → (n ≤ length l) × (n ≡ run p l)
taken p l n e =
    let f = run_prefix p l in
    let m = run-most p l in
    let k = length-take-le (prefix_len p l) l in
    (omega (arith, e, f, m, k (omega arith)), omega (arith, e, f, m, k (omega arith)))
