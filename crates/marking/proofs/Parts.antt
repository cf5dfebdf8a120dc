-- The parts of an input, whole or cut.
use Prim.Native.Nat.{ℕ, zero, suc, ◌+◌, ◌-◌, ◌≤◌}
use mathlib.Core.Path.{◌≡◌, ap, ◌∙◌}
use mathlib.Core.List.{List, [], ◌∷◌}
use native.Mathlib.Omega.{arith}
use lib.ListN.{length, take, drop}
use lib.Seq.{take-take, take-nil}
use Rattle.std.proofs.lemmas.List.{take_rest}
use Rattle.marking.specs.Marked.{sheet_marked}

-- the file and the rest of an input
pub parts : (n : ℕ) (input : List ℕ)
    → sheet_marked (take (4 + n - 4) (drop 4 input)) (take (length input - (4 + n)) (drop (4 + n) input))
    ≡ sheet_marked (take n (drop 4 input)) (drop (4 + n) input)
parts n input =
    let e : 4 + n - 4 ≡ n = omega arith in
    ap (λ (k : ℕ). sheet_marked (take k (drop 4 input)) (take (length input - (4 + n)) (drop (4 + n) input))) e
    ∙ ap (sheet_marked (take n (drop 4 input))) (take_rest input (4 + n))

-- a part of a list's beginning
pub part_of : (a k m : ℕ) (l : List ℕ) → a + k ≤ m → take k (drop a (take m l)) ≡ take k (drop a l)
part_of zero k m l h = take-take k m l (omega arith)
part_of (suc a) k m [] h = rw (take-nil m)
part_of (suc a) k zero (x ∷ l) h = absurd (omega arith)
part_of (suc a) k (suc m) (x ∷ l) h = part_of a k m l (omega arith)
