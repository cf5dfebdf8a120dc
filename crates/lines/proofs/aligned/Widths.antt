-- A field has its width: as many spaces as the text leaves, or that many stars.
use Prim.Native.Nat.{ℕ, zero, suc, ◌-◌}
use mathlib.Core.Path.{◌≡◌, refl}
use mathlib.Core.Bool.{Bool, true, false, cond}
use mathlib.Core.List.{List, [], ◌∷◌, ◌++◌}
use native.Mathlib.Omega.{arith}
use borrow.Author.Tests.{leb-true}
use lib.Dec.{leb}
use lib.ListN.{length, length-append}
use Rattle.lines.specs.Text.{space, joined}
use Rattle.lines.proofs.Sizes.{AtMost}
use Rattle.lines.specs.Aligned.{star, repeated, right, RightWidth}

repeated-length : (b n : ℕ) → length (repeated b n) ≡ n
unfolding repeated joined
repeated-length b zero = refl
repeated-length b (suc n) = let e = length-append (repeated b n) (b ∷ []) in let h = repeated-length b n in omega arith

pub right-width : RightWidth
unfolding right
right-width width text = by (leb (length text) width) refl
  where
    by : (t : Bool) → leb (length text) width ≡ t → length (cond t (repeated space (width - length text) ++ text) (repeated star width)) ≡ width
    by true e =
        let l = leb-true (length text) width e in
        let a = length-append (repeated space (width - length text)) text in
        let s = repeated-length space (width - length text) in
        omega arith
    by false e = repeated-length star width

pub right-most : (width : ℕ) (text : List ℕ) → AtMost (right width text) width
right-most width text = record { most = omega (arith, right-width width text) }
