-- The cells keep their number, and an angle's cells are written in its part of them.
use mathlib.Core.Path.{◌≡◌, refl, sym, ap, ◌∙◌, subst}
use mathlib.Core.Logic.{inl, inr}
use mathlib.Core.List.{List, ◌++◌}
use Prim.Native.Nat.{ℕ, zero, suc, ◌+◌, ◌-◌, ◌≤◌, ◌<◌}
use native.Mathlib.Nat.{le_of_suc-le-suc, eq-or-lt_of_le}
use native.Mathlib.Omega.{arith}
use lib.IntN.{ℤ, pos}
use lib.Ieee.{Float}
use lib.ListN.{length, set, take, get_or, length-set}
use lib.Seq.{get_or-set_same, get_or-set_other}
use borrow.Rule.Slice.PartMut.{mid_of, post_of, put_mid, put_same}
use Rattle.std.proofs.lemmas.List.{set-append_left, set-append_right, length-take-le, ext_get_or}
use Rattle.scalar.specs.F32.{◌/f◌, at}
use Rattle.reflectrix.specs.Cell.{khz_of, sqcos_of}
use Rattle.reflectrix.specs.Row.{angle_cells_of}

length-row : (fv radii : List Float) (rcosd : Float) (from : ℕ) (cells : List ℤ) (n : ℕ) → length (angle_cells_of fv radii rcosd from cells n) ≡ length cells
unfolding angle_cells_of
length-row fv radii rcosd from cells zero = refl
length-row fv radii rcosd from cells (suc n) = length-set (angle_cells_of fv radii rcosd from cells n) (from + n) (khz_of (at fv n) (sqcos_of (rcosd /f at radii n))) ∙ length-row fv radii rcosd from cells n

-- a write in a part is a write in the whole
set_in : (a k j : ℕ) (xs ys : List ℤ) (v : ℤ) → a ≤ length xs → j < length ys → put_mid a k xs (set ys j v) ≡ set (put_mid a k xs ys) (a + j) v
set_in a k j xs ys v h l =
    let n : a + j - a ≡ j = omega arith in
    let e = set-append_right (take a xs) (ys ++ post_of a k xs) a (a + j) v (length-take-le a xs h) (omega arith) in
    ap (λ (z : List ℤ). take a xs ++ z) (sym (set-append_left ys (post_of a k xs) j v l) ∙ ap (λ (i : ℕ). set (ys ++ post_of a k xs) i v) (sym n)) ∙ sym e

pub row_in : (fv radii : List Float) (rcosd : Float) (a k : ℕ) (cells : List ℤ) (n : ℕ) → a ≤ length cells → n ≤ length (mid_of a k cells)
    → put_mid a k cells (angle_cells_of fv radii rcosd 0 (mid_of a k cells) n) ≡ angle_cells_of fv radii rcosd a cells n
unfolding angle_cells_of
row_in fv radii rcosd a k cells zero h l = put_same a k cells
row_in fv radii rcosd a k cells (suc n) h l =
    let v = khz_of (at fv n) (sqcos_of (rcosd /f at radii n)) in
    let m = length-row fv radii rcosd 0 (mid_of a k cells) n in
    let z : 0 + n ≡ n = omega arith in
    rw z (set_in a k n cells (angle_cells_of fv radii rcosd 0 (mid_of a k cells) n) v h (omega (arith, m))) ∙ ap (λ (x : List ℤ). set x (a + n) v) (row_in fv radii rcosd a k cells n h (omega arith))

-- the cell at a place that is written
at_row : (fv radii : List Float) (rcosd : Float) (cells : List ℤ) (n i : ℕ) → n ≤ length cells → i < n → get_or (angle_cells_of fv radii rcosd 0 cells n) i (pos 0) ≡ khz_of (at fv i) (sqcos_of (rcosd /f at radii i))
unfolding angle_cells_of
at_row fv radii rcosd cells zero i h l = elim l [ ]
at_row fv radii rcosd cells (suc n) i h l =
    let row = angle_cells_of fv radii rcosd 0 cells n in
    let v = λ (k : ℕ). khz_of (at fv k) (sqcos_of (rcosd /f at radii k)) in
    let m : n < length row = omega (arith, length-row fv radii rcosd 0 cells n) in
    let z : 0 + n ≡ n = omega arith in
    rw z (elim (eq-or-lt_of_le (le_of_suc-le-suc l)) [
      | inl e ↦ subst (λ (k : ℕ). get_or (set row n (v n)) k (pos 0) ≡ v k) (sym e) (get_or-set_same row n (v n) (pos 0) m)
      | inr k ↦ get_or-set_other row n i (v n) (pos 0) (λ e. apart i n k e) ∙ at_row fv radii rcosd cells n i (omega arith) k
    ])
  where
    apart : (j k : ℕ) → j < k → j ≡ k → ⊥
    apart j k l e = omega arith

-- thirty cells, each as it is at its place, are a row of thirty, whatever was there
pub row_made : (fv radii : List Float) (rcosd : Float) (cells made : List ℤ) → length cells ≡ 30 → length made ≡ 30 → ((i : ℕ) → i < 30 → get_or made i (pos 0) ≡ khz_of (at fv i) (sqcos_of (rcosd /f at radii i)))
    → made ≡ angle_cells_of fv radii rcosd 0 cells 30
row_made fv radii rcosd cells made l m each =
    ext_get_or (pos 0) made (angle_cells_of fv radii rcosd 0 cells 30) (m ∙ sym l ∙ sym (length-row fv radii rcosd 0 cells 30)) (λ i k. let h : i < 30 = rw (sym m) k in each i h ∙ sym (at_row fv radii rcosd cells 30 i (omega (arith, l)) h))
