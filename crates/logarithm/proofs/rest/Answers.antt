-- The table's entry and the correction, which is smaller than the first entry above 0.
use mathlib.Core.Path.{◌≡◌, refl, sym, ap, ap₂, ◌∙◌, subst₂}
use Prim.Native.Nat.{ℕ, ◌+◌, ◌-◌, ◌^◌, ◌<◌, ◌≤◌}
use native.Mathlib.Omega.{arith}
use mir.Syntax.{w64}
use mir.Val.{Fits}
use lib.ListN.{get_or}
use Rattle.std.specs.Int.{abs_diff}
use Rattle.exponential.specs.Tables.{ln2}
use Rattle.logarithm.specs.Tables.{eighths}
use Rattle.logarithm.specs.Ln.{index, centre, twice_of, rest_of}
use Rattle.logarithm.proofs.LnRange.{up-near, down-near, sum-ge, rest_up, rest-down, rest_le, taken}
use Rattle.logarithm.proofs.rest.Goals as goal

module _ (m y n a : ℕ) (low : 2 ^ 23 ≤ m) (high : m < 2 ^ 24) (y-is : y ≡ get_or eighths (index m) 0) (n-is : n ≡ abs_diff m (centre m)) (a-is : a ≡ twice_of n (m + centre m)) where
  near : n ≤ 2 ^ 19
  near = omega (arith, up-near m low high, down-near m low high)

  upward : centre m ≤ m → y + a ≡ rest_of m
  upward h =
      let n-up : n ≡ m - centre m = omega arith in
      ap₂ (λ (x z : ℕ). x + z) y-is (a-is ∙ ap (λ (x : ℕ). twice_of x (m + centre m)) n-up) ∙ sym (rest_up m low high h)

  a-down : m < centre m → a ≡ twice_of (centre m - m) (m + centre m)
  a-down h = a-is ∙ ap (λ (x : ℕ). twice_of x (m + centre m)) (omega arith)

  downward : m < centre m → y - a ≡ rest_of m
  downward h = ap₂ (λ (x z : ℕ). x - z) y-is (a-down h) ∙ sym (rest-down m low high h)

  fits : centre m ≤ m → Fits w64 (y + a)
  fits h = below (y + a) (rest_of m) (upward h) (rest_le m low high)
    where
      below : (x r : ℕ) → x ≡ r → r + 2 ^ 30 ≤ ln2 → Fits w64 x
      below x r e h = omega arith

  less : m < centre m → a ≤ y
  less h = subst₂ (λ (x z : ℕ). x ≤ z) (sym (a-down h)) (sym y-is) (taken m low high h)

pub twice-a-requires : goal.twice-a-requires
twice-a-requires c = let s = c in (near s.args.m c.eighth-y.result c.abs_diff.result (twice_of c.abs_diff.result (s.args.m + centre s.args.m)) s.requires.0 s.requires.1 c.eighth-y.ensures c.abs_diff.ensures refl, sum-ge s.args.m s.requires.0 s.requires.1)

pub overflow_add-result : goal.overflow_add-result
overflow_add-result c = let s = c in fits s.args.m c.eighth-y.result c.abs_diff.result c.twice-a.result s.requires.0 s.requires.1 c.eighth-y.ensures c.abs_diff.ensures c.twice-a.ensures c.if-c-m.true

pub returns-then-c-m : goal.returns-then-c-m
returns-then-c-m c = let s = c in upward s.args.m c.eighth-y.result c.abs_diff.result c.twice-a.result s.requires.0 s.requires.1 c.eighth-y.ensures c.abs_diff.ensures c.twice-a.ensures c.if-c-m.true

pub overflow_sub-result : goal.overflow_sub-result
overflow_sub-result c = let s = c in less s.args.m c.eighth-y.result c.abs_diff.result c.twice-a.result s.requires.0 s.requires.1 c.eighth-y.ensures c.abs_diff.ensures c.twice-a.ensures c.if-c-m.false

pub returns : goal.returns
returns c = let s = c in downward s.args.m c.eighth-y.result c.abs_diff.result c.twice-a.result s.requires.0 s.requires.1 c.eighth-y.ensures c.abs_diff.ensures c.twice-a.ensures c.if-c-m.false
