-- With the leading zeros shifted out the quotient has at most 40 digits and the excess 23, so their product fits.
use mathlib.Core.Path.{◌≡◌, sym, ap, ap₂, ◌∙◌, subst₂}
use Prim.Native.Nat.{ℕ, ◌-◌, ◌*◌, ◌/◌, ◌%◌, ◌^◌, ◌<◌, ◌≤◌}
use native.Mathlib.Omega.{arith}
use native.Mathlib.Nat.{le_trans, le_of_eq, lt_of_lt_of_le, mod-eq_of_lt}
use lib.Dec.{lit<}
use lib.Count.{count_leading_zeros}
use Rattle.logarithm.specs.Ln.{excess_of, quotient, lengthened, twice_of}
use Rattle.logarithm.proofs.LnRange.{Zeros, zeros, s-le, product_le, w_fits, twice-zero}
use Rattle.logarithm.proofs.twice.Goals as goal

none : (n : ℕ) → n < 1 → n ≡ 0
none n h = omega arith

some : (n : ℕ) → 1 ≤ n → 0 < n
some n h = omega arith

module _ (n d : ℕ) (one : 1 ≤ n) (h : n ≤ 2 ^ 19) (k : 2 ^ 24 ≤ d) where
  Z : Zeros n
  Z = zeros n (some n one) h

  shifted : n * 2 ^ count_leading_zeros 64 n % 2 ^ 64 ≡ n * 2 ^ count_leading_zeros 64 n
  shifted = mod-eq_of_lt Z.fits

  -- the quotient, as the code has it
  abbrev q₁ : ℕ
  q₁ = n * 2 ^ count_leading_zeros 64 n % 2 ^ 64 / d

  q-is : q₁ ≡ quotient n d
  q-is = ap (λ (x : ℕ). x / d) shifted

  q-small : q₁ / 2 ^ (count_leading_zeros 64 n - 34) ≤ 2 ^ 29
  q-small = le_trans (le_of_eq (ap (λ (x : ℕ). x / 2 ^ (count_leading_zeros 64 n - 34)) q-is)) (s-le n d (some n one) h k)

  module _ (g : ℕ) (g-of : g ≡ excess_of (q₁ / 2 ^ (count_leading_zeros 64 n - 34))) where
    g-is : g ≡ excess_of (quotient n d / 2 ^ (count_leading_zeros 64 n - 34))
    g-is = g-of ∙ ap (λ (x : ℕ). excess_of (x / 2 ^ (count_leading_zeros 64 n - 34))) q-is

    product : q₁ * g ≤ 2 ^ 63
    product = subst₂ (λ (x y : ℕ). x * y ≤ 2 ^ 63) (sym q-is) (sym g-is) (product_le n d (some n one) h k)

    whole : lengthened q₁ g ≤ 2 ^ 41
    whole = subst₂ (λ (x y : ℕ). lengthened x y ≤ 2 ^ 41) (sym q-is) (sym g-is) (w_fits n d (some n one) h k)

    is : lengthened q₁ g * 2 ^ 20 / 2 ^ (count_leading_zeros 64 n - 37) ≡ twice_of n d
    unfolding twice_of
    is = ap₂ (λ (x y : ℕ). lengthened x y * 2 ^ 20 / 2 ^ (count_leading_zeros 64 n - 37)) q-is g-is

pub returns-then-n-lt1 : goal.returns-then-n-lt1
returns-then-n-lt1 c = sym (ap (λ (x : ℕ). twice_of x c.args.d) (none c.args.n c.if-n-lt1.true) ∙ twice-zero c.args.d (lt_of_lt_of_le (lit< tt) c.requires.1))

pub overflow_cast-q : goal.overflow_cast-q
overflow_cast-q c = omega (arith, (Z c.args.n c.args.d c.if-n-lt1.false c.requires.0 c.requires.1).most)

pub overflow_shl-q : goal.overflow_shl-q
overflow_shl-q c = omega (arith, (Z c.args.n c.args.d c.if-n-lt1.false c.requires.0 c.requires.1).most)

pub overflow_sub-l : goal.overflow_sub-l
overflow_sub-l c = omega (arith, (Z c.args.n c.args.d c.if-n-lt1.false c.requires.0 c.requires.1).few)

pub overflow_cast-l : goal.overflow_cast-l
overflow_cast-l c = omega (arith, (Z c.args.n c.args.d c.if-n-lt1.false c.requires.0 c.requires.1).most)

pub overflow_shr-q : goal.overflow_shr-q
overflow_shr-q c = omega (arith, (Z c.args.n c.args.d c.if-n-lt1.false c.requires.0 c.requires.1).most)

pub excess-g-requires : goal.excess-g-requires
excess-g-requires c = q-small c.args.n c.args.d c.if-n-lt1.false c.requires.0 c.requires.1

pub overflow_mul-result : goal.overflow_mul-result
overflow_mul-result c = omega (arith, product c.args.n c.args.d c.if-n-lt1.false c.requires.0 c.requires.1 c.excess-g.result c.excess-g.ensures)

pub overflow_add-result : goal.overflow_add-result
overflow_add-result c = omega (arith, whole c.args.n c.args.d c.if-n-lt1.false c.requires.0 c.requires.1 c.excess-g.result c.excess-g.ensures)

pub overflow_mul-result-2 : goal.overflow_mul-result-2
overflow_mul-result-2 c = omega (arith, whole c.args.n c.args.d c.if-n-lt1.false c.requires.0 c.requires.1 c.excess-g.result c.excess-g.ensures)

pub overflow_sub-result : goal.overflow_sub-result
overflow_sub-result c = omega (arith, (Z c.args.n c.args.d c.if-n-lt1.false c.requires.0 c.requires.1).few)

pub overflow_cast-result : goal.overflow_cast-result
overflow_cast-result c = omega (arith, (Z c.args.n c.args.d c.if-n-lt1.false c.requires.0 c.requires.1).most)

pub overflow_shr-result : goal.overflow_shr-result
overflow_shr-result c = omega (arith, (Z c.args.n c.args.d c.if-n-lt1.false c.requires.0 c.requires.1).most)

pub returns : goal.returns
returns c = is c.args.n c.args.d c.if-n-lt1.false c.requires.0 c.requires.1 c.excess-g.result c.excess-g.ensures
