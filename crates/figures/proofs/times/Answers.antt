-- Each way out is a law of the product by the fields, at the pattern of v.
use Prim.Native.Nat.{ℕ, ◌+◌, ◌-◌, ◌*◌, ◌/◌, ◌%◌, ◌^◌, ◌≤◌, ◌<◌, min}
use mathlib.Core.Path.{◌≡◌, sym, ap, ◌∙◌}
use mathlib.Core.Bool.{Bool}
use native.Mathlib.Nat.{lt_of_lt_of_le, mul-le-mul}
use native.Mathlib.Omega.{arith}
use lib.Dec.{T, leb}
use lib.Pow.{pow_pos, pow_mono, shl_lt}
use lib.Ieee.{binary32, fits, of_fields}
use borrow.Author.Rules.{rules}
use Rattle.figures.specs.Nearest.{nearest, past, times_of}
use Rattle.figures.proofs.Product.{by-fields, past_is, below, fraction, multiple, none, large}
use Rattle.figures.proofs.times.Goals.{After-bits-size}
use Rattle.figures.proofs.times.Goals as goal

abbrev sign : After-bits-size → Bool
sign a = leb (2 ^ 31) a.bits-size.result

abbrev field : After-bits-size → ℕ
field a = a.bits-size.result % 2 ^ 31 / 2 ^ 23

abbrev last : After-bits-size → ℕ
last a = a.bits-size.result % 2 ^ 31 % 2 ^ 23

is : (a : After-bits-size) → times_of a.args.k (of_fields binary32 (sign a) (field a) (last a)) ≡ times_of a.args.k a.args.v
is a =
    let f : T (fits binary32 a.args.v) = search rules in
    ap (times_of a.args.k) (by-fields a.args.v a.bits-size.result f a.bits-size.ensures)

few : (a : After-bits-size) → a.args.k < 2 ^ 32
few a = omega arith

last-lt : (a : After-bits-size) → last a < 2 ^ 23
last-lt a = omega arith

finite : (a : After-bits-size) → (field a ≡ 255 → ⊥) → field a < 255
finite a h = go a.bits-size.result h
  where
    go : (b : ℕ) → (b % 2 ^ 31 / 2 ^ 23 ≡ 255 → ⊥) → b % 2 ^ 31 / 2 ^ 23 < 255
    go b h = omega arith

-- the digits, times k, and then as high as the last shift goes
product_lt : (d k : ℕ) → d ≤ 2 ^ 24 → k < 2 ^ 32 → d * k < 2 ^ 56
product_lt d k h l = let p = mul-le-mul h (le_of k l) in omega arith
  where
    le_of : (k : ℕ) → k < 2 ^ 32 → k ≤ 2 ^ 32 - 1
    le_of k l = omega arith

pub returns-then-field-eq255 : goal.returns-then-field-eq255
returns-then-field-eq255 c =
    past_is c.args.k (sign (goal.at.returns-then-field-eq255 c).After-bits-size) (last (goal.at.returns-then-field-eq255 c).After-bits-size)
    ∙ ap (λ (x : ℕ). times_of c.args.k (of_fields binary32 (sign (goal.at.returns-then-field-eq255 c).After-bits-size) x (last (goal.at.returns-then-field-eq255 c).After-bits-size))) (sym c.if-field-eq255.true)
    ∙ is (goal.at.returns-then-field-eq255 c).After-bits-size

pub returns-then-field-lt94 : goal.returns-then-field-lt94
returns-then-field-lt94 c = let a = (goal.at.returns-then-field-lt94 c).After-bits-size in below a.args.k (sign a) (last a) (few a) (last-lt a) (field a) c.if-field-lt94.true ∙ is a

pub overflow_mul-n : goal.overflow_mul-n
overflow_mul-n c = let a = (goal.at.overflow_mul-n c).After-bits-size in let p = product_lt (2 ^ 23 + last a) a.args.k (omega arith) (few a) in omega arith

pub nearest-requires : goal.nearest-requires
nearest-requires c = rw c.power.ensures (pow_pos (150 - field (goal.at.nearest-requires c).After-bits-size))

pub returns-then-field-lt150 : goal.returns-then-field-lt150
returns-then-field-lt150 c =
    c.kept.ensures
    ∙ ap (λ (x : ℕ). min x past) (c.nearest.ensures ∙ ap (nearest ((2 ^ 23 + last (goal.at.returns-then-field-lt150 c).After-bits-size) * c.args.k)) c.power.ensures)
    ∙ fraction c.args.k (sign (goal.at.returns-then-field-lt150 c).After-bits-size) (last (goal.at.returns-then-field-lt150 c).After-bits-size) (few (goal.at.returns-then-field-lt150 c).After-bits-size) (last-lt (goal.at.returns-then-field-lt150 c).After-bits-size) (field (goal.at.returns-then-field-lt150 c).After-bits-size) c.if-field-lt94.false c.if-field-lt150.true
    ∙ is (goal.at.returns-then-field-lt150 c).After-bits-size

pub overflow_mul-n-then-field-lt159 : goal.overflow_mul-n-then-field-lt159
overflow_mul-n-then-field-lt159 c =
    rw c.power-then-field-lt159.ensures (record { fits = lt_of_lt_of_le (shl_lt 56 (field (goal.at.overflow_mul-n-then-field-lt159 c).After-bits-size - 150) (product_lt (2 ^ 23 + last (goal.at.overflow_mul-n-then-field-lt159 c).After-bits-size) c.args.k (omega arith) (few (goal.at.overflow_mul-n-then-field-lt159 c).After-bits-size))) (pow_mono {i = 56 + (field (goal.at.overflow_mul-n-then-field-lt159 c).After-bits-size - 150)} {j = 64} (omega arith)) })

pub returns-then-field-lt159 : goal.returns-then-field-lt159
returns-then-field-lt159 c =
    c.kept-then-field-lt159.ensures
    ∙ ap (λ (x : ℕ). min ((2 ^ 23 + last (goal.at.returns-then-field-lt159 c).After-bits-size) * c.args.k * x) past) c.power-then-field-lt159.ensures
    ∙ multiple c.args.k (sign (goal.at.returns-then-field-lt159 c).After-bits-size) (last (goal.at.returns-then-field-lt159 c).After-bits-size) (few (goal.at.returns-then-field-lt159 c).After-bits-size) (last-lt (goal.at.returns-then-field-lt159 c).After-bits-size) (field (goal.at.returns-then-field-lt159 c).After-bits-size) c.if-field-lt150.false (omega arith)
    ∙ is (goal.at.returns-then-field-lt159 c).After-bits-size

pub returns-then-k-eq0 : goal.returns-then-k-eq0
returns-then-k-eq0 c =
    none c.args.k (sign (goal.at.returns-then-k-eq0 c).After-bits-size) (last (goal.at.returns-then-k-eq0 c).After-bits-size) (few (goal.at.returns-then-k-eq0 c).After-bits-size) (last-lt (goal.at.returns-then-k-eq0 c).After-bits-size) (field (goal.at.returns-then-k-eq0 c).After-bits-size) c.if-k-eq0.true c.if-field-lt159.false (finite (goal.at.returns-then-k-eq0 c).After-bits-size c.if-field-eq255.false) ∙ is (goal.at.returns-then-k-eq0 c).After-bits-size

pub returns : goal.returns
returns c =
    large c.args.k (sign (goal.at.returns c).After-bits-size) (last (goal.at.returns c).After-bits-size) (few (goal.at.returns c).After-bits-size) (last-lt (goal.at.returns c).After-bits-size) (field (goal.at.returns c).After-bits-size) c.if-k-eq0.false c.if-field-lt159.false (finite (goal.at.returns c).After-bits-size c.if-field-eq255.false) ∙ is (goal.at.returns c).After-bits-size
