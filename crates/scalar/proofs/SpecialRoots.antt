-- The values whose root is no new number: a NaN, the zeros, the infinities and the values below zero. Assumes nothing.
use mathlib.Core.Path.{◌≡◌, refl, sym, ap, ◌∙◌}
use mathlib.Core.Logic.{◌⊎◌, inl, inr}
use mathlib.Core.Bool.{Bool, true, false, not, cond}
use Prim.Native.Nat.{ℕ, zero, suc, ◌+◌, ◌*◌, ◌/◌, ◌%◌, ◌^◌, ◌≤◌, ◌<◌}
use native.Mathlib.Nat.{mul-pos, eq-zero-or-pos, eq-or-lt_of_le}
use native.Mathlib.Omega.{arith}
use lib.Dec.{T, leb, ltb, ltb→lt, nltb→le, le→leb}
use lib.Pow.{pow_pos}
use lib.Ieee.{Float, nan, inf, binary32, ne, of_fields, of_bits}
use borrow.Author.Tests.{le-leb}
use Rattle.scalar.specs.Root.{sqrt_of}
use Rattle.scalar.proofs.Nan.{differs}
use Rattle.scalar.proofs.Patterns.{sqrt_negative, of_bits_is, plain, fields-low, fields-mid}

-- ---- a NaN
nan-root : sqrt_of nan ≡ nan
unfolding sqrt_of
nan-root = refl

pub at-nan : (x : Float) → ne x x ≡ true → x ≡ sqrt_of x
at-nan x e = let n : x ≡ nan = differs x e in n ∙ sym nan-root ∙ ap (λ (v : Float). sqrt_of v) (sym n)

-- ---- the zeros and +infinity
pub zero-root : sqrt_of (of_bits binary32 0) ≡ of_bits binary32 0
unfolding sqrt_of of_bits
zero-root = refl

pub minus-zero-root : sqrt_of (of_bits binary32 0x8000_0000) ≡ of_bits binary32 0x8000_0000
unfolding sqrt_of of_bits
minus-zero-root = refl

pub inf-root : sqrt_of (of_bits binary32 0x7f80_0000) ≡ of_bits binary32 0x7f80_0000
unfolding sqrt_of of_bits
inf-root = refl

pub own : (x : Float) (b n : ℕ) → x ≡ of_bits binary32 b → b ≡ n → sqrt_of (of_bits binary32 n) ≡ of_bits binary32 n → x ≡ sqrt_of x
own x b n e i h = let k : x ≡ of_bits binary32 n = e ∙ ap (λ (y : ℕ). of_bits binary32 y) i in k ∙ sym h ∙ ap (λ (v : Float). sqrt_of v) (sym k)

-- ---- below zero
-- the highest field: an infinity or a NaN
top-root : (s : Bool) (t : ℕ) → T s ⊎ (0 < t) → sqrt_of (of_fields binary32 s 255 t) ≡ nan
unfolding sqrt_of of_fields
top-root true zero h = refl
top-root true (suc t) h = ap (λ (b : Bool). sqrt_of (cond b (inf true) nan)) (lib.Dec.eqb-suc-zero t)
top-root false zero (inl h) = absurd h
top-root false zero (inr h) = absurd (native.Mathlib.Nat.lt_irrefl 0 h)
top-root false (suc t) h = ap (λ (b : Bool). sqrt_of (cond b (inf false) nan)) (lib.Dec.eqb-suc-zero t)

-- any field under the sign's bit, but those of -0
negative-root : (x t : ℕ) → x ≤ 255 → (0 < x) ⊎ (0 < t) → sqrt_of (of_fields binary32 true x t) ≡ nan
negative-root zero t l (inl h) = absurd (native.Mathlib.Nat.lt_irrefl 0 h)
negative-root zero t l (inr h) = sqrt_negative (of_fields binary32 true 0 t) t (fields-low true t) h
negative-root (suc x) t l h = go (eq-or-lt_of_le l)
  where
    lead : (t : ℕ) → 0 < 2 ^ 23 + t
    lead t = omega arith

    go : (suc x ≡ 255) ⊎ (suc x < 255) → sqrt_of (of_fields binary32 true (suc x) t) ≡ nan
    go (inl e) = ap (λ (y : ℕ). sqrt_of (of_fields binary32 true y t)) e ∙ top-root true t (inl tt)
    go (inr k) = sqrt_negative (of_fields binary32 true (suc x) t) ((2 ^ 23 + t) * 2 ^ x) (fields-mid true x t k) (mul-pos (lead t) (pow_pos x))

pub above-inf : (b : ℕ) → 0x7f80_0000 < b → (b ≡ 0x8000_0000 → ⊥) → b < 2 ^ 32 → sqrt_of (of_bits binary32 b) ≡ nan
above-inf b lo z hi = go (ltb b (2 ^ 31)) (ltb→lt b (2 ^ 31)) (nltb→le b (2 ^ 31))
  where
    ones : (b : ℕ) → 0x7f80_0000 < b → b < 2 ^ 31 → b / 2 ^ 23 ≡ 255
    ones b l h = omega arith

    some : (b : ℕ) → 0x7f80_0000 < b → b < 2 ^ 31 → 0 < b % 2 ^ 23
    some b l h = omega arith

    field : (b : ℕ) → b % 2 ^ 31 / 2 ^ 23 ≤ 255
    field b = omega arith

    rest : (b : ℕ) → 2 ^ 31 ≤ b → b < 2 ^ 32 → (b ≡ 0x8000_0000 → ⊥) → (0 < b % 2 ^ 31 / 2 ^ 23) ⊎ (0 < b % 2 ^ 23)
    rest b l h n = or (eq-zero-or-pos (b % 2 ^ 31 / 2 ^ 23))
      where
        tail : b % 2 ^ 31 / 2 ^ 23 ≡ 0 → 0 < b % 2 ^ 23
        tail e = omega arith

        or : (b % 2 ^ 31 / 2 ^ 23 ≡ 0) ⊎ (0 < b % 2 ^ 31 / 2 ^ 23) → (0 < b % 2 ^ 31 / 2 ^ 23) ⊎ (0 < b % 2 ^ 23)
        or (inl e) = inr (tail e)
        or (inr p) = inl p

    go : (t : Bool) → (T t → b < 2 ^ 31) → (T (not t) → 2 ^ 31 ≤ b) → sqrt_of (of_bits binary32 b) ≡ nan
    go true h k =
        ap (λ (v : Float). sqrt_of v) (plain b (h tt) ∙ ap (λ (x : ℕ). of_fields binary32 false x (b % 2 ^ 23)) (ones b lo (h tt)))
        ∙ top-root false (b % 2 ^ 23) (inr (some b lo (h tt)))
    go false h k =
        ap (λ (v : Float). sqrt_of v) (of_bits_is b ∙ ap (λ (s : Bool). of_fields binary32 s (b % 2 ^ 31 / 2 ^ 23) (b % 2 ^ 23)) (le-leb (2 ^ 31) b (k tt)))
        ∙ negative-root (b % 2 ^ 31 / 2 ^ 23) (b % 2 ^ 23) (field b) (rest b (k tt) hi z)
