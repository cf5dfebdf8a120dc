-- n, moved up as `magnitude` moves it, over 2 ^ 8 d or over 2 ^ 9 d gives the pattern of n / d rounded.
use mathlib.Core.Path.{◌≡◌, sym, ap, ◌∙◌, subst}
use mathlib.Core.Bool.{Bool, false, cond}
use Prim.Native.Nat.{ℕ, ◌+◌, ◌-◌, ◌*◌, ◌/◌, ◌^◌, ◌≤◌, ◌<◌}
use native.Mathlib.Omega.{arith}
use lib.Ieee.{binary32, round, to_bits}
use lib.Ieee.Nearest.{closest}
use Rattle.composing.proofs.decimals.Rounded.{Pattern, pattern}
use Rattle.composing.proofs.decimals.Scaled.{Scaled}

abbrev pub Magnitude : ℕ → ℕ → ℕ → Type 0
Magnitude n d r = (r < 2 ^ 31) × ((s : Bool) → to_bits binary32 (round binary32 s n d) ≡ cond s (2 ^ 31) 0 + r)

module _ (n d z y p : ℕ) (D : 0 < d) (S : Scaled n d z y) (P : p ≡ 2 ^ (32 + z - y)) where
  moved : n * p ≡ n * 2 ^ (32 + z - y)
  moved = ap (λ (x : ℕ). n * x) P

  pub room : n * p < 2 ^ 64
  room = subst (λ (x : ℕ). x < 2 ^ 64) (sym moved) S.room

  pub under : n * p / 2 ^ 24 < d * 256 → n * p < 2 ^ 24 * (d * 256)
  under h = omega arith

  pub over : d * 256 ≤ n * p / 2 ^ 24 → n * p < 2 ^ 24 * (d * 256 * 2)
  over h = let a = S.high in let b = moved in omega arith

  small : (k q : ℕ) → k < 252 → q ≤ 2 ^ 24 → k * 2 ^ 23 + q < 2 ^ 31
  small k q h l = omega arith

  is : (j k r : ℕ) → ((s : Bool) → Pattern s n d (32 + z - y) j k) → k < 252 → r ≡ k * 2 ^ 23 + closest (n * p) (d * 2 ^ j) → Magnitude n d r
  is j k r f h e =
      let g : r ≡ k * 2 ^ 23 + closest (n * 2 ^ (32 + z - y)) (d * 2 ^ j) = e ∙ ap (λ (x : ℕ). k * 2 ^ 23 + closest x (d * 2 ^ j)) moved in
      (subst (λ (x : ℕ). x < 2 ^ 31) (sym g) (small k (closest (n * 2 ^ (32 + z - y)) (d * 2 ^ j)) h (f false).high), λ s. (f s).bits ∙ ap (λ (x : ℕ). cond s (2 ^ 31) 0 + x) (sym g))

  pub first : (r : ℕ) → n * p / 2 ^ 24 < d * 256 → r ≡ (125 + y - z) * 2 ^ 23 + closest (n * p) (d * 256) → Magnitude n d r
  first r h e =
      let l : 125 + y - z < 252 = let a = S.field in omega arith in
      is 8 (125 + y - z) r (λ s. pattern s n d (32 + z - y) 8 (125 + y - z) D S.even S.low (subst (λ (x : ℕ). x < 2 ^ 24 * (d * 256)) moved (under h)) l) l e

  pub second : (r : ℕ) → d * 256 ≤ n * p / 2 ^ 24 → r ≡ (126 + y - z) * 2 ^ 23 + closest (n * p) (d * 256 * 2) → Magnitude n d r
  second r h e =
      let c : d * 256 * 2 ≡ d * 2 ^ 9 = omega arith in
      let m = moved in
      let o = over h in
      is 9 (126 + y - z) r (λ s. pattern s n d (32 + z - y) 9 (126 + y - z) D S.odd (omega arith) (omega arith) S.field) S.field
      (e ∙ ap (λ (x : ℕ). (126 + y - z) * 2 ^ 23 + closest (n * p) x) c)
