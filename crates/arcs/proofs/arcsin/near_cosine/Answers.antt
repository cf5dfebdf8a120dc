-- `arcs::arcsin::near_cosine` meets its contract: with g = 2 ^ 32 - k, k at most n, g (2 ^ 33 - g) is 2 ^ 64 - k k, and so above 2 ^ 64 - 1 - n n.
use mathlib.Core.Path.{◌≡◌, ap, ◌∙◌, subst}
use Prim.Native.Nat.{ℕ, ◌+◌, ◌-◌, ◌*◌, ◌^◌, ◌<◌, ◌≤◌}
use native.Mathlib.Nat.{mul-le-mul}
use native.Mathlib.Omega.{arith}
use Rattle.scalar.specs.Root.{root}
use Rattle.arc_tables.specs.Tables.{cosine_of}
use Rattle.arcs.proofs.arcsin.near_cosine.Goals as goal

above : (m n g : ℕ) → m ≡ 2 ^ 64 - 1 - n * n → n < 2 ^ 32 → g ≤ 2 ^ 32 → 2 ^ 32 ≤ g + n → m < g * (2 ^ 33 - g)
above m n g e t l h = go (2 ^ 32 - g) (omega arith) (omega arith)
  where
    go : (k : ℕ) → g + k ≡ 2 ^ 32 → k ≤ n → m < g * (2 ^ 33 - g)
    go k s b =
        let q = mul-le-mul b b in
        let a : n ≤ 2 ^ 32 - 1 = omega arith in
        let f = mul-le-mul a a in
        let d : g + 2 * k ≡ 2 ^ 33 - g = omega arith in
        subst (λ (x : ℕ). m < g * x) d (omega (arith, e, q, f, ap (λ (x : ℕ). x * x) s))

pub mean-requires : goal.mean-requires
mean-requires c =
    let s = c in
    (s.requires.1, s.requires.2, above c.rest_of_square-m.result s.args.n s.args.g c.rest_of_square-m.ensures.0 s.requires.0 s.requires.2 s.requires.3)

pub returns : goal.returns
unfolding cosine_of
returns c = c.whole_root.ensures ∙ ap root c.rest_of_square-m.ensures.0
