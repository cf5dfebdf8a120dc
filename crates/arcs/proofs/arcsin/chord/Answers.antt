-- `arcs::arcsin::chord` meets its contract: the next cosine z is below x by at most 7 (i + 1) / 16 steps, so the chord is above 2 ^ 32 - i * 2 ^ 24.
use mathlib.Core.Path.{sym, subst₂}
use Prim.Native.Nat.{ℕ, ◌+◌, ◌-◌, ◌*◌, ◌/◌, ◌^◌, ◌<◌, ◌≤◌}
use native.Mathlib.Nat.{mul-le-mul_left}
use native.Mathlib.Omega.{arith}
use Rattle.arc_tables.proofs.Nodes.{node-slope, node-falls}
use Rattle.arcs.proofs.arcsin.chord.Goals.{After-node_cosine}
use Rattle.arcs.proofs.arcsin.chord.Goals as goal

-- x and the cosine after it
abbrev Falls : (i x z : ℕ) → Type 0
Falls i x z = (z ≤ x) × (x < 2 ^ 32) × (2 ^ 32 ≤ z + 1 + (i + 1) * (7 * 2 ^ 20))

falls : (c : After-node_cosine) → Falls c.args.i c.args.x c.node_cosine.result
falls c =
    let i = c.args.i in
    let h : i < 182 = omega (arith, c.requires.1) in
    subst₂ (λ (x z : ℕ). Falls i x z) (sym c.requires.2) (sym c.node_cosine.ensures) (node-falls i h, (node-slope i (omega arith)).0, (node-slope (i + 1) (omega arith)).1)

-- the part of the step
product : (c : After-node_cosine) → let d = c.args.x - c.node_cosine.result in d * c.args.e ≤ d * (2 ^ 24 + 2 ^ 16)
product c = mul-le-mul_left (c.args.x - c.node_cosine.result) c.requires.4

bounds :
    (i x z e p : ℕ) → (1 ≤ i) × (i ≤ 181) → Falls i x z → 2 ^ 16 ≤ e → p ≤ (x - z) * (2 ^ 24 + 2 ^ 16)
    → (p / 2 ^ 24 ≤ x) × (0 < x - p / 2 ^ 24) × (x - p / 2 ^ 24 ≤ 2 ^ 32) × (2 ^ 32 ≤ x - p / 2 ^ 24 + (i * 2 ^ 24 + e))
bounds i x z e p r f l h = (omega arith, omega arith, omega arith, omega arith)

bounds-at : (c : After-node_cosine) → let s = c in let p = (s.args.x - c.node_cosine.result) * s.args.e in (p / 2 ^ 24 ≤ s.args.x) × (0 < s.args.x - p / 2 ^ 24) × (s.args.x - p / 2 ^ 24 ≤ 2 ^ 32) × (2 ^ 32 ≤ s.args.x - p / 2 ^ 24 + (s.args.i * 2 ^ 24 + s.args.e))
bounds-at c =
    let s = c in
    bounds s.args.i s.args.x c.node_cosine.result s.args.e ((s.args.x - c.node_cosine.result) * s.args.e) (s.requires.0, s.requires.1) (falls c) s.requires.3 (product c)

pub overflow_sub-result : goal.overflow_sub-result
overflow_sub-result c = (falls (goal.at.overflow_sub-result c).After-node_cosine).0

pub overflow_mul-result : goal.overflow_mul-result
overflow_mul-result c = let p = product (goal.at.overflow_mul-result c).After-node_cosine in let f = (falls (goal.at.overflow_mul-result c).After-node_cosine).1 in omega arith

pub overflow_sub-result-2 : goal.overflow_sub-result-2
overflow_sub-result-2 c = (bounds-at (goal.at.overflow_sub-result-2 c).After-node_cosine).0

pub returns : goal.returns
returns c = let b = bounds-at (goal.at.returns c).After-node_cosine in (b.1, b.2, b.3)
