-- `arcs::arcsin::gentle_arc` meets its contract: Arcs.antt has the bounds of index and turn.
use mathlib.Core.Path.{◌≡◌, sym, ap₂, ◌∙◌, subst, subst₂}
use Prim.Native.Nat.{ℕ, ◌-◌, ◌*◌, ◌/◌, ◌^◌, ◌<◌, ◌≤◌}
use native.Mathlib.Nat.{le_trans, lt_of_le_of_lt}
use native.Mathlib.Omega.{arith}
use lib.Dec.{lit<, lit≤}
use Rattle.arc_tables.specs.Tables.{cosine_of, cosine_at}
use Rattle.arcs.specs.Asin.{arc_of}
use Rattle.arc_tables.proofs.Nodes.{node-slope, arc-most}
use Rattle.arcs.proofs.Arcs.{Placed, gentle-placed, turn-size, product-fits}
use Rattle.arcs.proofs.arcsin.gentle_arc.Goals as goal

abbrev index : ℕ → ℕ
index n = (n - 2 ^ 16) / 2 ^ 24

-- cosine r and the table's cosine x, as the code has them
placed : (n r x : ℕ) → 2 ^ 25 ≤ n → n ≤ 3037000499 → r ≡ cosine_of n → x ≡ cosine_at (index n) → Placed n r x (index n * 2 ^ 24)
placed n r x l h e f = subst₂ (λ (r x : ℕ). Placed n r x (index n * 2 ^ 24)) (sym e) (sym f) (gentle-placed n l h).2

product_lt : (n x : ℕ) → n ≤ 3037000499 → x ≡ cosine_at (index n) → x * n < 2 ^ 64
product_lt n x h f = product-fits x n (subst (λ (x : ℕ). x < 2 ^ 32) (sym f) (node-slope (index n) (omega arith)).0) (omega arith)

pub overflow_mul-x : goal.overflow_mul-x
overflow_mul-x c = record { fits = product_lt c.args.n c.node_cosine-x.result c.requires.1 c.node_cosine-x.ensures }

pub overflow_mul-y-2 : goal.overflow_mul-y-2
overflow_mul-y-2 c =
    let p = product_lt c.args.n c.node_cosine-x.result c.requires.1 c.node_cosine-x.ensures in
    let l = (placed c.args.n c.near_cosine-c.result c.node_cosine-x.result c.requires.0 c.requires.1 c.near_cosine-c.ensures c.node_cosine-x.ensures).least in
    omega arith

pub overflow_sub-x : goal.overflow_sub-x
overflow_sub-x c =
    let l = (placed c.args.n c.near_cosine-c.result c.node_cosine-x.result c.requires.0 c.requires.1 c.near_cosine-c.ensures c.node_cosine-x.ensures).least in
    omega arith

pub arc_sum-requires : goal.arc_sum-requires
arc_sum-requires c =
    let n = c.args.n in
    let x = c.node_cosine-x.result in (
      subst (λ (A : ℕ). A ≤ 2 ^ 57) (sym c.node_angle.ensures) (le_trans (arc-most (index n) (omega (arith, c.requires.1))) (lit≤ tt)),
      lt_of_le_of_lt (turn-size n c.near_cosine-c.result x (index n * 2 ^ 24) (placed n c.near_cosine-c.result x c.requires.0 c.requires.1 c.near_cosine-c.ensures c.node_cosine-x.ensures)).1 (lit< tt),
    )

pub returns : goal.returns
returns c =
    let n = c.args.n in
    c.arc_sum.ensures
    ∙ ap₂ (λ (A z : ℕ). arc_of A z) c.node_angle.ensures
    (ap₂ (λ (x r : ℕ). (x * n - index n * 2 ^ 24 * r) / 2 ^ 8) c.node_cosine-x.ensures c.near_cosine-c.ensures)
