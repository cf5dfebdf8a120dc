-- `arcs::arcsin::steep_arc` meets its contract: Arcs.antt has the bounds of index and turn.
use mathlib.Core.Path.{◌≡◌, sym, ap, ap₂, ◌∙◌, subst}
use Prim.Native.Nat.{ℕ, ◌+◌, ◌-◌, ◌*◌, ◌/◌, ◌^◌, ◌<◌, ◌≤◌}
use native.Mathlib.Nat.{lt_of_le_of_lt}
use native.Mathlib.Omega.{arith}
use lib.Dec.{lit<}
use Rattle.arc_tables.specs.Tables.{cosine_of, cosine_at, half_pi}
use Rattle.arcs.specs.Asin.{arc_of, steep_arc}
use Rattle.arc_tables.proofs.Nodes.{arc-most}
use Rattle.arcs.proofs.Arcs.{Placed, steep-placed, steep-cosine, turn-size, product-fits}
use Rattle.arcs.proofs.arcsin.steep_arc.Goals as goal

abbrev index : ℕ → ℕ
index r = (r + 2 ^ 16) / 2 ^ 24 + 1

small : (n r : ℕ) → 3037000500 ≤ n → r ≡ cosine_of n → r ≤ 3037000499
small n r h e = subst (λ (r : ℕ). r ≤ 3037000499) (sym e) (steep-cosine n h)

index_lt : (n r : ℕ) → 3037000500 ≤ n → r ≡ cosine_of n → index r < 183
index_lt n r h e = let k = small n r h e in omega arith

-- the turn, as the code has it
placed : (n r y : ℕ) → 3037000500 ≤ n → n < 2 ^ 32 → r ≡ cosine_of n → y ≡ cosine_at (index r) → Placed n r (index r * 2 ^ 24) y
placed n r y l h e f =
    subst (λ (y : ℕ). Placed n r (index r * 2 ^ 24) y) (sym f)
    (subst (λ (r : ℕ). let k = (r + 2 ^ 16) / 2 ^ 24 + 1 in Placed n r (k * 2 ^ 24) (cosine_at k)) (sym e) (steep-placed n l h).2)

product_lt : (n r : ℕ) → 3037000500 ≤ n → n < 2 ^ 32 → r ≡ cosine_of n → index r * 2 ^ 24 * n < 2 ^ 64
product_lt n r l h e = product-fits (index r * 2 ^ 24) n (let k = index_lt n r l e in omega arith) h

pub overflow_add-j : goal.overflow_add-j
overflow_add-j c = let h = small c.args.n c.cosine-c.result c.requires.0 c.cosine-c.ensures in omega arith

pub node_cosine-y-requires : goal.node_cosine-y-requires
node_cosine-y-requires c = index_lt c.args.n c.cosine-c.result c.requires.0 c.cosine-c.ensures

pub node_angle-requires : goal.node_angle-requires
node_angle-requires c = index_lt c.args.n c.cosine-c.result c.requires.0 c.cosine-c.ensures

pub overflow_sub-node_angle : goal.overflow_sub-node_angle
overflow_sub-node_angle c =
    subst (λ (A : ℕ). A ≤ half_pi) (sym c.node_angle.ensures)
    (arc-most (index c.cosine-c.result) (index_lt c.args.n c.cosine-c.result c.requires.0 c.cosine-c.ensures))

pub overflow_mul-j : goal.overflow_mul-j
overflow_mul-j c = let h = index_lt c.args.n c.cosine-c.result c.requires.0 c.cosine-c.ensures in omega arith

pub overflow_mul-j-2 : goal.overflow_mul-j-2
overflow_mul-j-2 c = record { fits = product_lt c.args.n c.cosine-c.result c.requires.0 c.requires.1 c.cosine-c.ensures }

pub overflow_mul-y : goal.overflow_mul-y
overflow_mul-y c =
    let p = product_lt c.args.n c.cosine-c.result c.requires.0 c.requires.1 c.cosine-c.ensures in
    let l = (placed c.args.n c.cosine-c.result c.node_cosine-y.result c.requires.0 c.requires.1 c.cosine-c.ensures c.node_cosine-y.ensures).least in
    omega arith

pub overflow_sub-j : goal.overflow_sub-j
overflow_sub-j c = let l = (placed c.args.n c.cosine-c.result c.node_cosine-y.result c.requires.0 c.requires.1 c.cosine-c.ensures c.node_cosine-y.ensures).least in omega arith

pub arc_sum-requires : goal.arc_sum-requires
arc_sum-requires c =
    let r = c.cosine-c.result in
    let y = c.node_cosine-y.result in (
      omega arith,
      lt_of_le_of_lt (turn-size c.args.n r (index r * 2 ^ 24) y (placed c.args.n r y c.requires.0 c.requires.1 c.cosine-c.ensures c.node_cosine-y.ensures)).1 (lit< tt),
    )

pub returns : goal.returns
returns c =
    let n = c.args.n in
    let r = c.cosine-c.result in
    c.arc_sum.ensures
    ∙ ap₂ (λ (A y : ℕ). arc_of (half_pi - A) ((index r * 2 ^ 24 * n - y * r) / 2 ^ 8)) c.node_angle.ensures c.node_cosine-y.ensures
    ∙ ap (steep_arc n) c.cosine-c.ensures
