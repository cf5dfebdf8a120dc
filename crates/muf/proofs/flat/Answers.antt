-- The tests, in the definition's order; then the rows that are searched are those of the numbers, and these are there, and the lists
-- reach to the controlling slot, which is below 3.
use Rattle.std.proofs.Common.{rules, ◌*◌, ◌≤◌}
use Rattle.std.proofs.iter.Serving.{serving}
use mathlib.Core.Path.{sym, ◌∙◌}
use Rattle.layer_mufs.proofs.controlling_slot.Small.{controlling-small}
use Rattle.muf.specs.Sporadic.{row_at}
use Rattle.muf.specs.Curmuf.{muf_from_search_with, muf_of_rows_with, flat_muf_with}
use Rattle.muf.proofs.Rows.{rows-there}
use Rattle.muf.proofs.muf_domain.Lists.{lists-reach}
use Rattle.muf.proofs.flat.Goals as goal

pub search-found-requires : goal.search-found-requires
search-found-requires g c =
    let there : 4 * c.row_count-n.result ≤ c.count-3.result = rw c.row_count-n.ensures (rows-there _ _) in
    grind serving

pub number-requires : goal.number-requires
number-requires g c = rw (← c.count.ensures) (lists-reach _ _ _ _ (sym c.lists_reach.ensures ∙ c.if-not-lists_reach.false)).0

pub number-requires-2 : goal.number-requires-2
number-requires-2 g c = rw (← c.count-2.ensures) (lists-reach _ _ _ _ (sym c.lists_reach.ensures ∙ c.if-not-lists_reach.false)).1

pub muf_at_slot-requires : goal.muf_at_slot-requires
muf_at_slot-requires g c = rw c.controlling-ks.ensures (controlling-small _)

pub returns-then-not-in_domain : goal.returns-then-not-in_domain
unfolding flat_muf_with muf_of_rows_with muf_from_search_with
returns-then-not-in_domain g c = rw (← c.in_domain.ensures, c.if-not-in_domain.true)

pub returns-then-not-lists_reach : goal.returns-then-not-lists_reach
unfolding flat_muf_with muf_of_rows_with muf_from_search_with
returns-then-not-lists_reach g c = rw (← c.in_domain.ensures, c.if-not-in_domain.false, ← c.controlling-ks.ensures, ← c.count.ensures, ← c.count-2.ensures, ← c.lists_reach.ensures, c.if-not-lists_reach.true)

pub returns : goal.returns
unfolding flat_muf_with muf_of_rows_with muf_from_search_with
returns g c =
    let found = c.search-found.ensures.value (row_at (g.L.Numbers.floats c.args.es)) (λ k row h p. search rules) in
    rw (
      ← c.in_domain.ensures,
      c.if-not-in_domain.false,
      ← c.controlling-ks.ensures,
      ← c.count.ensures,
      ← c.count-2.ensures,
      ← c.lists_reach.ensures,
      c.if-not-lists_reach.false,
      ← c.controlling-ks.ensures,
      ← c.count-3.ensures,
      ← c.row_count-n.ensures,
      ← found,
      ← c.number.ensures,
      ← c.number-2.ensures,
      ← c.muf_at_slot.ensures.value,
    )
