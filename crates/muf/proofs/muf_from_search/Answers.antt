-- The tests and the calls, in the definition's order; the lists reach to the controlling slot, which is below 3.
use mathlib.Core.Path.{sym, ◌∙◌}
use Rattle.layer_mufs.proofs.controlling_slot.Small.{controlling-small}
use Rattle.muf.proofs.muf_domain.Lists.{lists-reach}
use Rattle.muf.specs.Curmuf.{muf_from_search_with}
use Rattle.muf.proofs.muf_from_search.Goals as goal

pub number-requires : goal.number-requires
number-requires g c = rw (← c.count.ensures) (lists-reach _ _ _ _ (sym c.lists_reach.ensures ∙ c.if-not-lists_reach.false)).0

pub number-requires-2 : goal.number-requires-2
number-requires-2 g c = rw (← c.count-2.ensures) (lists-reach _ _ _ _ (sym c.lists_reach.ensures ∙ c.if-not-lists_reach.false)).1

pub muf_at_slot-requires : goal.muf_at_slot-requires
muf_at_slot-requires g c = rw c.controlling-ks.ensures (controlling-small _)

pub returns-then-not-in_domain : goal.returns-then-not-in_domain
unfolding muf_from_search_with
returns-then-not-in_domain g c = rw (← c.in_domain.ensures, c.if-not-in_domain.true)

pub returns-then-not-lists_reach : goal.returns-then-not-lists_reach
unfolding muf_from_search_with
returns-then-not-lists_reach g c = rw (← c.in_domain.ensures, c.if-not-in_domain.false, ← c.controlling-ks.ensures, ← c.count.ensures, ← c.count-2.ensures, ← c.lists_reach.ensures, c.if-not-lists_reach.true)

pub returns : goal.returns
unfolding muf_from_search_with
returns g c =
    rw (
      ← c.in_domain.ensures,
      c.if-not-in_domain.false,
      ← c.controlling-ks.ensures,
      ← c.count.ensures,
      ← c.count-2.ensures,
      ← c.lists_reach.ensures,
      c.if-not-lists_reach.false,
      ← c.controlling-ks.ensures,
      ← c.number.ensures,
      ← c.number-2.ensures,
      ← c.muf_at_slot.ensures.value,
    )
