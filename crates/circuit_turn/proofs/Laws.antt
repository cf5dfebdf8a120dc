-- The laws of the two programs, gathered.
use Rattle.circuit_turn.specs.Laws.{TurnLaws}
use Rattle.circuit_turn.proofs.Turned.{narrow-widened, widen-narrowed, widen_keeps, narrow_keeps, widened-in-form, narrowed-in-form, narrow-widened-any}
use Rattle.circuit_turn.proofs.Refusals.{fourteen, only-fourteen, widen-refuses, narrow-refuses, chain_first, old-refuses, old-refuses-long}

pub turn-laws : TurnLaws
turn-laws =
    record {
      narrow-widened = narrow-widened;
      widen-narrowed = widen-narrowed;
      widen_keeps = widen_keeps;
      narrow_keeps = narrow_keeps;
      widened-in-form = widened-in-form;
      narrowed-in-form = narrowed-in-form;
      narrow-widened-any = narrow-widened-any;
      fourteen = fourteen;
      only-fourteen = only-fourteen;
      widen-refuses = widen-refuses;
      narrow-refuses = narrow-refuses;
      chain_first = chain_first;
      old-refuses = old-refuses;
      old-refuses-long = old-refuses-long;
    }
