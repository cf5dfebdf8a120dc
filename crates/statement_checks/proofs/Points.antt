-- Below the first list's length the second is not read.
use mathlib.Core.List.{List, ◌++◌}
use mathlib.Core.Path.{◌≡◌, ap, sym, ◌∙◌}
use Prim.Native.Nat.{ℕ, ◌<◌}
use lib.ListN.{length, get_or, get_or-append}
use Rattle.scalar.specs.F32.{at}
use Rattle.layers.specs.declared.LayerParams.{LayerParams}
use Rattle.layers.specs.declared.EsParams.{EsParams}
use Rattle.muf.specs.LentRecords.{no_es}
use Rattle.layers.specs.State.{no_layers}
use Rattle.statement_checks.specs.Points.{CountIsAll}

below : {A : Type 0} (l more rest : List A) (d : A) (k : ℕ) → k < length l → get_or (l ++ more) k d ≡ get_or (l ++ rest) k d
below l more rest d k h = get_or-append l more d k h ∙ sym (get_or-append l rest d k h)

pub count-is-all : CountIsAll
count-is-all =
    record {
      points = λ p more rest k h. (ap (λ (x : LayerParams). at x.fi 0) (below p more rest no_layers k h), ap (λ (x : LayerParams). at x.fi 2) (below p more rest no_layers k h));
      rows = λ e more rest k h. (ap (λ (x : EsParams). at x.fs 1) (below e more rest no_es k h), ap (λ (x : EsParams). x.hs) (below e more rest no_es k h));
    }
