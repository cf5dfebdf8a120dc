-- A nominal MUF in a list of calls: it may stand before, between or after the others, in any list, on any state, with any way of finding heights. The state comes through it as it was, it answers as alone, and every other call answers as if it were not there.
use Rattle.std.specs.Prelude.{List, ◌∷◌, ◌++◌, ◌≡◌, ℕ, Float}
use Rattle.layers.specs.declared.IonoState.{IonoState}
use Rattle.layers.specs.declared.LayerParams.{LayerParams}
use Rattle.layers.specs.declared.EsParams.{EsParams}
use Rattle.heights.specs.Gethp.{Finder}
use Rattle.nominal.specs.Nommuf.{nommuf_of}
use Rattle.call_lists.specs.Calls.{Call, a_nominal, of_nominal}
use Rattle.call_lists.specs.Lists.{run_with, answers_with}

abbrev pub NominalAnywhere : Type 0
NominalAnywhere =
    (find : Finder) (s : IonoState) (before after : List Call) (points : List LayerParams) (f2m3 : List Float) (es : List EsParams) (km : ℕ) (gcd gcdkm : Float)
    → (run_with find s (before ++ a_nominal points f2m3 es km gcd gcdkm ∷ after) ≡ run_with find s (before ++ after))
    × (answers_with find s (before ++ a_nominal points f2m3 es km gcd gcdkm ∷ after)
    ≡ answers_with find s before ++ of_nominal (nommuf_of points f2m3 es km gcd gcdkm) ∷ answers_with find (run_with find s before) after)
    × (answers_with find s (before ++ after) ≡ answers_with find s before ++ answers_with find (run_with find s before) after)
