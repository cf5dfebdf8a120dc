-- What a nominal MUF reads of its points and Es rows: below the count the critical frequencies of E and F2, and of the Es rows
-- the medians and the heights. So it answers the same of Es rows before and after a circuit MUF, which rewrites a lower decile.
use Rattle.std.specs.Prelude.{List, ◌≡◌, ℕ, ◌<◌, get_or, Float}
use Rattle.scalar.specs.F32.{at}
use Rattle.layers.specs.declared.IonoState.{IonoState}
use Rattle.layers.specs.declared.LayerParams.{LayerParams}
use Rattle.layers.specs.declared.EsParams.{EsParams}
use Rattle.layer_mufs.specs.declared.PathNumbers.{PathNumbers}
use Rattle.muf.specs.LentRecords.{no_es, records_after_of}
use Rattle.nominal.specs.Nommuf.{fi_at, nommuf_of}

abbrev pub PointsAgree : ℕ → List LayerParams → List LayerParams → Type 0
PointsAgree km p q = (k : ℕ) → k < km → (fi_at p k 0 ≡ fi_at q k 0) × (fi_at p k 2 ≡ fi_at q k 2)

abbrev pub RowAgrees : EsParams → EsParams → Type 0
RowAgrees e f = (at e.fs 1 ≡ at f.fs 1) × (e.hs ≡ f.hs)

abbrev pub EsAgree : ℕ → List EsParams → List EsParams → Type 0
EsAgree km d e = (k : ℕ) → k < km → RowAgrees (get_or d k no_es) (get_or e k no_es)

abbrev pub ReadsOnly : Type 0
ReadsOnly =
    (km : ℕ) (p q : List LayerParams) (f2m3 : List Float) (d e : List EsParams) (gcd gcdkm : Float)
    → PointsAgree km p q → EsAgree km d e → nommuf_of p f2m3 d km gcd gcdkm ≡ nommuf_of q f2m3 e km gcd gcdkm

-- the records that `curmuf_records` leaves
abbrev pub EsRewritten : Type 0
EsRewritten =
    (s : IonoState) (es : List EsParams) (f2d clat clck : List Float) (c : PathNumbers) (points : List LayerParams) (f2m3 : List Float) (km : ℕ) (gcd gcdkm : Float)
    → nommuf_of points f2m3 (records_after_of s es f2d clat clck c) km gcd gcdkm ≡ nommuf_of points f2m3 es km gcd gcdkm
