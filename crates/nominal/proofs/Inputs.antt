-- Each of the three searches by induction over the points, then the whole.
use Rattle.muf.specs.Curmuf.{rewrite_by}
use Rattle.muf.specs.declared.sporadic.Rewrite.{Rewrite}
use Rattle.std.specs.Prelude.{Option, Some, None}
use mathlib.Core.List.{List, [], ◌∷◌}
use mathlib.Core.Path.{◌≡◌, refl, ap, ap₂, ◌∙◌}
use Prim.Native.Nat.{ℕ, zero, suc, ◌≤◌}
use native.Mathlib.Omega.{arith}
use lib.ListN.{get_or, set, take, length}
use Rattle.std.proofs.lemmas.List.{get_or-take, length-take-le}
use Rattle.layers.specs.State.{no_layers}
use lib.Ieee.{Float}
use Rattle.scalar.specs.F32.{at}
use Rattle.layers.specs.declared.LayerParams.{LayerParams}
use Rattle.layers.specs.declared.EsParams.{EsParams}
use Rattle.muf.specs.LentRecords.{no_es, lower_rewritten, records_by, records_answer_of, records_after_of}
use Rattle.nominal.specs.Factors.{ec_step, fmuf_of, f2_step}
use Rattle.nominal.specs.Nommuf.{ec_of, f2muf_of, es_step, esmuf_of, nominal_of, nommuf_of}
use Rattle.nominal.specs.Inputs.{PointsAgree, RowAgrees, EsAgree, ReadsOnly, EsRewritten}

ec-same : (km : ℕ) (p q : List LayerParams) → PointsAgree km p q → ec_of p km ≡ ec_of q km
unfolding ec_of
ec-same zero p q h = refl
ec-same (suc km) p q h = ap₂ ec_step (ec-same km p q (λ k l. h k (omega arith))) (h km (omega arith)).0

f2-same : (km : ℕ) (p q : List LayerParams) (f2m3 : List Float) (flfc : Float) → PointsAgree km p q → f2muf_of p f2m3 flfc km ≡ f2muf_of q f2m3 flfc km
unfolding f2muf_of
f2-same zero p q f2m3 flfc h = refl
f2-same (suc km) p q f2m3 flfc h = ap₂ f2_step (f2-same km p q f2m3 flfc (λ k l. h k (omega arith))) (ap (λ (x : Float). fmuf_of x (at f2m3 km) flfc) (h km (omega arith)).1)

row_same : (d e : EsParams) (esmuf gcd gcdkm : Float) → RowAgrees d e → es_step esmuf d gcd gcdkm ≡ es_step esmuf e gcd gcdkm
unfolding es_step
row_same d e esmuf gcd gcdkm h = rw (h.0, h.1)

es-same : (km : ℕ) (d e : List EsParams) (gcd gcdkm : Float) → EsAgree km d e → esmuf_of d gcd gcdkm km ≡ esmuf_of e gcd gcdkm km
unfolding esmuf_of
es-same zero d e gcd gcdkm h = refl
es-same (suc km) d e gcd gcdkm h =
    row_same (get_or d km no_es) (get_or e km no_es) (esmuf_of d gcd gcdkm km) gcd gcdkm (h km (omega arith))
    ∙ ap (λ (x : Float). es_step x (get_or e km no_es) gcd gcdkm) (es-same km d e gcd gcdkm (λ k l. h k (omega arith)))

pub reads_only : ReadsOnly
unfolding nommuf_of nominal_of
reads_only km p q f2m3 d e gcd gcdkm hp he = rw (ec-same km p q hp, f2-same km p q f2m3 _ hp, es-same km d e gcd gcdkm he)

-- the lists cut at the count, as the code lends them
pub front : (km : ℕ) (p : List LayerParams) (f2m3 : List Float) (d : List EsParams) (gcd gcdkm : Float) → km ≤ length p → nominal_of (take km p) f2m3 (take km d) (length (take km p)) gcd gcdkm ≡ nominal_of p f2m3 d km gcd gcdkm
unfolding nominal_of
front km p f2m3 d gcd gcdkm h =
    let points : PointsAgree km (take km p) p = λ k l. let e = get_or-take km p k no_layers l in (ap (λ (z : LayerParams). at z.fi 0) e, ap (λ (z : LayerParams). at z.fi 2) e) in
    let rows : EsAgree km (take km d) d = λ k l. let e = get_or-take km d k no_es l in (ap (λ (z : EsParams). at z.fs 1) e, ap (λ (z : EsParams). z.hs) e) in
    rw (length-take-le km p h, ec-same km (take km p) p points, f2-same km (take km p) p f2m3 _ points, es-same km (take km d) d gcd gcdkm rows)

-- ---- a lower decile rewritten

median-kept : (fs : List Float) (lower : Float) → at (set fs 0 lower) 1 ≡ at fs 1
median-kept [] lower = refl
median-kept (x ∷ fs) lower = refl

set-row : (es : List EsParams) (i : ℕ) (lower : Float) (k : ℕ) → RowAgrees (get_or (set es i (lower_rewritten (get_or es i no_es) lower)) k no_es) (get_or es k no_es)
set-row [] i lower k = (refl, refl)
set-row (e ∷ es) zero lower zero = (median-kept e.fs lower, refl)
set-row (e ∷ es) zero lower (suc k) = (refl, refl)
set-row (e ∷ es) (suc i) lower zero = (refl, refl)
set-row (e ∷ es) (suc i) lower (suc k) = set-row es i lower k

rows-kept : (w : Option Rewrite) (es : List EsParams) (k : ℕ) → RowAgrees (get_or (records_by w es) k no_es) (get_or es k no_es)
rows-kept (Some w) es k = set-row es w.ksx w.lower k
rows-kept None es k = (refl, refl)

pub es-rewritten : EsRewritten
es-rewritten s es f2d clat clck c points f2m3 km gcd gcdkm =
    reads_only km points points f2m3 (records_after_of s es f2d clat clck c) es gcd gcdkm (λ k l. (refl, refl)) (λ k l. rows-kept (rewrite_by (records_answer_of s es f2d clat clck c)) es k)
