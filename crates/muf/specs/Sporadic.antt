-- The sporadic E section of `curmuf`: of the rows that reflect, the one with the lowest MUF controls.
use Rattle.refusal.specs.declared.Refusal.{Refusal}
use Rattle.std.specs.Prelude.{Bool, true, false, List, [], ◌∷◌, replicate, ℕ, zero, suc, ◌+◌, ◌*◌, ◌<◌, ◌≡◌, Float, Some, None, Result, Ok, Err}
use Rattle.scalar.specs.F32.{◌+f◌, ◌-f◌, ◌*f◌, ◌/f◌, ◌≤f◌, ◌<f◌, ◌>f◌, ◌≥f◌, at}
use Rattle.scalar.specs.Literals.{f0, f0_1, f0_5, f1, f1_28, f2, f3_1, f1000}
use Rattle.scalar.specs.Scalar.{min_of}
use Rattle.scalar.specs.Root.{sqrt_of}
use Rattle.waves.specs.SinCos.{sin_of, cos_of}
use Rattle.arcs.specs.Atan.{atan_of}
use Rattle.constants.specs.Constants.{RZ}
use Rattle.hops.specs.Geometry.{hops_of}
use Rattle.layer_mufs.specs.LayerLine.{layer_line_of, zero_line}
use Rattle.layers.specs.declared.EsParams.{EsParams}
use Rattle.layer_mufs.specs.declared.PathNumbers.{PathNumbers}
use Rattle.muf.specs.declared.sporadic.EsRay.{EsRay}
use Rattle.muf.specs.declared.sporadic.EsSearch.{EsSearch}
use Rattle.muf.specs.declared.sporadic.EsLine.{EsLine}

-- half the angle of a hop at the Earth's centre
abbrev pub es_psi : Float → Float → Float
es_psi gcd hop = f0_5 *f gcd /f hop

unfoldable pub ray_of : Float → Float → Float → EsRay
ray_of hs hop gcd =
    let psi = es_psi gcd hop in
    let tdel = (cos_of psi -f RZ /f (RZ +f hs)) /f sin_of psi in
    let cdel = f1 /f sqrt_of (f1 +f tdel *f tdel) in
    let sphe = RZ *f cdel /f (RZ +f hs) in
    let secp = f1 /f sqrt_of (f1 -f sphe *f sphe) in
    record { tdel = tdel; secp = secp }

-- esmuf - esd > 0: row k has the lowest MUF so far. The hop count is kept either way.
abbrev pub taken_by : Bool → EsSearch → ℕ → EsParams → EsRay → Float → Float → EsSearch
taken_by true a k row ray hop esd =
    record { esmuf = esd; ksx = k; ray = ray; hop = hop; row = row }
taken_by false a k row ray hop esd =
    record { esmuf = a.esmuf; ksx = a.ksx; ray = a.ray; hop = hop; row = a.row }

unfoldable pub taken_of : EsSearch → ℕ → EsParams → EsRay → Float → EsSearch
taken_of a k row ray hop = let esd = at row.fs 1 *f ray.secp in taken_by (a.esmuf -f esd >f f0) a k row ray hop esd

abbrev pub hop_by : Result Float Refusal → EsSearch → ℕ → EsParams → PathNumbers → Result EsSearch Refusal
hop_by (Ok hop) a k row c = Ok (taken_of a k row (ray_of row.hs hop c.gcd) hop)
hop_by (Err r) a k row c = Err r

-- fs[1] <= 0: the row is passed over
abbrev pub row_by : Bool → EsSearch → ℕ → EsParams → PathNumbers → Result EsSearch Refusal
row_by true a k row c = Ok a
row_by false a k row c = hop_by (hops_of c.gcdkm c.amind row.hs) a k row c

unfoldable pub es_row_of : EsSearch → ℕ → EsParams → PathNumbers → Result EsSearch Refusal
es_row_of a k row c = row_by (at row.fs 1 ≤f f0) a k row c

-- no row, no ray
abbrev pub no_row : EsParams
no_row = record { fs = replicate 3 f0; hs = f0 }

abbrev pub no_ray : EsRay
no_ray = record { tdel = f0; secp = f0 }

unfoldable pub start_of : EsSearch
start_of = record { esmuf = f1000; ksx = 0; ray = no_ray; hop = f0; row = no_row }

-- the search, of +0 beside a refusal
abbrev pub no_search : EsSearch
no_search = record { esmuf = f0; ksx = 0; ray = no_ray; hop = f0; row = no_row }

abbrev pub search_value : Result EsSearch Refusal → EsSearch
search_value (Ok a) = a
search_value (Err r) = no_search

-- row k of a flat list
abbrev pub row_at : List Float → ℕ → EsParams
row_at es k = record { fs = at es (4 * k) ∷ at es (4 * k + 1) ∷ at es (4 * k + 2) ∷ []; hs = at es (4 * k + 3) }

-- what a reader gives for each of the first n rows is the row of `rows`
abbrev pub Reads : (ℕ → EsParams → Type 0) → ℕ → (ℕ → EsParams) → Type 0
Reads gives n rows = (k : ℕ) (row : EsParams) → k < n → gives k row → row ≡ rows k

abbrev pub next_by : Result EsSearch Refusal → (EsSearch → Result EsSearch Refusal) → Result EsSearch Refusal
next_by (Ok b) rest = rest b
next_by (Err r) rest = Err r

-- n rows from row k on, in order
unfoldable pub es_from : (ℕ → EsParams) → PathNumbers → ℕ → ℕ → EsSearch → Result EsSearch Refusal
es_from row c zero k a = Ok a
es_from row c (suc n) k a = next_by (es_row_of a k (row k) c) (λ b. es_from row c n (k + 1) b)

-- xes + zdif < 0, xes - zdif < 0
abbrev pub sigl4_by : Bool → Bool → Float → Float → Float → Float
sigl4_by true below xes sigb sigu4 = sigb
sigl4_by false true xes sigb sigu4 = let zdif = f0_1 in sigb +f (xes +f zdif) /f (f2 *f zdif) *f (sigu4 -f sigb)
sigl4_by false false xes sigb sigu4 = sigu4

unfoldable pub sigl4_of : Float → Float → Float → Float
sigl4_of xes sigb sigu4 = let zdif = f0_1 in sigl4_by (xes +f zdif <f f0) (xes -f zdif <f f0) xes sigb sigu4

-- fe is the Rust's s.fi[ks][0]; `rewrite` is what it writes to es[ksx].fs[0]
unfoldable pub es_found_of : EsSearch → Float → EsLine
es_found_of a fe =
    let sigu4 = (at a.row.fs 2 -f at a.row.fs 1) /f f1_28 in
    let sigb = (at a.row.fs 1 -f at a.row.fs 0) /f f1_28 in
    let fzero = f0_1 in
    let sigz = (at a.row.fs 1 -f fzero) /f f3_1 in
    let xes = fe -f at a.row.fs 0 in
    let sigl4 = min_of (sigl4_of xes sigb sigu4) sigz in
    record {
      line = layer_line_of (sigl4 *f a.ray.secp) (sigu4 *f a.ray.secp) (atan_of a.ray.tdel) a.row.hs a.row.hs (at a.row.fs 1) a.hop a.esmuf;
      rewrite = Some (record { ksx = a.ksx; lower = at a.row.fs 1 -f f1_28 *f sigl4 });
    }

-- esmuf - 1000 >= 0, the start's MUF: no row controls
abbrev pub es_line_by : Bool → EsSearch → Float → EsLine
es_line_by true a fe = record { line = zero_line; rewrite = None }
es_line_by false a fe = es_found_of a fe

unfoldable pub es_line_of : EsSearch → Float → EsLine
es_line_of a fe = es_line_by (a.esmuf -f f1000 ≥f f0) a fe
