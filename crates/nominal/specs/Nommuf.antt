-- `nommuf` of the Rust: the MUF by the map's M(3000)F2 instead of a profile. The paper's refusals: 5 where the point count is
-- not 1 to 5 or the F2M3s are not as many, then 9 where gcdkm or gcd is outside the MUF's domain. The points' numbers are read
-- as given, not as `ionset` makes slots of them.
use Rattle.std.specs.Prelude.{Bool, cond, ◌&&◌, List, [], ◌∷◌, ℕ, zero, suc, pos, length, get_or, Float, Result, Ok, Err}
use Rattle.scalar.specs.F32.{◌+f◌, ◌*f◌, ◌/f◌, ◌≤f◌, ◌>f◌, negf, at}
use Rattle.scalar.specs.Literals.{f0, f0_85, f1, f6_3, f1000, f40100}
use Rattle.scalar.specs.Scalar.{max_of}
use Rattle.scalar.specs.Root.{sqrt_of}
use Rattle.refusal.specs.declared.Refusal.{Refusal}
use Rattle.layers.specs.State.{no_layers}
use Rattle.layers.specs.declared.LayerParams.{LayerParams}
use Rattle.layers.specs.declared.EsParams.{EsParams}
use Rattle.layer_mufs.specs.LayerLine.{zero_line}
use Rattle.muf.specs.Sporadic.{ray_of}
use Rattle.muf.specs.Domain.{within_of}
use Rattle.muf.specs.declared.MufHour.{MufHour}
use Rattle.muf.specs.LentRecords.{no_es}
use Rattle.nominal.specs.FactorLiterals.{f0_0062137, f1_15, f4_871, f225}
use Rattle.nominal.specs.Factors.{elfc_of, flfc_of, ec_step, fmuf_of, f2_step, allmuf_of, counts_agree}

-- fi[k][i] of the Rust
abbrev pub fi_at : List LayerParams → ℕ → ℕ → Float
fi_at points k i = at (get_or points k no_layers).fi i

-- the lowest critical frequency of E over the first km points, 1000 at the start
unfoldable pub ec_of : List LayerParams → ℕ → Float
ec_of points zero = f1000
ec_of points (suc k) = ec_step (ec_of points k) (fi_at points k 0)

-- the lowest MUF of F2, of the critical frequency and the F2M3 of each point
unfoldable pub f2muf_of : List LayerParams → List Float → Float → ℕ → Float
f2muf_of points f2m3 flfc zero = f1000
f2muf_of points f2m3 flfc (suc k) = f2_step (f2muf_of points f2m3 flfc k) (fmuf_of (fi_at points k 2) (at f2m3 k) flfc)

-- Es: the hops to a row at height hs, as the float that the ray takes
unfoldable pub hop_of : Float → Float → Float
hop_of gcdkm hs =
    let dmax = f225 *f sqrt_of hs in
    gcdkm /f dmax +f f1

-- a row whose median is at most 0 is passed over; psi, tdel, cdel, sphe and secp are those of `ray_of`, which the MUF's rows
-- have too
unfoldable pub es_step : Float → EsParams → Float → Float → Float
es_step esmuf row gcd gcdkm =
    let fs1 = at row.fs 1 in
    let hop = hop_of gcdkm row.hs in
    let esd = fs1 *f (ray_of row.hs hop gcd).secp in
    cond (fs1 ≤f f0) esmuf (cond (esmuf >f esd) esd esmuf)

-- the lowest MUF of the first km rows, 1000 where no row reflects
unfoldable pub esmuf_of : List EsParams → Float → Float → ℕ → Float
esmuf_of es gcd gcdkm zero = f1000
esmuf_of es gcd gcdkm (suc k) = es_step (esmuf_of es gcd gcdkm k) (get_or es k no_es) gcd gcdkm

-- no F1 on this path, no angle, no mode, no line, no slot
unfoldable pub nominal_of : List LayerParams → List Float → List EsParams → ℕ → Float → Float → MufHour
nominal_of points f2m3 es km gcd gcdkm =
    let arc = gcdkm *f f0_0062137 in
    let elfc = elfc_of arc in
    let flfc = flfc_of arc in
    let ec = ec_of points km in
    let emuf = f4_871 *f ec *f elfc in
    let f2muf = f2muf_of points f2m3 flfc km in
    let allmuf = allmuf_of emuf f2muf in
    let fot = max_of (f0_85 *f f2muf) emuf in
    let hpf = max_of (f1_15 *f f2muf) emuf in
    let esmuf = esmuf_of es gcd gcdkm km in
    record {
      emuf = emuf;
      f1muf = negf f1;
      f2muf = f2muf;
      esmuf = esmuf;
      allmuf = allmuf;
      fot = fot;
      hpf = hpf;
      angmuf = f0;
      modmuf = pos 0;
      layers = zero_line ∷ zero_line ∷ zero_line ∷ zero_line ∷ [];
      ks = 0;
    }

-- 9: the domain of the MUF, which has amind besides
unfoldable pub path_taken : Float → Float → Bool
path_taken gcd gcdkm = within_of gcdkm f40100 && within_of gcd f6_3

unfoldable pub nommuf_of : List LayerParams → List Float → List EsParams → ℕ → Float → Float → Result MufHour Refusal
nommuf_of points f2m3 es km gcd gcdkm =
    cond (counts_agree km (length f2m3))
    (cond (path_taken gcd gcdkm)
    (Ok (nominal_of points f2m3 es km gcd gcdkm))
    (Err Refusal.MufInput))
    (Err Refusal.PointCount)
