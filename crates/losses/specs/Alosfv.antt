-- `alosfv`: a factor of deviative loss for each of slot k's thirty rows. A layer's own rows have zero up to the true height at its MUF; the two rows of a cusp between layers have one at any height.
use Rattle.std.specs.Prelude.{Bool, true, false, Result, Ok, Err, List, ℕ, zero, suc, ◌+◌, ◌*◌, leb, set, Float}
use Rattle.scalar.specs.F32.{◌-f◌, ◌*f◌, ◌/f◌, ◌<f◌, ◌≤f◌, negf, at}
use Rattle.scalar.specs.Literals.{f0, f0_05, f0_1, f0_2, f0_5, f2, f10}
use Rattle.scalar.specs.Scalar.{max_of}
use Rattle.exponential.specs.Exp.{exp_of}
use Rattle.refusal.specs.declared.Refusal.{Refusal}
use Rattle.layers.specs.State.{layer_line_at}
use Rattle.layers.specs.declared.IonoState.{IonoState}
use Rattle.layers.specs.declared.LayerMuf.{LayerMuf}
use Rattle.reflectrix.specs.declared.Ionogram.{Ionogram}
use Rattle.losses.specs.declared.Factors.{Factors}
use Rattle.losses.specs.declared.Decay.{Decay}
use Rattle.losses.specs.declared.Loss.{Loss}

-- a * e ^ zexp, with zexp = -2 * (htrue - hz) / y, and at least -10
unfoldable pub decay_of : Float → Decay → Float → Float
decay_of a d htrue =
    let zexp = max_of (negf f2 *f (htrue -f d.hz) /f d.y) (negf f10) in
    a *f exp_of zexp

-- c * (hprim - htrue - hm)
unfoldable pub factor_of : Float → Float → Float → Float → Float
factor_of c htrue hprim hm = c *f (hprim -f htrue -f hm)

unfoldable pub loss_stored : Factors → ℕ → Loss → Factors
loss_stored f ih r = record { cf = r.cf; afac = set f.afac ih r.a }

-- the virtual height's excess at the layer's MUF
abbrev pub excess : LayerMuf → Float
excess l = l.hpmuf -f l.htmuf

-- ---- E layer: rows 0 to 9, of which cf keeps the last constant worked out

abbrev pub e_loss_by : Bool → Float → Float → Float → Float → Decay → Loss
e_loss_by true cf htrue hprim hm d = record { cf = cf; a = f0 }
e_loss_by false cf htrue hprim hm d =
    let c = decay_of f0_2 d htrue in
    record { cf = c; a = factor_of c htrue hprim hm }

unfoldable pub e_loss : Float → Float → Float → Float → Float → Decay → Loss
e_loss cf htrue hprim htmuf hm d = e_loss_by (htrue -f htmuf ≤f f0) cf htrue hprim hm d

abbrev pub e_row : Factors → Ionogram → LayerMuf → Decay → ℕ → Factors
e_row f ion l d ih = loss_stored f ih (e_loss f.cf (at ion.htrue ih) (at ion.hprim ih) l.htmuf (excess l) d)

unfoldable pub e_rows : Factors → Ionogram → LayerMuf → Decay → ℕ → Factors
e_rows f ion l d zero = f
e_rows f ion l d (suc n) = e_row (e_rows f ion l d n) ion l d n

-- ---- a cusp: two rows from `ih`, whose constant starts from that of the rows below, and a zero row after them

unfoldable pub cusp_loss : Float → Float → Float → Decay → Float → Loss
cusp_loss a htrue hprim d hm =
    let c = max_of (decay_of a d htrue) f0_05 in
    record { cf = c; a = factor_of c htrue hprim hm }

abbrev pub cusp_row : Factors → Ionogram → Float → Decay → Float → ℕ → Factors
cusp_row f ion a d hm ih = loss_stored f ih (cusp_loss a (at ion.htrue ih) (at ion.hprim ih) d hm)

unfoldable pub cusp_of : Factors → Ionogram → Decay → ℕ → Factors
cusp_of f ion d ih =
    let a = f.cf in
    let hm = at ion.hprim (ih + 2) -f at ion.htrue (ih + 2) in
    let g = cusp_row (cusp_row f ion a d hm ih) ion a d hm (ih + 1) in
    loss_stored g (ih + 2) (record { cf = g.cf; a = f0 })

-- ---- the n rows of a layer from row `first` on: zero up to the height at its MUF; cf keeps the last constant worked out

abbrev pub tail_loss_by : Bool → Float → Float → Float → Float → Decay → Float → Loss
tail_loss_by true cf htrue hprim hm d floor = record { cf = cf; a = f0 }
tail_loss_by false cf htrue hprim hm d floor =
    let c = max_of (decay_of f0_1 d htrue) floor in
    record { cf = c; a = factor_of c htrue hprim hm }

unfoldable pub tail_loss : Float → Float → Float → Float → Float → Decay → Float → Loss
tail_loss cf htrue hprim htmuf hm d floor = tail_loss_by (htrue -f htmuf ≤f f0) cf htrue hprim hm d floor

abbrev pub tail_row : Factors → Ionogram → LayerMuf → Decay → Float → ℕ → Factors
tail_row f ion l d floor ih = loss_stored f ih (tail_loss f.cf (at ion.htrue ih) (at ion.hprim ih) l.htmuf (excess l) d floor)

unfoldable pub tail_rows : Factors → Ionogram → LayerMuf → Decay → Float → ℕ → ℕ → Factors
tail_rows f ion l d floor first zero = f
tail_rows f ion l d floor first (suc n) = tail_row (tail_rows f ion l d floor first n) ion l d floor (first + n)

-- ---- rows 10 to 29

-- F2 straight after E. The constant of its rows stays at 0.5 or more, where that of cusps and of other tails stays at 0.05 or more: so the Fortran has it
unfoldable pub without_f1 : Factors → Ionogram → LayerMuf → Float → Factors
without_f1 f ion f2l y2 =
    let d : Decay = record { hz = at ion.htrue 10; y = y2 } in
    tail_rows (cusp_of f ion d 10) ion f2l d f0_5 13 17

-- F1, then F2. The cusp between them takes the constant that was last worked out: that of an F1 row, or of the cusp under F1 if all F1 rows have zero
unfoldable pub with_f1 : Factors → Ionogram → LayerMuf → LayerMuf → Float → Float → Factors
with_f1 f ion f1l f2l y1 y2 =
    let d1 : Decay = record { hz = at ion.htrue 10; y = y1 } in
    let g = tail_rows (cusp_of f ion d1 10) ion f1l d1 f0_05 13 7 in
    let d2 : Decay = record { hz = at ion.htrue 20; y = y2 } in
    tail_rows (cusp_of g ion d2 20) ion f2l d2 f0_05 23 7

-- ---- the whole

abbrev pub above_by : Bool → Factors → IonoState → ℕ → Ionogram → List LayerMuf → Factors
above_by true f s k ion layers = without_f1 f ion (layer_line_at layers 2) (at s.yi (3 * k + 2))
above_by false f s k ion layers = with_f1 f ion (layer_line_at layers 1) (layer_line_at layers 2) (at s.yi (3 * k + 1)) (at s.yi (3 * k + 2))

unfoldable pub above_of : Factors → IonoState → ℕ → Ionogram → List LayerMuf → Factors
above_of f s k ion layers = above_by (at s.fi (3 * k + 1) ≤f f0) f s k ion layers

-- negative factors become zero, NaN stays
abbrev pub zero_if : Bool → Float → Float
zero_if true a = f0
zero_if false a = a

unfoldable pub not_below_zero : Float → Float
not_below_zero a = zero_if (a <f f0) a

unfoldable pub not_below_zeros : List Float → ℕ → List Float
not_below_zeros l zero = l
not_below_zeros l (suc n) = set (not_below_zeros l n) n (not_below_zero (at (not_below_zeros l n) n))

unfoldable pub with_afac : Ionogram → List Float → Ionogram
with_afac ion afac = record { fvert = ion.fvert; hprim = ion.hprim; htrue = ion.htrue; afac = afac; segment = ion.segment }

unfoldable pub alosfv_of : IonoState → ℕ → Ionogram → List LayerMuf → Ionogram
alosfv_of s k ion layers =
    let d : Decay = record { hz = at s.hi (3 * k) -f at s.yi (3 * k); y = at s.yi (3 * k) } in
    let start : Factors = record { cf = f0; afac = ion.afac } in
    let f = above_of (e_rows start ion (layer_line_at layers 0) d 10) s k ion layers in
    with_afac ion (not_below_zeros f.afac 30)

-- a slot number above 2 is refused
abbrev pub answered_by : Bool → IonoState → ℕ → Ionogram → List LayerMuf → Result Ionogram Refusal
answered_by true s k ion layers = Ok (alosfv_of s k ion layers)
answered_by false s k ion layers = Err Refusal.SlotNumber

unfoldable pub alosfv_answer : IonoState → ℕ → Ionogram → List LayerMuf → Result Ionogram Refusal
alosfv_answer s k ion layers = answered_by (leb k 2) s k ion layers
