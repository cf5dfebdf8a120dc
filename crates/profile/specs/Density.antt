-- The plasma frequency squared at a height: the largest of five shapes, each 0 outside its own range.
use Rattle.std.specs.Prelude.{cond, ◌&&◌, Float}
use Rattle.scalar.specs.F32.{◌+f◌, ◌-f◌, ◌*f◌, ◌/f◌, ◌<f◌, ◌≤f◌, ◌>f◌, ◌≥f◌}
use Rattle.scalar.specs.Literals.{f0, f1, f70}
use Rattle.scalar.specs.Scalar.{max_of}
use Rattle.exponential.specs.Exp.{exp_of}
use Rattle.profile.specs.declared.shape_densities.Curves.{Curves}
use Rattle.profile.specs.declared.shape_densities.Candidates.{Candidates}

-- the valley's line
unfoldable pub fnval_of : Curves → Float → Float
fnval_of c h = cond ((h -f c.hlow >f f0) && (h -f c.hup <f f0)) (c.fup +f c.asp *f (h -f c.hup)) f0

-- a parabolic layer of critical frequency squared fc, height hi and semi-thickness yi
unfoldable pub parabola_of : Float → Float → Float → Float → Float
parabola_of fc hi yi h =
    let z = (h -f hi) /f yi in
    fc *f (f1 -f z *f z)

-- E's parabola
unfoldable pub fne_of : Curves → Float → Float
fne_of c h = cond ((h -f c.hex ≥f f0) && (h -f c.hte ≤f f0)) (parabola_of c.fce c.hi0 c.yi0 h) f0

-- the tail under E: where `h - hex >= 0.0` is not. The Rust has it once more, where `h - hex < 0.0` within `h - hex >= 0.0`: `never_both` shows that nothing comes there.
unfoldable pub fnd_of : Curves → Float → Float
fnd_of c h = cond (h -f c.hex ≥f f0) f0 (c.fce *f c.fsq *f exp_of (c.alp *f (h -f f70)))

-- F1, a line or a parabola
unfoldable pub fn1_of : Curves → Float → Float
fn1_of c h =
    cond ((c.fi1 >f f0) && ((c.hb1 -f h ≤f f0) && (h -f c.ht1 ≤f f0)))
    (cond c.lin (c.s1 *f (h -f (c.hi1 -f c.yi1))) (parabola_of c.fc1 c.hi1 c.yi1 h))
    f0

-- F2's parabola
unfoldable pub fn2_of : Curves → Float → Float
fn2_of c h = cond (c.hb2v -f h ≤f f0) (parabola_of c.fc2 c.hi2 c.yi2 h) f0

-- the five at a height, the tail's density there given
abbrev pub candidates_by : Float → Curves → Float → Candidates
candidates_by fnd c h = record { fnd = fnd; fne = fne_of c h; fnval = fnval_of c h; fn1 = fn1_of c h; fn2 = fn2_of c h }

unfoldable pub candidates_of : Curves → Float → Candidates
candidates_of c h = candidates_by (fnd_of c h) c h

-- `fnd.max(fne).max(fnval).max(fn1).max(fn2)`
unfoldable pub largest_of : Candidates → Float
largest_of c = max_of (max_of (max_of (max_of c.fnd c.fne) c.fnval) c.fn1) c.fn2

unfoldable pub density_of : Curves → Float → Float
density_of c h = largest_of (candidates_of c h)
