-- The valley between a slot's E and F2, and its F1 reshaped: the first part of `lecden`, with the Rust's names for its locals. `fi0` is its `s.fi[k][0]`, and so on.
use Rattle.std.specs.Prelude.{true, false, cond, Float}
use Rattle.scalar.specs.F32.{◌+f◌, ◌-f◌, ◌*f◌, ◌/f◌, ◌<f◌, ◌>f◌, ◌≥f◌, negf}
use Rattle.scalar.specs.Literals.{f0, f0_001, f0_17, f0_8516, f0_98, f1}
use Rattle.scalar.specs.Scalar.{min_of, max_of}
use Rattle.scalar.specs.Root.{sqrt_of}
use Rattle.profile.specs.declared.slot_curves.Slot.{Slot}
use Rattle.profile.specs.declared.slot_curves.Valley.{Valley}
use Rattle.profile.specs.declared.slot_curves.F1Shape.{F1Shape}

unfoldable pub asp_of : Float → Float → Float → Float → Float
asp_of fup flow hup hlow = cond (hup -f hlow >f f0) ((fup -f flow) /f (hup -f hlow)) f0

-- a straight line from hlow, where E is down to 0.8516 of its critical frequency, to hup, where F2 reaches 0.98 of that
unfoldable pub valley_of : Slot → Valley
valley_of s =
    let xlow = f0_8516 in
    let hz = s.hi0 -f s.yi0 in
    let xup = f0_98 *f s.fi0 /f s.fi2 in
    let hlow = hz +f s.yi0 *f (f1 +f sqrt_of (f1 -f xlow *f xlow)) in
    let hte = s.hi0 +f s.yi0 in
    let hb2 = s.hi2 -f s.yi2 in
    let fce = s.fi0 *f s.fi0 in
    let fc2 = s.fi2 *f s.fi2 in
    let hup = hb2 +f s.yi2 *f (f1 -f sqrt_of (f1 -f xup *f xup)) in
    let fup = xup *f xup *f fc2 in
    let flow = xlow *f xlow *f fce in
    let asp = asp_of fup flow hup hlow in
    record { hlow = hlow; hte = hte; hb2 = hb2; fce = fce; fc2 = fc2; hup = hup; fup = fup; flow = flow; asp = asp }

-- F1 reshaped, test by test as in the Rust. F2 reaches F1's critical frequency at htw. Above F1's peak: F1 stays, but starts at most 1 km under E's peak. Else its peak is moved to htw, and it is brought down to start where F2 does if it would start above that; else it is a line from its old foot, or, where that would start so low as to cover E, one through E's peak.
unfoldable pub f1_of : Slot → Valley → F1Shape
f1_of s v =
    let fc1 = s.fi1 *f s.fi1 in
    let hb1 = s.hi1 -f s.yi1 in
    let ht1 = s.hi1 +f s.yi1 in
    let htw = v.hb2 +f s.yi2 *f (f1 -f sqrt_of (f1 -f fc1 /f v.fc2)) in
    let ys = max_of (htw -f hb1) f1 in
    let ratio = s.fi0 /f s.fi1 in
    let denom = max_of (f1 -f ratio *f ratio) f0_17 in
    let yb = (htw -f s.hi0) /f denom in
    cond (s.fi1 >f f0)
    (cond (htw >f s.hi1 +f f0_001)
    (record { lin = false; fc1 = fc1; ht1 = ht1; s1 = f0; hi1 = s.hi1; yi1 = min_of s.yi1 (s.hi1 -f s.hi0 +f f1); fsec = negf f1 })
    (cond (v.hb2 -f hb1 <f f0)
    (record { lin = false; fc1 = fc1; ht1 = ht1; s1 = fc1 /f ys; hi1 = htw; yi1 = min_of (htw -f v.hb2) (htw -f s.hi0 +f f1); fsec = negf f1 })
    (cond (ys -f yb ≥f f0)
    (record { lin = true; fc1 = fc1; ht1 = htw; s1 = fc1 /f yb; hi1 = htw; yi1 = yb; fsec = sqrt_of v.flow })
    (record { lin = true; fc1 = fc1; ht1 = htw; s1 = fc1 /f ys; hi1 = htw; yi1 = ys; fsec = sqrt_of v.flow }))))
    (record { lin = false; fc1 = f0; ht1 = f0; s1 = f0; hi1 = s.hi1; yi1 = s.yi1; fsec = s.fsec })

-- the slot as it stands after the reshaping
unfoldable pub reshaped_of : Slot → F1Shape → Slot
reshaped_of s f =
    record { fi0 = s.fi0; fi1 = s.fi1; fi2 = s.fi2; yi0 = s.yi0; yi1 = f.yi1; yi2 = s.yi2; hi0 = s.hi0; hi1 = f.hi1; hi2 = s.hi2; fsec = f.fsec }
