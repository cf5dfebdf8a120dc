-- `ionset`: the points' layers assigned to one, two or three slots, then made to agree slot by slot; the profile, which is not these slots', is nobody's, unless it is supplied. The paper's refusal: 5 where the point count is not 1 to 5.
use Rattle.std.specs.Prelude.{Bool, true, false, ℕ, zero, suc, ◌+◌, ◌*◌, leb, set, Result, Ok, Err}
use Rattle.scalar.specs.F32.{◌-f◌, ◌>f◌, at}
use Rattle.scalar.specs.Literals.{f0, f2}
use Rattle.scalar.specs.Scalar.{min_of}
use Rattle.refusal.specs.declared.Refusal.{Refusal}
use Rattle.layers.specs.State.{with_tables, with_kfx}
use Rattle.layers.specs.Owners.{disowned}
use Rattle.layers.specs.FromLayers.{count_taken}
use Rattle.layers.specs.declared.IonoState.{IonoState}
unfoldable pub use Rattle.layers.specs.Rules.{too_close}

-- layer i of slot k from point p: `s.fi[k][i] = s.fi[p][i]`, and so for yi and hi
unfoldable pub layer_from : IonoState → ℕ → ℕ → ℕ → IonoState
layer_from s k p i =
    with_tables s
    (set s.fi (3 * k + i) (at s.fi (3 * p + i)))
    (set s.yi (3 * k + i) (at s.yi (3 * p + i)))
    (set s.hi (3 * k + i) (at s.hi (3 * p + i)))

-- two slots: point 1, whose F2 slot 1 has already, gives it to slot 0 too; point 2 gives slot 1 the layers below
unfoldable pub two_slots : IonoState → IonoState
two_slots s =
    let s1 = layer_from (with_kfx s 2) 0 1 2 in
    let s2 = layer_from s1 1 2 0 in
    layer_from s2 1 2 1

-- three slots: points 1, 2, 3 give them their F2, points 0, 2, 4 the layers below
unfoldable pub three_slots : IonoState → IonoState
three_slots s =
    let s1 = layer_from (with_kfx s 3) 0 1 2 in
    let s2 = layer_from s1 1 2 0 in
    let s3 = layer_from s2 1 2 1 in
    let s4 = layer_from s3 1 2 2 in
    let s5 = layer_from s4 2 4 0 in
    let s6 = layer_from s5 2 4 1 in
    layer_from s6 2 3 2

-- by `km <= 1` and `km <= 3`
abbrev pub assigned_by : Bool → Bool → IonoState → IonoState
assigned_by true _ s = with_kfx s 1
assigned_by false true s = two_slots s
assigned_by false false s = three_slots s

unfoldable pub assigned_of : IonoState → IonoState
assigned_of s = assigned_by (leb s.km 1) (leb s.km 3) s

-- dropped: all three numbers 0; kept: not above F2
abbrev pub f1_kept_by : Bool → IonoState → ℕ → IonoState
f1_kept_by true s k = with_tables s (set s.fi (3 * k + 1) f0) (set s.yi (3 * k + 1) f0) (set s.hi (3 * k + 1) f0)
f1_kept_by false s k = with_tables s s.fi s.yi (set s.hi (3 * k + 1) (min_of (at s.hi (3 * k + 1)) (at s.hi (3 * k + 2))))

abbrev pub f1_by : Bool → IonoState → ℕ → IonoState
f1_by true s k = f1_kept_by (too_close (at s.fi (3 * k)) (at s.fi (3 * k + 1)) (at s.fi (3 * k + 2))) s k
f1_by false s k = s

-- only an F1 above 0 is looked at: a NaN stays
unfoldable pub f1_settled : IonoState → ℕ → IonoState
f1_settled s k = f1_by (at s.fi (3 * k + 1) >f f0) s k

-- the F2 semi-thickness: at most hi(F2) - hi(E) - 2
unfoldable pub f2_settled : IonoState → ℕ → IonoState
f2_settled s k =
    let hdif = at s.hi (3 * k + 2) -f at s.hi (3 * k) -f f2 in
    with_tables s s.fi (set s.yi (3 * k + 2) (min_of (at s.yi (3 * k + 2)) hdif)) s.hi

unfoldable pub slot_settled : IonoState → ℕ → IonoState
slot_settled s k = f2_settled (f1_settled s k) k

-- the slots below n, one after the other
unfoldable pub slots_settled : IonoState → ℕ → IonoState
slots_settled s zero = s
slots_settled s (suc n) = slot_settled (slots_settled s n) n

abbrev pub ionset_by : Bool → IonoState → Result IonoState Refusal
ionset_by true s =
    let t = assigned_of s in
    Ok (disowned (slots_settled t t.kfx))
ionset_by false s = Err Refusal.PointCount

unfoldable pub ionset_of : IonoState → Result IonoState Refusal
ionset_of s = ionset_by (count_taken s.km) s
