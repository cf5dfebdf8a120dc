-- The F2 and F1 sections of `curmuf`. t is the state as `lecden` of the controlling slot ks leaves it, l that slot of it; `find` is the way of finding heights off its profile.
use Rattle.refusal.specs.declared.Refusal.{Refusal}
use Rattle.std.specs.Prelude.{Bool, true, false, List, Float, Result, Ok, Err}
use Rattle.scalar.specs.F32.{◌+f◌, ◌-f◌, ◌*f◌, ◌≤f◌, ◌>f◌}
use Rattle.scalar.specs.Literals.{f0, f0_01, f0_9, f1, f1_1, f2}
use Rattle.scalar.specs.Scalar.{max_of}
use Rattle.scalar.specs.Root.{sqrt_of}
use Rattle.deciles.specs.F2dis.{f2dis_of}
use Rattle.hops.specs.Geometry.{geometry_of}
use Rattle.hops.specs.Rounds.{rounds_of}
use Rattle.hops.specs.declared.HopGeometry.{HopGeometry}
use Rattle.hops.specs.declared.Round.{Round}
use Rattle.parabolas.specs.Bendy.{bendy_at, pen_at}
use Rattle.heights.specs.Gethp.{Finder, gethp_of}
use Rattle.layers.specs.State.{profile_only}
use Rattle.layers.specs.declared.IonoState.{IonoState}
use Rattle.layers.specs.declared.LayerMuf.{LayerMuf}
use Rattle.profile.specs.declared.slot_curves.Slot.{Slot}
use Rattle.layer_mufs.specs.LayerLine.{tenth_of, layer_line_of, read_with}
use Rattle.layer_mufs.specs.declared.PathNumbers.{PathNumbers}
use Rattle.layer_mufs.specs.declared.tangents.F2Tangent.{F2Tangent}
use Rattle.layer_mufs.specs.declared.e_lines.HeightPair.{HeightPair}
use Rattle.layer_mufs.specs.declared.Deviations.{Deviations}

-- the F2 layer

unfoldable pub parabolic_of : Slot → F2Tangent → HeightPair
parabolic_of l x =
    record {
      hp = l.hi2 -f l.yi2 +f bendy_at l.fi2 l.yi2 x.fx2 +f (pen_at l.fi0 l.yi0 x.fx2 -f f2 *f l.yi0);
      ht = l.hi2 -f l.yi2 +f l.yi2 *f (f1 -f sqrt_of (f1 -f x.xt2 *f x.xt2));
    }

-- iedp < 0, fi1 > 0: a NaN counts as no F1 here
abbrev pub f2_heights_by : Bool → Bool → Finder → IonoState → Slot → F2Tangent → HeightPair
f2_heights_by true f1 find t l x = read_with find t x.fx2
f2_heights_by false true find t l x = read_with find t x.fx2
f2_heights_by false false find t l x = parabolic_of l x

unfoldable pub f2_heights_with : Finder → IonoState → Slot → F2Tangent → HeightPair
f2_heights_with find t l x = f2_heights_by (profile_only t) (l.fi1 >f f0) find t l x

-- the rounds from the first pass on; they read neither angle nor height of their start
unfoldable pub bent_of : Float → Float → HeightPair → HopGeometry → Round
bent_of fc fx h g =
    rounds_of (record { fc = fc; fx = fx; hp = h.hp; ht = h.ht; psi = g.psi; cpsi = g.cpsi; spsi = g.spsi }) 5
    (record { sphe = g.sphe; fob = fx *f g.secp; del = g.del; hp = h.hp })

-- the two, +0 beside a refusal
abbrev pub lower_value : Result Deviations Refusal → Float
lower_value (Ok sig) = sig.lower
lower_value (Err r) = f0

abbrev pub upper_value : Result Deviations Refusal → Float
upper_value (Ok sig) = sig.upper
upper_value (Err r) = f0

-- the two, the lower one first; the first that is refused refuses both
abbrev pub both_by : Result Float Refusal → Result Float Refusal → Result Deviations Refusal
both_by (Ok l) (Ok u) = Ok (record { lower = max_of l f0_01; upper = max_of u f0_01 })
both_by (Ok l) (Err r) = Err r
both_by (Err r) u = Err r

unfoldable pub deviations_of : List Float → Float → Float → Float → Float → Result Deviations Refusal
deviations_of f2d f2muf ssn clat clck =
    let freq_low = f0_9 *f f2muf in
    let freq_high = f1_1 *f f2muf in
    both_by (f2dis_of f2d f2muf ssn clat freq_low clck) (f2dis_of f2d f2muf ssn clat freq_high clck)

abbrev pub f2_bent_by : Result Deviations Refusal → Round → Float → Float → Float → Result LayerMuf Refusal
f2_bent_by (Ok sig) b ht2 fx2 xhops = Ok (layer_line_of sig.lower sig.upper b.del b.hp ht2 fx2 xhops b.fob)
f2_bent_by (Err r) b ht2 fx2 xhops = Err r

unfoldable pub f2_bent_of : List Float → Round → Float → Float → Float → Float → Float → Float → Result LayerMuf Refusal
f2_bent_of f2d b ht2 fx2 xhops ssn clat clck = f2_bent_by (deviations_of f2d b.fob ssn clat clck) b ht2 fx2 xhops

abbrev pub f2_line_by : Result HopGeometry Refusal → Slot → HeightPair → F2Tangent → List Float → Float → Float → PathNumbers → Result LayerMuf Refusal
f2_line_by (Ok g) l h x f2d clat clck c = f2_bent_of f2d (bent_of l.fi2 x.fx2 h g) h.ht x.fx2 g.xhops c.ssn clat clck
f2_line_by (Err r) l h x f2d clat clck c = Err r

unfoldable pub f2_line_with : Finder → IonoState → Slot → F2Tangent → List Float → Float → Float → PathNumbers → Result LayerMuf Refusal
f2_line_with find t l x f2d clat clck c =
    let h = f2_heights_with find t l x in
    f2_line_by (geometry_of c.gcdkm c.amind h.hp h.ht false) l h x f2d clat clck c

abbrev pub f2_line_of : IonoState → Slot → F2Tangent → List Float → Float → Float → PathNumbers → Result LayerMuf Refusal
f2_line_of = f2_line_with gethp_of

-- the F1 layer

unfoldable pub f1_found_of : HopGeometry → HeightPair → Float → Float → LayerMuf
f1_found_of g h fc fx1 =
    let b = bent_of fc fx1 h g in
    let sig = tenth_of b.fob in
    layer_line_of sig sig b.del b.hp h.ht fx1 g.xhops b.fob

abbrev pub f1_own_by : Result HopGeometry Refusal → HeightPair → Float → Float → Result LayerMuf Refusal
f1_own_by (Ok g) h fc fx1 = Ok (f1_found_of g h fc fx1)
f1_own_by (Err r) h fc fx1 = Err r

unfoldable pub f1_own_with : Finder → IonoState → Float → Float → Float → Float → Result LayerMuf Refusal
f1_own_with find t fc fx1 gcdkm amind = let h = read_with find t fx1 in f1_own_by (geometry_of gcdkm amind h.hp h.ht true) h fc fx1

-- fi1 <= 0: no F1, and the E line again; here a NaN counts as an F1
abbrev pub f1_line_by : Bool → Finder → IonoState → Slot → Float → LayerMuf → Float → Float → Result LayerMuf Refusal
f1_line_by true find t l fx1 e gcdkm amind = Ok e
f1_line_by false find t l fx1 e gcdkm amind = f1_own_with find t l.fi1 fx1 gcdkm amind

unfoldable pub f1_line_with : Finder → IonoState → Slot → Float → LayerMuf → Float → Float → Result LayerMuf Refusal
f1_line_with find t l fx1 e gcdkm amind = f1_line_by (l.fi1 ≤f f0) find t l fx1 e gcdkm amind

abbrev pub f1_line_of : IonoState → Slot → Float → LayerMuf → Float → Float → Result LayerMuf Refusal
f1_line_of = f1_line_with gethp_of
