-- The circuit MUF over any sine and any cosine: each definition that stands between `curmuf` and a sine or a cosine, with the two functions as a parameter. It keeps the name of the one that it follows, line by line, with the ending Over. Nothing that it takes from other definitions has a sine or a cosine in it, and ours are not imported. That nothing else is said here is a theorem: with ours, it is the MUF of the contracts.
use Rattle.muf.specs.declared.RegularLines.{RegularLines}
use Rattle.std.specs.Prelude.{Bool, true, false, List, ℕ, zero, suc, ◌+◌, pos, length, Float, Result, Ok, Err}
use Rattle.std.specs.Int.Signed.{lt_z}
use Rattle.scalar.specs.F32.{◌+f◌, ◌-f◌, ◌*f◌, ◌/f◌, ◌≤f◌, at}
use Rattle.scalar.specs.Literals.{f0, f0_5, f1}
use Rattle.scalar.specs.Scalar.{max_of, trunc_of}
use Rattle.scalar.specs.Root.{sqrt_of}
use Rattle.constants.specs.Constants.{D2R, PIO2, RZ}
use Rattle.arcs.specs.Asin.{asin_of}
use Rattle.refusal.specs.declared.Refusal.{Refusal}
use Rattle.layers.specs.declared.IonoState.{IonoState}
use Rattle.layers.specs.declared.LayerMuf.{LayerMuf}
use Rattle.profile.specs.Lecden.{slot_at, lecden_of}
use Rattle.profile.specs.declared.slot_curves.Slot.{Slot}
use Rattle.heights.specs.Gethp.{Finder}
use Rattle.hops.specs.Geometry.{hops_by, psi_of, del_of, secp_of}
use Rattle.hops.specs.Rounds.{sph_of, settled_of, stop_by}
use Rattle.hops.specs.declared.HopGeometry.{HopGeometry}
use Rattle.hops.specs.declared.Ray.{Ray}
use Rattle.hops.specs.declared.Round.{Round}
use Rattle.layer_mufs.specs.Controlling.{controlling_of}
use Rattle.layer_mufs.specs.Tangents.{tangents_of}
use Rattle.layer_mufs.specs.LayerLine.{tenth_of, layer_line_of, read_with, e_heights_with, e_line_by}
use Rattle.layer_mufs.specs.Lines.{f2_heights_with, f2_bent_of}
use Rattle.layer_mufs.specs.declared.PathNumbers.{PathNumbers}
use Rattle.layer_mufs.specs.declared.tangents.F2Tangent.{F2Tangent}
use Rattle.layer_mufs.specs.declared.e_lines.HeightPair.{HeightPair}
use Rattle.muf.specs.Sporadic.{es_psi, taken_of, start_of, next_by}
use Rattle.muf.specs.declared.sporadic.EsRay.{EsRay}
use Rattle.layers.specs.declared.EsParams.{EsParams}
use Rattle.muf.specs.declared.sporadic.EsSearch.{EsSearch}
use Rattle.muf.specs.Curmuf.{in_domain, lists_reach, found_then, regular_by}
use Rattle.muf.specs.declared.AnswerAndRow.{AnswerAndRow}

pub record Waves : Type 0 where
  pub sine : Float → Float
  pub cosine : Float → Float

-- ---- hops

unfoldable pub hop_ratio_over : Waves → Float → Float → Float → Float
hop_ratio_over w gcdkm amind h =
    let dele = max_of amind f0 in
    let del = dele *f D2R in
    let phe = asin_of (RZ *f w.cosine del /f (RZ +f h)) in
    f0_5 *f gcdkm /f ((PIO2 -f del -f phe) *f RZ)

unfoldable pub hops_over : Waves → Float → Float → Float → Result Float Refusal
hops_over w gcdkm amind h = let nhops = trunc_of (hop_ratio_over w gcdkm amind h) in hops_by (lt_z nhops (pos 0)) (lt_z (pos 999) nhops) nhops

unfoldable pub sphe_over : Waves → Float → Float → Float
sphe_over w del ht = let cdel = w.cosine del in RZ *f cdel /f (RZ +f ht)

unfoldable pub hop_geometry_over : Waves → Float → Float → Float → Float → Bool → HopGeometry
hop_geometry_over w gcdkm xhops hp ht split_first =
    let psi = psi_of gcdkm xhops split_first in
    let cpsi = w.cosine psi in
    let spsi = w.sine psi in
    let del = del_of psi cpsi spsi hp in
    let sphe = sphe_over w del ht in
    let secp = secp_of sphe in
    record { secp = secp; sphe = sphe; del = del; xhops = xhops; psi = psi; cpsi = cpsi; spsi = spsi }

abbrev pub geometry_over_by : Result Float Refusal → Waves → Float → Float → Float → Bool → Result HopGeometry Refusal
geometry_over_by (Ok xhops) w gcdkm hp ht split_first = Ok (hop_geometry_over w gcdkm xhops hp ht split_first)
geometry_over_by (Err r) w gcdkm hp ht split_first = Err r

unfoldable pub geometry_over : Waves → Float → Float → Float → Float → Bool → Result HopGeometry Refusal
geometry_over w gcdkm amind hp ht split_first = geometry_over_by (hops_over w gcdkm amind hp) w gcdkm hp ht split_first

-- ---- rounds

unfoldable pub round_over : Waves → Ray → Round → Round
round_over w p t =
    let hp = p.hp +f sph_of p t in
    let del = del_of p.psi p.cpsi p.spsi hp in
    let sphe = sphe_over w del p.ht in
    let secp = secp_of sphe in
    record { sphe = sphe; fob = p.fx *f secp; del = del; hp = hp }

unfoldable pub rounds_over : Waves → Ray → ℕ → Round → Round
rounds_over w p zero t = t
rounds_over w p (suc n) t = let next = round_over w p t in stop_by (settled_of next.fob t.fob) next (rounds_over w p n next)

unfoldable pub bent_over : Waves → Float → Float → HeightPair → HopGeometry → Round
bent_over w fc fx h g =
    rounds_over w (record { fc = fc; fx = fx; hp = h.hp; ht = h.ht; psi = g.psi; cpsi = g.cpsi; spsi = g.spsi }) 5
    (record { sphe = g.sphe; fob = fx *f g.secp; del = g.del; hp = h.hp })

-- ---- the lines of E, F2 and F1

unfoldable pub e_line_over : Waves → Finder → IonoState → Float → Float → Float → Result LayerMuf Refusal
e_line_over w find t fxe gcdkm amind = let h = e_heights_with find t fxe in e_line_by (geometry_over w gcdkm amind h.hp h.ht true) h fxe

abbrev pub f2_line_over_by : Result HopGeometry Refusal → Waves → Slot → HeightPair → F2Tangent → List Float → Float → Float → PathNumbers → Result LayerMuf Refusal
f2_line_over_by (Ok g) w l h x f2d clat clck c = f2_bent_of f2d (bent_over w l.fi2 x.fx2 h g) h.ht x.fx2 g.xhops c.ssn clat clck
f2_line_over_by (Err r) w l h x f2d clat clck c = Err r

unfoldable pub f2_line_over : Waves → Finder → IonoState → Slot → F2Tangent → List Float → Float → Float → PathNumbers → Result LayerMuf Refusal
f2_line_over w find t l x f2d clat clck c =
    let h = f2_heights_with find t l x in
    f2_line_over_by (geometry_over w c.gcdkm c.amind h.hp h.ht false) w l h x f2d clat clck c

unfoldable pub f1_found_over : Waves → HopGeometry → HeightPair → Float → Float → LayerMuf
f1_found_over w g h fc fx1 =
    let b = bent_over w fc fx1 h g in
    let sig = tenth_of b.fob in
    layer_line_of sig sig b.del b.hp h.ht fx1 g.xhops b.fob

abbrev pub f1_own_over_by : Result HopGeometry Refusal → Waves → HeightPair → Float → Float → Result LayerMuf Refusal
f1_own_over_by (Ok g) w h fc fx1 = Ok (f1_found_over w g h fc fx1)
f1_own_over_by (Err r) w h fc fx1 = Err r

unfoldable pub f1_own_over : Waves → Finder → IonoState → Float → Float → Float → Float → Result LayerMuf Refusal
f1_own_over w find t fc fx1 gcdkm amind = let h = read_with find t fx1 in f1_own_over_by (geometry_over w gcdkm amind h.hp h.ht true) w h fc fx1

abbrev pub f1_line_over_by : Bool → Waves → Finder → IonoState → Slot → Float → LayerMuf → Float → Float → Result LayerMuf Refusal
f1_line_over_by true w find t l fx1 e gcdkm amind = Ok e
f1_line_over_by false w find t l fx1 e gcdkm amind = f1_own_over w find t l.fi1 fx1 gcdkm amind

unfoldable pub f1_line_over : Waves → Finder → IonoState → Slot → Float → LayerMuf → Float → Float → Result LayerMuf Refusal
f1_line_over w find t l fx1 e gcdkm amind = f1_line_over_by (l.fi1 ≤f f0) w find t l fx1 e gcdkm amind

unfoldable pub regular_over : Waves → Finder → IonoState → Slot → List Float → Float → Float → PathNumbers → Result RegularLines Refusal
regular_over w find t l f2d clat clck c =
    let x = tangents_of l c.gcdkm in
    found_then (e_line_over w find t x.fxe c.gcdkm c.amind)
    (λ e. found_then (f2_line_over w find t l x.f2 f2d clat clck c)
    (λ f2. found_then (f1_line_over w find t l x.fx1 e c.gcdkm c.amind)
    (λ f1. Ok (record { e = e; f1 = f1; f2 = f2 }))))

-- ---- Es

unfoldable pub ray_over : Waves → Float → Float → Float → EsRay
ray_over w hs hop gcd =
    let psi = es_psi gcd hop in
    let tdel = (w.cosine psi -f RZ /f (RZ +f hs)) /f w.sine psi in
    let cdel = f1 /f sqrt_of (f1 +f tdel *f tdel) in
    let sphe = RZ *f cdel /f (RZ +f hs) in
    let secp = f1 /f sqrt_of (f1 -f sphe *f sphe) in
    record { tdel = tdel; secp = secp }

abbrev pub hop_over_by : Result Float Refusal → Waves → EsSearch → ℕ → EsParams → PathNumbers → Result EsSearch Refusal
hop_over_by (Ok hop) w a k row c = Ok (taken_of a k row (ray_over w row.hs hop c.gcd) hop)
hop_over_by (Err r) w a k row c = Err r

abbrev pub row_over_by : Bool → Waves → EsSearch → ℕ → EsParams → PathNumbers → Result EsSearch Refusal
row_over_by true w a k row c = Ok a
row_over_by false w a k row c = hop_over_by (hops_over w c.gcdkm c.amind row.hs) w a k row c

unfoldable pub es_row_over : Waves → EsSearch → ℕ → EsParams → PathNumbers → Result EsSearch Refusal
es_row_over w a k row c = row_over_by (at row.fs 1 ≤f f0) w a k row c

unfoldable pub es_from_over : Waves → (ℕ → EsParams) → PathNumbers → ℕ → ℕ → EsSearch → Result EsSearch Refusal
es_from_over w row c zero k a = Ok a
es_from_over w row c (suc n) k a = next_by (es_row_over w a k (row k) c) (λ b. es_from_over w row c n (k + 1) b)

-- ---- the whole

unfoldable pub muf_at_slot_over : Waves → Finder → IonoState → ℕ → Result EsSearch Refusal → List Float → Float → Float → PathNumbers → Result AnswerAndRow Refusal
muf_at_slot_over w find s ks found f2d clat clck c =
    let t = lecden_of s ks in
    let l = slot_at t ks in
    regular_by (regular_over w find t l f2d clat clck c) t l ks found

abbrev pub muf_from_search_over_by : Bool → Bool → Waves → Finder → IonoState → Result EsSearch Refusal → List Float → List Float → List Float → PathNumbers → Result AnswerAndRow Refusal
muf_from_search_over_by true true w find s found f2d clat clck c = let ks = controlling_of s in muf_at_slot_over w find s ks found f2d (at clat ks) (at clck ks) c
muf_from_search_over_by true false w find s found f2d clat clck c = Err Refusal.MufLists
muf_from_search_over_by false reach w find s found f2d clat clck c = Err Refusal.MufInput

-- n rows of Es, each as `row` gives it: flat rows and records alike
unfoldable pub muf_of_rows_over : Waves → Finder → IonoState → ℕ → (ℕ → EsParams) → List Float → List Float → List Float → PathNumbers → Result AnswerAndRow Refusal
muf_of_rows_over w find s n row f2d clat clck c = muf_from_search_over_by (in_domain c) (lists_reach (controlling_of s) (length f2d) (length clat) (length clck)) w find s (es_from_over w row c n 0 start_of) f2d clat clck c
