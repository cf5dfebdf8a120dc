-- From each sine and cosine upwards, by what `angles` says of its argument.
use Rattle.refusal.specs.declared.Refusal.{Refusal}
use Rattle.muf.specs.declared.RegularLines.{RegularLines}
use Rattle.std.specs.Prelude.{Result, Ok, Err}
use mathlib.Core.Bool.{Bool, true, false, not, ◌&&◌}
use mathlib.Core.List.{List}
use mathlib.Core.Path.{◌≡◌, refl, sym, ap, ◌∙◌}
use Prim.Native.Nat.{ℕ, zero, suc, ◌+◌}
use lib.IntN.{pos}
use lib.Signed.{lt_z}
use lib.ListN.{length}
use lib.Ieee.{Float}
use Rattle.scalar.specs.F32.{◌+f◌, ◌-f◌, ◌*f◌, ◌/f◌, ◌≤f◌, ◌>f◌, at}
use Rattle.scalar.specs.Literals.{f0, f0_5, f1, f6_3, f90, f40100}
use Rattle.scalar.specs.Scalar.{max_of, trunc_of}
use Rattle.scalar.specs.Root.{sqrt_of}
use Rattle.constants.specs.Constants.{D2R, PIO2, RZ}
use Rattle.waves.specs.SinCos.{sin_of, cos_of}
use Rattle.arcs.specs.Asin.{asin_of}
use Rattle.layers.specs.declared.IonoState.{IonoState}
use Rattle.layers.specs.declared.LayerMuf.{LayerMuf}
use Rattle.profile.specs.Lecden.{slot_at, lecden_of}
use Rattle.profile.specs.declared.slot_curves.Slot.{Slot}
use Rattle.heights.specs.Gethp.{Finder}
use Rattle.hops.specs.Geometry.{hop_ratio_of, hops_by, hops_of, psi_of, del_of, sphe_of, secp_of, hop_geometry_of, geometry_by, geometry_of}
use Rattle.hops.specs.Rounds.{sph_of, round_of, settled_of, stop_by, rounds_of}
use Rattle.hops.specs.declared.HopGeometry.{HopGeometry}
use Rattle.hops.specs.declared.Ray.{Ray}
use Rattle.hops.specs.declared.Round.{Round}
use Rattle.layer_mufs.specs.Controlling.{controlling_of}
use Rattle.layer_mufs.specs.Tangents.{tangents_of}
use Rattle.layer_mufs.specs.LayerLine.{tenth_of, layer_line_of, read_with, e_heights_with, e_line_by, e_line_with}
use Rattle.layer_mufs.specs.Lines.{f2_heights_with, bent_of, f2_bent_of, f2_line_by, f2_line_with, f1_found_of, f1_own_by, f1_own_with, f1_line_by, f1_line_with}
use Rattle.layer_mufs.specs.declared.PathNumbers.{PathNumbers}
use Rattle.layer_mufs.specs.declared.tangents.F2Tangent.{F2Tangent}
use Rattle.layer_mufs.specs.declared.e_lines.HeightPair.{HeightPair}
use Rattle.muf.specs.Sporadic.{es_psi, ray_of, taken_of, hop_by, row_by, es_row_of, start_of, next_by, es_from}
use Rattle.muf.specs.declared.sporadic.EsRay.{EsRay}
use Rattle.layers.specs.declared.EsParams.{EsParams}
use Rattle.muf.specs.declared.sporadic.EsSearch.{EsSearch}
use Rattle.muf.specs.Curmuf.{within_of, in_domain, lists_reach, found_then, regular_with, regular_by, muf_at_slot_with, muf_from_search_by, muf_from_search_with, muf_of_rows_with}
use Rattle.angles.specs.Angles.{Small, AllSmall}
use Rattle.angles.proofs.Angles.{never-refused-13}
use Rattle.any_waves.specs.Over.{Waves, hop_ratio_over, hops_over, sphe_over, hop_geometry_over, geometry_over_by, geometry_over, round_over, rounds_over, bent_over, e_line_over, f2_line_over_by, f2_line_over, f1_found_over, f1_own_over_by, f1_own_over, f1_line_over_by, f1_line_over, regular_over, ray_over, hop_over_by, row_over_by, es_row_over, es_from_over, muf_at_slot_over, muf_from_search_over_by, muf_of_rows_over}
use Rattle.any_waves.specs.AnyWaves.{OursWhereSmall, AnyWaves, marked, MarkUnmet}
use Rattle.std.proofs.lemmas.Bool.{and_parts}

-- every takeoff angle of a geometry's psi is small
abbrev GoodRay : Float → Float → Float → Type 0
GoodRay psi cpsi spsi = (hp : Float) → Small (del_of psi cpsi spsi hp)

module _ (w : Waves) (alike : OursWhereSmall w) where
  sphe-so : (del ht : Float) → Small del → sphe_over w del ht ≡ sphe_of del ht
  unfolding sphe_over sphe_of
  sphe-so del ht h = ap (λ (y : Float). RZ *f y /f (RZ +f ht)) (alike del h).1

  -- ---- rounds

  round-so : (p : Ray) (t : Round) → GoodRay p.psi p.cpsi p.spsi → round_over w p t ≡ round_of p t
  unfolding round_over round_of
  round-so p t good =
      let hp = p.hp +f sph_of p t in
      let del = del_of p.psi p.cpsi p.spsi hp in
      let whole : Float → Round = λ sphe. record { sphe = sphe; fob = p.fx *f secp_of sphe; del = del; hp = hp } in
      ap whole (sphe-so del p.ht (good hp))

  rounds-so : (p : Ray) → GoodRay p.psi p.cpsi p.spsi → (n : ℕ) (t : Round) → rounds_over w p n t ≡ rounds_of p n t
  unfolding rounds_over rounds_of
  rounds-so p good zero t = refl
  rounds-so p good (suc n) t =
      let next = round_of p t in
      ap (λ (x : Round). stop_by (settled_of x.fob t.fob) x (rounds_over w p n x)) (round-so p t good) ∙ ap (λ (x : Round). stop_by (settled_of next.fob t.fob) next x) (rounds-so p good n next)

  bent-so : (fc fx : Float) (h : HeightPair) (g : HopGeometry) → GoodRay g.psi g.cpsi g.spsi → bent_over w fc fx h g ≡ bent_of fc fx h g
  unfolding bent_over bent_of
  bent-so fc fx h g good = rounds-so (record { fc = fc; fx = fx; hp = h.hp; ht = h.ht; psi = g.psi; cpsi = g.cpsi; spsi = g.spsi }) good 5 (record { sphe = g.sphe; fob = fx *f g.secp; del = g.del; hp = h.hp })

  -- ---- on a path whose arguments are small
  module _ (c : PathNumbers) (small : AllSmall c.gcd c.gcdkm c.amind) where
    ratio-so : (h : Float) → hop_ratio_over w c.gcdkm c.amind h ≡ hop_ratio_of c.gcdkm c.amind h
    unfolding hop_ratio_over hop_ratio_of
    ratio-so h = ap (λ (y : Float). f0_5 *f c.gcdkm /f ((PIO2 -f max_of c.amind f0 *f D2R -f asin_of (RZ *f y /f (RZ +f h))) *f RZ)) (alike (max_of c.amind f0 *f D2R) small.least).1

    hops-so : (h : Float) → hops_over w c.gcdkm c.amind h ≡ hops_of c.gcdkm c.amind h
    unfolding hops_over hops_of
    hops-so h = ap (λ (r : Float). hops_by (lt_z (trunc_of r) (pos 0)) (lt_z (pos 999) (trunc_of r)) (trunc_of r)) (ratio-so h)

    hop-so : (h x hp ht : Float) (split : Bool) → hops_of c.gcdkm c.amind h ≡ Ok x → hop_geometry_over w c.gcdkm x hp ht split ≡ hop_geometry_of c.gcdkm x hp ht split
    unfolding hop_geometry_over hop_geometry_of
    hop-so h x hp ht split e =
        let psi = psi_of c.gcdkm x split in
        let is = small.hop h x split e in
        let whole : Float → Float → Float → HopGeometry = λ cpsi spsi sphe. record { secp = secp_of sphe; sphe = sphe; del = del_of psi cpsi spsi hp; xhops = x; psi = psi; cpsi = cpsi; spsi = spsi } in
        ap (λ (y : Float). whole y (w.sine psi) (sphe_over w (del_of psi y (w.sine psi) hp) ht)) (alike psi is).1
        ∙ ap (λ (y : Float). whole (cos_of psi) y (sphe_over w (del_of psi (cos_of psi) y hp) ht)) (alike psi is).0
        ∙ ap (whole (cos_of psi) (sin_of psi)) (sphe-so (del_of psi (cos_of psi) (sin_of psi) hp) ht (small.takeoff h x (cos_of psi) (sin_of psi) hp split e))

    geometry-by : (o : Result Float Refusal) (hp ht : Float) (split : Bool) → hops_of c.gcdkm c.amind hp ≡ o → geometry_over_by o w c.gcdkm hp ht split ≡ geometry_by o c.gcdkm hp ht split
    geometry-by (Ok x) hp ht split e = ap Ok (hop-so hp x hp ht split e)
    geometry-by (Err r) hp ht split e = refl

    geometry-so : (hp ht : Float) (split : Bool) → geometry_over w c.gcdkm c.amind hp ht split ≡ geometry_of c.gcdkm c.amind hp ht split
    unfolding geometry_over geometry_of
    geometry-so hp ht split =
        ap (λ (o : Result Float Refusal). geometry_over_by o w c.gcdkm hp ht split) (hops-so hp) ∙ geometry-by (hops_of c.gcdkm c.amind hp) hp ht split refl

    -- ---- lines

    e-so : (find : Finder) (t : IonoState) (fxe : Float) → e_line_over w find t fxe c.gcdkm c.amind ≡ e_line_with find t fxe c.gcdkm c.amind
    unfolding e_line_over e_line_with
    e-so find t fxe = let h = e_heights_with find t fxe in ap (λ (g : Result HopGeometry Refusal). e_line_by g h fxe) (geometry-so h.hp h.ht true)

    -- by the hop count that the geometry comes of
    f2-by : (o : Result Float Refusal) (l : Slot) (h : HeightPair) (x : F2Tangent) (f2d : List Float) (clat clck : Float) → hops_of c.gcdkm c.amind h.hp ≡ o → f2_line_over_by (geometry_by o c.gcdkm h.hp h.ht false) w l h x f2d clat clck c ≡ f2_line_by (geometry_by o c.gcdkm h.hp h.ht false) l h x f2d clat clck c
    unfolding hop_geometry_of
    f2-by (Ok n) l h x f2d clat clck e =
        let g = hop_geometry_of c.gcdkm n h.hp h.ht false in
        ap (λ (b : Round). f2_bent_of f2d b h.ht x.fx2 n c.ssn clat clck) (bent-so l.fi2 x.fx2 h g (λ hp. small.takeoff h.hp n g.cpsi g.spsi hp false e))
    f2-by (Err r) l h x f2d clat clck e = refl

    f2-so : (find : Finder) (t : IonoState) (l : Slot) (x : F2Tangent) (f2d : List Float) (clat clck : Float) → f2_line_over w find t l x f2d clat clck c ≡ f2_line_with find t l x f2d clat clck c
    unfolding f2_line_over f2_line_with geometry_of
    f2-so find t l x f2d clat clck =
        let h = f2_heights_with find t l x in
        ap (λ (g : Result HopGeometry Refusal). f2_line_over_by g w l h x f2d clat clck c) (geometry-so h.hp h.ht false) ∙ f2-by (hops_of c.gcdkm c.amind h.hp) l h x f2d clat clck refl

    f1-found : (h : HeightPair) (n fc fx1 : Float) → hops_of c.gcdkm c.amind h.hp ≡ Ok n → f1_found_over w (hop_geometry_of c.gcdkm n h.hp h.ht true) h fc fx1 ≡ f1_found_of (hop_geometry_of c.gcdkm n h.hp h.ht true) h fc fx1
    unfolding f1_found_over f1_found_of hop_geometry_of
    f1-found h n fc fx1 e =
        let g = hop_geometry_of c.gcdkm n h.hp h.ht true in
        ap (λ (b : Round). let sig = tenth_of b.fob in layer_line_of sig sig b.del b.hp h.ht fx1 n b.fob) (bent-so fc fx1 h g (λ hp. small.takeoff h.hp n g.cpsi g.spsi hp true e))

    f1-by : (o : Result Float Refusal) (h : HeightPair) (fc fx1 : Float) → hops_of c.gcdkm c.amind h.hp ≡ o → f1_own_over_by (geometry_by o c.gcdkm h.hp h.ht true) w h fc fx1 ≡ f1_own_by (geometry_by o c.gcdkm h.hp h.ht true) h fc fx1
    f1-by (Ok n) h fc fx1 e = ap Ok (f1-found h n fc fx1 e)
    f1-by (Err r) h fc fx1 e = refl

    f1-own : (find : Finder) (t : IonoState) (fc fx1 : Float) → f1_own_over w find t fc fx1 c.gcdkm c.amind ≡ f1_own_with find t fc fx1 c.gcdkm c.amind
    unfolding f1_own_over f1_own_with geometry_of
    f1-own find t fc fx1 =
        let h = read_with find t fx1 in
        ap (λ (g : Result HopGeometry Refusal). f1_own_over_by g w h fc fx1) (geometry-so h.hp h.ht true) ∙ f1-by (hops_of c.gcdkm c.amind h.hp) h fc fx1 refl

    f1-line : (b : Bool) (find : Finder) (t : IonoState) (l : Slot) (fx1 : Float) (e : LayerMuf) → f1_line_over_by b w find t l fx1 e c.gcdkm c.amind ≡ f1_line_by b find t l fx1 e c.gcdkm c.amind
    f1-line true find t l fx1 e = refl
    f1-line false find t l fx1 e = f1-own find t l.fi1 fx1

    f1-so : (find : Finder) (t : IonoState) (l : Slot) (fx1 : Float) (e : LayerMuf) → f1_line_over w find t l fx1 e c.gcdkm c.amind ≡ f1_line_with find t l fx1 e c.gcdkm c.amind
    unfolding f1_line_over f1_line_with
    f1-so find t l fx1 e = f1-line (l.fi1 ≤f f0) find t l fx1 e

    -- gone on from alike
    then-so : (a : Result LayerMuf Refusal) (f g : LayerMuf → Result RegularLines Refusal) → ((m : LayerMuf) → f m ≡ g m) → found_then a f ≡ found_then a g
    then-so (Ok m) f g h = h m
    then-so (Err r) f g h = refl

    regular-so : (find : Finder) (t : IonoState) (l : Slot) (f2d : List Float) (clat clck : Float) → regular_over w find t l f2d clat clck c ≡ regular_with find t l f2d clat clck c
    unfolding regular_over regular_with
    regular-so find t l f2d clat clck =
        let x = tangents_of l c.gcdkm in
        let whole : LayerMuf → LayerMuf → LayerMuf → Result RegularLines Refusal = λ e f2 f1. Ok (record { e = e; f1 = f1; f2 = f2 }) in
        let last : LayerMuf → LayerMuf → Result RegularLines Refusal = λ e f2. found_then (f1_line_with find t l x.fx1 e c.gcdkm c.amind) (whole e f2) in
        let lastOver : LayerMuf → LayerMuf → Result RegularLines Refusal = λ e f2. found_then (f1_line_over w find t l x.fx1 e c.gcdkm c.amind) (whole e f2) in
        let next : LayerMuf → Result RegularLines Refusal = λ e. found_then (f2_line_with find t l x.f2 f2d clat clck c) (last e) in
        let nextOver : LayerMuf → Result RegularLines Refusal = λ e. found_then (f2_line_over w find t l x.f2 f2d clat clck c) (lastOver e) in
        ap (λ (a : Result LayerMuf Refusal). found_then a nextOver) (e-so find t x.fxe)
        ∙ then-so (e_line_with find t x.fxe c.gcdkm c.amind) nextOver next
        (λ (e : LayerMuf). ap (λ (a : Result LayerMuf Refusal). found_then a (lastOver e)) (f2-so find t l x.f2 f2d clat clck)
        ∙ then-so (f2_line_with find t l x.f2 f2d clat clck c) (lastOver e) (last e)
        (λ (f2 : LayerMuf). ap (λ (a : Result LayerMuf Refusal). found_then a (whole e f2)) (f1-so find t l x.fx1 e)))

    -- ---- Es

    ray-so : (h hs x : Float) → hops_of c.gcdkm c.amind h ≡ Ok x → ray_over w hs x c.gcd ≡ ray_of hs x c.gcd
    unfolding ray_over ray_of
    ray-so h hs x e =
        let psi = es_psi c.gcd x in
        let is = small.es h x e in
        let whole : Float → Float → EsRay = λ cpsi spsi. let tdel = (cpsi -f RZ /f (RZ +f hs)) /f spsi in let cdel = f1 /f sqrt_of (f1 +f tdel *f tdel) in let sphe = RZ *f cdel /f (RZ +f hs) in record { tdel = tdel; secp = f1 /f sqrt_of (f1 -f sphe *f sphe) } in
        ap (λ (y : Float). whole y (w.sine psi)) (alike psi is).1 ∙ ap (whole (cos_of psi)) (alike psi is).0

    hop-by : (o : Result Float Refusal) (a : EsSearch) (k : ℕ) (row : EsParams) → hops_of c.gcdkm c.amind row.hs ≡ o → hop_over_by o w a k row c ≡ hop_by o a k row c
    hop-by (Ok x) a k row e = ap (λ (ray : EsRay). Ok (taken_of a k row ray x)) (ray-so row.hs row.hs x e)
    hop-by (Err r) a k row e = refl

    row-by : (b : Bool) (a : EsSearch) (k : ℕ) (row : EsParams) → row_over_by b w a k row c ≡ row_by b a k row c
    row-by true a k row = refl
    row-by false a k row = ap (λ (o : Result Float Refusal). hop_over_by o w a k row c) (hops-so row.hs) ∙ hop-by (hops_of c.gcdkm c.amind row.hs) a k row refl

    row-so : (a : EsSearch) (k : ℕ) (row : EsParams) → es_row_over w a k row c ≡ es_row_of a k row c
    unfolding es_row_over es_row_of
    row-so a k row = row-by (at row.fs 1 ≤f f0) a k row

    next-so : (step : Result EsSearch Refusal) (f g : EsSearch → Result EsSearch Refusal) → ((b : EsSearch) → f b ≡ g b) → next_by step f ≡ next_by step g
    next-so (Ok b) f g h = h b
    next-so (Err r) f g h = refl

    es-so : (row : ℕ → EsParams) (n k : ℕ) (a : EsSearch) → es_from_over w row c n k a ≡ es_from row c n k a
    unfolding es_from_over es_from
    es-so row zero k a = refl
    es-so row (suc n) k a =
        ap (λ (step : Result EsSearch Refusal). next_by step (λ b. es_from_over w row c n (k + 1) b)) (row-so a k (row k)) ∙ next-so (es_row_of a k (row k) c) _ _ (λ b. es-so row n (k + 1) b)

    -- ---- the whole

    slot-so : (find : Finder) (s : IonoState) (ks : ℕ) (step : Result EsSearch Refusal) (f2d : List Float) (clat clck : Float) → muf_at_slot_over w find s ks step f2d clat clck c ≡ muf_at_slot_with find s ks step f2d clat clck c
    unfolding muf_at_slot_over muf_at_slot_with
    slot-so find s ks step f2d clat clck =
        let t = lecden_of s ks in
        let l = slot_at t ks in
        ap (λ (x : Result RegularLines Refusal). regular_by x t l ks step) (regular-so find t l f2d clat clck)

  -- where it is refused 9 nothing is looked at
  not-above : (b : Bool) → not b ≡ true → b ≡ false
  not-above true e = sym e
  not-above false e = refl

  search-by : (d r : Bool) (find : Finder) (s : IonoState) (n : ℕ) (row : ℕ → EsParams) (f2d clat clck : List Float) (c : PathNumbers) → (d ≡ true → AllSmall c.gcd c.gcdkm c.amind) → muf_from_search_over_by d r w find s (es_from_over w row c n 0 start_of) f2d clat clck c ≡ muf_from_search_by d r find s (es_from row c n 0 start_of) f2d clat clck c
  search-by true true find s n row f2d clat clck c small =
      let ks = controlling_of s in
      let k = small refl in
      ap (λ (step : Result EsSearch Refusal). muf_at_slot_over w find s ks step f2d (at clat ks) (at clck ks) c) (es-so c k row n 0 start_of) ∙ slot-so c k find s ks (es_from row c n 0 start_of) f2d (at clat ks) (at clck ks)
  search-by true false find s n row f2d clat clck c small = refl
  search-by false r find s n row f2d clat clck c small = refl

pub any-waves : AnyWaves
unfolding muf_of_rows_over muf_of_rows_with muf_from_search_with in_domain
any-waves w alike find s n row f2d clat clck c p q r =
    search-by w alike (in_domain c) (lists_reach (controlling_of s) (length f2d) (length clat) (length clck)) find s n row f2d clat clck c
    (λ e. let a = and_parts (within_of c.gcdkm f40100 && within_of c.gcd f6_3) (not (c.amind >f f90)) e in
    let b = and_parts (within_of c.gcdkm f40100) (within_of c.gcd f6_3) a.0 in
    never-refused-13 c.gcd c.gcdkm c.amind p q r b.1 b.0 (not-above w alike (c.amind >f f90) a.1))

marked-ours : (mark : Float) → OursWhereSmall (marked mark)
marked-ours mark x h = (rw (h.0, h.1), rw (h.0, h.1))

pub mark-unmet : MarkUnmet
mark-unmet mark find s n row f2d clat clck c p q r = any-waves (marked mark) (marked-ours mark) find s n row f2d clat clck c p q r
