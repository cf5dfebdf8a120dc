-- A MUF whose lists reach is refused for its input, for a hop count, or for its time block; an answered one has one of three modes and a controlling slot below 3.
use Rattle.std.specs.Prelude.{◌≡◌, ◌⊎◌, ℕ, zero, suc, ◌+◌, ◌<◌, eqb, Bool, true, false, cond, List, length, get_or, ℤ, pos, Float, Result, Ok, Err, IfErr, MatchResult}
use Rattle.std.specs.Int.Signed.{lt_z}
use Rattle.std.specs.Float.{nan}
use mathlib.Core.Logic.{inl, inr}
use mathlib.Core.Path.{refl, sym, subst}
use Rattle.scalar.specs.F32.{◌-f◌, ◌*f◌, ◌≤f◌, ◌≥f◌, at}
use Rattle.scalar.specs.Literals.{f0, f0_9, f1_1}
use Rattle.scalar.specs.Scalar.{max_of, trunc_of}
use Rattle.refusal.specs.declared.Refusal.{Refusal}
use Rattle.layers.specs.declared.IonoState.{IonoState}
use Rattle.layers.specs.declared.LayerMuf.{LayerMuf}
use Rattle.profile.specs.Lecden.{slot_at, lecden_of}
use Rattle.profile.specs.declared.slot_curves.Slot.{Slot}
use Rattle.heights.specs.Gethp.{Finder, gethp_of}
use Rattle.deciles.specs.F2dis.{icc_of, f2dis_of}
use Rattle.hops.specs.Geometry.{hop_ratio_of, hops_by, hops_of, geometry_by, geometry_of}
use Rattle.hops.specs.declared.HopGeometry.{HopGeometry}
use Rattle.hops.specs.declared.Round.{Round}
use Rattle.layer_mufs.specs.Controlling.{controlling_of}
use Rattle.layer_mufs.specs.Tangents.{tangents_of}
use Rattle.layer_mufs.specs.LayerLine.{read_with, e_heights_with, e_line_by, e_line_with}
use Rattle.layer_mufs.specs.Lines.{f2_heights_with, bent_of, both_by, deviations_of, f2_bent_by, f2_bent_of, f2_line_by, f2_line_with, f1_own_by, f1_own_with, f1_line_by, f1_line_with}
use Rattle.layer_mufs.specs.declared.PathNumbers.{PathNumbers}
use Rattle.layer_mufs.specs.declared.tangents.F2Tangent.{F2Tangent}
use Rattle.layer_mufs.specs.declared.e_lines.HeightPair.{HeightPair}
use Rattle.layer_mufs.specs.declared.Deviations.{Deviations}
use Rattle.layer_mufs.proofs.controlling_slot.Small.{controlling-small}
use Rattle.muf.specs.Sporadic.{hop_by, row_by, es_row_of, start_of, row_at, next_by, es_from}
use Rattle.layers.specs.declared.EsParams.{EsParams}
use Rattle.muf.specs.declared.sporadic.EsSearch.{EsSearch}
use Rattle.muf.specs.Hour.{mode_by, mode_of, hour_of}
use Rattle.muf.specs.Curmuf.{in_domain, lists_reach, found_then, regular_with, found_muf_of, es_by, regular_by, muf_at_slot_with, muf_from_search_by, muf_from_search_with, muf_of_rows_with, row_count_of, flat_muf_with, flat_muf_of, answer_by, curmuf_of}
use Rattle.muf.specs.declared.RegularLines.{RegularLines}
use Rattle.muf.specs.declared.MufHour.{MufHour}
use Rattle.muf.specs.declared.AnswerAndRow.{AnswerAndRow}

abbrev pub Mode3 : ℤ → Type 0
Mode3 z = (z ≡ pos 1) ⊎ ((z ≡ pos 2) ⊎ (z ≡ pos 3))

mode-by : (a b : Bool) (m : RegularLines) → Mode3 (mode_by a b m).modmuf
mode-by true b m = inl refl
mode-by false true m = inr (inl refl)
mode-by false false m = inr (inr refl)

-- of an answered MUF its mode and its slot
abbrev pub HourGood : MufHour → Type 0
HourGood h = Mode3 h.modmuf × (h.ks < 3)

module _ (P : Refusal → Type 0) (input : P Refusal.MufInput) (hops : P Refusal.MufHops) (block : P Refusal.TimeBlock) where
  hops-by : (a b : Bool) (z : ℤ) → IfErr (hops_by a b z) P
  hops-by true b z = hops
  hops-by false true z = hops
  hops-by false false z = tt

  hops-in : (gcdkm amind h : Float) → IfErr (hops_of gcdkm amind h) P
  unfolding hops_of
  hops-in gcdkm amind h = let z = trunc_of (hop_ratio_of gcdkm amind h) in hops-by (lt_z z (pos 0)) (lt_z (pos 999) z) z

  geometry-by : (o : Result Float Refusal) (gcdkm hp ht : Float) (split : Bool) → IfErr o P → IfErr (geometry_by o gcdkm hp ht split) P
  geometry-by (Ok x) gcdkm hp ht split h = tt
  geometry-by (Err r) gcdkm hp ht split h = h

  geometry-in : (gcdkm amind hp ht : Float) (split : Bool) → IfErr (geometry_of gcdkm amind hp ht split) P
  unfolding geometry_of
  geometry-in gcdkm amind hp ht split = geometry-by (hops_of gcdkm amind hp) gcdkm hp ht split (hops-in gcdkm amind hp)

  e-by : (g : Result HopGeometry Refusal) (h : HeightPair) (fxe : Float) → IfErr g P → IfErr (e_line_by g h fxe) P
  e-by (Ok g) h fxe p = tt
  e-by (Err r) h fxe p = p

  e-in : (find : Finder) (t : IonoState) (fxe gcdkm amind : Float) → IfErr (e_line_with find t fxe gcdkm amind) P
  unfolding e_line_with
  e-in find t fxe gcdkm amind = let h = e_heights_with find t fxe in e-by (geometry_of gcdkm amind h.hp h.ht true) h fxe (geometry-in gcdkm amind h.hp h.ht true)

  either-in : (b : Bool) (d e : Result Float Refusal) → IfErr d P → IfErr e P → IfErr (cond b d e) P
  either-in true d e p q = p
  either-in false d e p q = q

  f2dis-in : (f2d : List Float) (fmuf ssn clat freq abb : Float) → eqb (length f2d) 576 ≡ true → IfErr (f2dis_of f2d fmuf ssn clat freq abb) P
  unfolding f2dis_of
  f2dis-in f2d fmuf ssn clat freq abb e = rw e (either-in (get_or f2d 0 nan ≤f f0) _ _ tt (either-in (eqb (icc_of abb) 0) _ _ block tt))

  both_by_lem : (d e : Result Float Refusal) → IfErr d P → IfErr e P → IfErr (both_by d e) P
  both_by_lem (Ok l) (Ok u) p q = tt
  both_by_lem (Ok l) (Err r) p q = q
  both_by_lem (Err r) u p q = p

  deviations-in : (f2d : List Float) (muf ssn clat clck : Float) → eqb (length f2d) 576 ≡ true → IfErr (deviations_of f2d muf ssn clat clck) P
  unfolding deviations_of
  deviations-in f2d muf ssn clat clck e = both_by_lem (f2dis_of f2d muf ssn clat (f0_9 *f muf) clck) (f2dis_of f2d muf ssn clat (f1_1 *f muf) clck) (f2dis-in f2d muf ssn clat (f0_9 *f muf) clck e) (f2dis-in f2d muf ssn clat (f1_1 *f muf) clck e)

  bent-by : (d : Result Deviations Refusal) (b : Round) (ht fx x : Float) → IfErr d P → IfErr (f2_bent_by d b ht fx x) P
  bent-by (Ok sig) b ht fx x p = tt
  bent-by (Err r) b ht fx x p = p

  f2-by : (g : Result HopGeometry Refusal) (l : Slot) (h : HeightPair) (x : F2Tangent) (f2d : List Float) (clat clck : Float) (c : PathNumbers) → eqb (length f2d) 576 ≡ true → IfErr g P → IfErr (f2_line_by g l h x f2d clat clck c) P
  unfolding f2_bent_of
  f2-by (Ok g) l h x f2d clat clck c e p =
      let b = bent_of l.fi2 x.fx2 h g in
      bent-by (deviations_of f2d b.fob c.ssn clat clck) b h.ht x.fx2 g.xhops (deviations-in f2d b.fob c.ssn clat clck e)
  f2-by (Err r) l h x f2d clat clck c e p = p

  f2-in : (find : Finder) (t : IonoState) (l : Slot) (x : F2Tangent) (f2d : List Float) (clat clck : Float) (c : PathNumbers) → eqb (length f2d) 576 ≡ true → IfErr (f2_line_with find t l x f2d clat clck c) P
  unfolding f2_line_with
  f2-in find t l x f2d clat clck c e =
      let h = f2_heights_with find t l x in
      f2-by (geometry_of c.gcdkm c.amind h.hp h.ht false) l h x f2d clat clck c e (geometry-in c.gcdkm c.amind h.hp h.ht false)

  own-by : (g : Result HopGeometry Refusal) (h : HeightPair) (fc fx1 : Float) → IfErr g P → IfErr (f1_own_by g h fc fx1) P
  own-by (Ok g) h fc fx1 p = tt
  own-by (Err r) h fc fx1 p = p

  f1-by : (b : Bool) (find : Finder) (t : IonoState) (l : Slot) (fx1 : Float) (e : LayerMuf) (gcdkm amind : Float) → IfErr (f1_line_by b find t l fx1 e gcdkm amind) P
  unfolding f1_own_with
  f1-by true find t l fx1 e gcdkm amind = tt
  f1-by false find t l fx1 e gcdkm amind = let h = read_with find t fx1 in own-by (geometry_of gcdkm amind h.hp h.ht true) h l.fi1 fx1 (geometry-in gcdkm amind h.hp h.ht true)

  then-in : (a : Result LayerMuf Refusal) (next : LayerMuf → Result RegularLines Refusal) → IfErr a P → ((m : LayerMuf) → IfErr (next m) P) → IfErr (found_then a next) P
  then-in (Ok m) next p q = q m
  then-in (Err r) next p q = p

  f1-in : (find : Finder) (t : IonoState) (l : Slot) (fx1 : Float) (e : LayerMuf) (gcdkm amind : Float) → IfErr (f1_line_with find t l fx1 e gcdkm amind) P
  unfolding f1_line_with
  f1-in find t l fx1 e gcdkm amind = f1-by (l.fi1 ≤f f0) find t l fx1 e gcdkm amind

  regular-in : (find : Finder) (t : IonoState) (l : Slot) (f2d : List Float) (clat clck : Float) (c : PathNumbers) → eqb (length f2d) 576 ≡ true → IfErr (regular_with find t l f2d clat clck c) P
  unfolding regular_with
  regular-in find t l f2d clat clck c h =
      let x = tangents_of l c.gcdkm in
      then-in (e_line_with find t x.fxe c.gcdkm c.amind) _ (e-in find t x.fxe c.gcdkm c.amind)
      (λ (e : LayerMuf). then-in (f2_line_with find t l x.f2 f2d clat clck c) _ (f2-in find t l x.f2 f2d clat clck c h)
      (λ (f2 : LayerMuf). then-in (f1_line_with find t l x.fx1 e c.gcdkm c.amind) _ (f1-in find t l x.fx1 e c.gcdkm c.amind) (λ (f1 : LayerMuf). tt)))

  -- ---- Es

  hop-by : (o : Result Float Refusal) (a : EsSearch) (k : ℕ) (row : EsParams) (c : PathNumbers) → IfErr o P → IfErr (hop_by o a k row c) P
  hop-by (Ok x) a k row c p = tt
  hop-by (Err r) a k row c p = p

  row-by : (b : Bool) (a : EsSearch) (k : ℕ) (row : EsParams) (c : PathNumbers) → IfErr (row_by b a k row c) P
  row-by true a k row c = tt
  row-by false a k row c = hop-by (hops_of c.gcdkm c.amind row.hs) a k row c (hops-in c.gcdkm c.amind row.hs)

  next-by : (s : Result EsSearch Refusal) (f : EsSearch → Result EsSearch Refusal) → IfErr s P → ((a : EsSearch) → IfErr (f a) P) → IfErr (next_by s f) P
  next-by (Ok a) f p q = q a
  next-by (Err r) f p q = p

  es-in : (row : ℕ → EsParams) (c : PathNumbers) (n k : ℕ) (a : EsSearch) → IfErr (es_from row c n k a) P
  unfolding es_from es_row_of
  es-in row c zero k a = tt
  es-in row c (suc n) k a = next-by (es_row_of a k (row k) c) (λ b. es_from row c n (k + 1) b) (row-by (at (row k).fs 1 ≤f f0) a k (row k) c) (λ b. es-in row c n (k + 1) b)

  -- ---- the whole

  abbrev Good : Result AnswerAndRow Refusal → Type 0
  Good x = MatchResult x (λ d. HourGood d.answer.hour) P

  es-by : (x : Result EsSearch Refusal) (t : IonoState) (fe : Float) (m : RegularLines) (ks : ℕ) → ks < 3 → IfErr x P → Good (es_by x t fe m ks)
  unfolding found_muf_of hour_of mode_of
  es-by (Ok a) t fe m ks h p = let all = max_of (max_of m.e.ymuf m.f1.ymuf) m.f2.ymuf in (mode-by (m.e.ymuf -f all ≥f f0) (m.f1.ymuf -f all ≥f f0) m, h)
  es-by (Err r) t fe m ks h p = p

  regular-by : (x : Result RegularLines Refusal) (t : IonoState) (l : Slot) (ks : ℕ) (step : Result EsSearch Refusal) → ks < 3 → IfErr x P → IfErr step P → Good (regular_by x t l ks step)
  regular-by (Ok m) t l ks step h p q = es-by step t l.fi0 m ks h q
  regular-by (Err r) t l ks step h p q = p

  search-by : (d : Bool) (s : IonoState) (step : Result EsSearch Refusal) (f2d clat clck : List Float) (c : PathNumbers) → eqb (length f2d) 576 ≡ true → IfErr step P → Good (muf_from_search_by d true gethp_of s step f2d clat clck c)
  unfolding muf_at_slot_with
  search-by true s step f2d clat clck c e q =
      let ks = controlling_of s in
      let t = lecden_of s ks in
      regular-by (regular_with gethp_of t (slot_at t ks) f2d (at clat ks) (at clck ks) c) t (slot_at t ks) ks step (controlling-small s) (regular-in gethp_of t (slot_at t ks) f2d (at clat ks) (at clck ks) c e) q
  search-by false s step f2d clat clck c e q = input

  flat-in : (s : IonoState) (es f2d clat clck : List Float) (c : PathNumbers) → eqb (length f2d) 576 ≡ true → lists_reach (controlling_of s) (length f2d) (length clat) (length clck) ≡ true → Good (flat_muf_of s es f2d clat clck c)
  unfolding flat_muf_with muf_of_rows_with muf_from_search_with
  flat-in s es f2d clat clck c e reach =
      let n = row_count_of (length es) s.km in
      let step = es_from (row_at es) c n 0 start_of in
      subst (λ (b : Bool). Good (muf_from_search_by (in_domain c) b gethp_of s step f2d clat clck c)) (sym reach) (search-by (in_domain c) s step f2d clat clck c e (es-in (row_at es) c n 0 start_of))

  refused-in : (x : Result AnswerAndRow Refusal) → Good x → IfErr x P
  refused-in (Ok d) h = tt
  refused-in (Err r) h = h

  pub flat-refused : (s : IonoState) (es f2d clat clck : List Float) (c : PathNumbers) → eqb (length f2d) 576 ≡ true → lists_reach (controlling_of s) (length f2d) (length clat) (length clck) ≡ true → IfErr (flat_muf_of s es f2d clat clck c) P
  flat-refused s es f2d clat clck c e reach = refused-in (flat_muf_of s es f2d clat clck c) (flat-in s es f2d clat clck c e reach)

  answer-in : (x : Result AnswerAndRow Refusal) → Good x → MatchResult (answer_by x) (λ a. HourGood a.hour) P
  answer-in (Ok d) h = h
  answer-in (Err r) h = h

  pub muf-in : (s : IonoState) (es f2d clat clck : List Float) (c : PathNumbers) → eqb (length f2d) 576 ≡ true → lists_reach (controlling_of s) (length f2d) (length clat) (length clck) ≡ true → MatchResult (curmuf_of s es f2d clat clck c) (λ a. HourGood a.hour) P
  muf-in s es f2d clat clck c e reach = answer-in (flat_muf_of s es f2d clat clck c) (flat-in s es f2d clat clck c e reach)
