-- What the rows of slot k, their loss factors and the layers' MUF lines read of a state: the critical frequencies, the slot's own numbers, the profile and `iedp`. Two states alike in these give the same, each by a way of finding heights that finds the same two, and the same segment, on its own state.
use mathlib.Core.Bool.{Bool, true, false}
use mathlib.Core.List.{List, ◌++◌}
use Rattle.std.specs.Prelude.{Result, Ok, Err}
use Rattle.refusal.specs.declared.Refusal.{Refusal}
use mathlib.Core.Path.{◌≡◌, refl, ap, ◌∙◌}
use Prim.Native.Nat.{ℕ, ◌+◌, ◌*◌}
use native.Mathlib.Nat.{add-zero}
use lib.IntN.{ℤ, pos}
use lib.ListN.{replicate}
use lib.Signed.{lt_z}
use lib.Ieee.{Float}
use Rattle.scalar.specs.F32.{◌-f◌, ◌≤f◌, ◌>f◌, at}
use Rattle.scalar.specs.Literals.{f0}
use Rattle.layers.specs.State.{profile_only, layer_line_at}
use Rattle.layers.specs.declared.IonoState.{IonoState}
use Rattle.layers.specs.declared.LayerMuf.{LayerMuf}
use Rattle.profile.specs.Lecden.{slot_at}
use Rattle.profile.specs.declared.slot_curves.Slot.{Slot}
use Rattle.heights.specs.Gethp.{Finder, gethp_of}
use Rattle.parabolas.specs.Bendy.{bendy_of, pen_of}
use Rattle.heights.proofs.Finders.{FindAlike}
use Rattle.readings.specs.Scan.{unsearched}
use Rattle.reflectrix.specs.declared.Ionogram.{Ionogram}
use Rattle.sounding.specs.Rows.{HTE, HPE, rows_of, true_by_profile, segment_by_profile, virtual_by_parabola, virtual_by, made, rows_by, rows_with}
use Rattle.sounding.specs.Genion.{fvert_at, genion_with}
use Rattle.sounding.proofs.Ways.{rows_agree}
use Rattle.losses.specs.Alosfv.{e_rows, above_by, above_of, alosfv_of}
use Rattle.losses.specs.declared.Factors.{Factors}
use Rattle.losses.specs.declared.Decay.{Decay}
use Rattle.hops.specs.Geometry.{geometry_of}
use Rattle.layer_mufs.specs.Tangents.{tangents_of}
use Rattle.layer_mufs.specs.LayerLine.{read_with, e_heights_by, e_heights_with, e_line_with}
use Rattle.layer_mufs.specs.Lines.{f2_heights_by, f2_heights_with, f2_line_with, f1_own_by, f1_own_with, f1_line_by, f1_line_with}
use Rattle.layer_mufs.specs.declared.PathNumbers.{PathNumbers}
use Rattle.layer_mufs.specs.declared.tangents.F2Tangent.{F2Tangent}
use Rattle.layer_mufs.specs.declared.e_lines.HeightPair.{HeightPair}
use Rattle.muf.specs.Curmuf.{found_then, regular_with}
use Rattle.muf.specs.declared.RegularLines.{RegularLines}

pub record Alike (u v : IonoState) (k : ℕ) : Type 0 where
  pub fi-same : u.fi ≡ v.fi
  pub slot_same : slot_at u k ≡ slot_at v k
  pub htr-same : u.htr ≡ v.htr
  pub fnsq-same : u.fnsq ≡ v.fnsq
  pub mark-same : u.htr_rises ≡ v.htr_rises
  pub iedp-same : u.iedp ≡ v.iedp
  pub owner-same : u.owner ≡ v.owner
  pub exact_same : u.exact_virtual_height ≡ v.exact_virtual_height

-- ---- the slot's numbers one by one

pub record SlotAlike (u v : IonoState) (k : ℕ) : Type 0 where
  pub yi0-same : at u.yi (3 * k) ≡ at v.yi (3 * k)
  pub yi1-same : at u.yi (3 * k + 1) ≡ at v.yi (3 * k + 1)
  pub yi2-same : at u.yi (3 * k + 2) ≡ at v.yi (3 * k + 2)
  pub hi0-same : at u.hi (3 * k) ≡ at v.hi (3 * k)
  pub hi1-same : at u.hi (3 * k + 1) ≡ at v.hi (3 * k + 1)
  pub hi2-same : at u.hi (3 * k + 2) ≡ at v.hi (3 * k + 2)
  pub fsec-same : at u.fsecv k ≡ at v.fsecv k

pub slot-alike : (u v : IonoState) (k : ℕ) → slot_at u k ≡ slot_at v k → SlotAlike u v k
unfolding slot_at
slot-alike u v k e =
    record {
      yi0-same = ap (λ (p : Slot). p.yi0) e;
      yi1-same = ap (λ (p : Slot). p.yi1) e;
      yi2-same = ap (λ (p : Slot). p.yi2) e;
      hi0-same = ap (λ (p : Slot). p.hi0) e;
      hi1-same = ap (λ (p : Slot). p.hi1) e;
      hi2-same = ap (λ (p : Slot). p.hi2) e;
      fsec-same = ap (λ (p : Slot). p.fsec) e;
    }

-- ---- heights

pub gethp-same : (u v : IonoState) → u.htr ≡ v.htr → u.fnsq ≡ v.fnsq → u.exact_virtual_height ≡ v.exact_virtual_height → (f : Float) → gethp_of u f ≡ gethp_of v f
unfolding gethp_of
gethp-same u v eh en ex f = rw (eh, en, ex)

bendy-same : (u v : IonoState) (k : ℕ) → Alike u v k → (f : Float) → bendy_of u 2 k f ≡ bendy_of v 2 k f
unfolding bendy_of
bendy-same u v k a f = rw (a.fi-same, (slot-alike u v k a.slot_same).yi2-same)

pen-same : (u v : IonoState) (k : ℕ) → Alike u v k → (f : Float) → pen_of u 0 k f ≡ pen_of v 0 k f
unfolding pen_of
pen-same u v k a f = rw (a.fi-same, add-zero (3 * k), (slot-alike u v k a.slot_same).yi0-same)

-- ---- the ionogram

fvert-same : (u v : IonoState) (k : ℕ) → Alike u v k → fvert_at u k ≡ fvert_at v k
unfolding fvert_at
fvert-same u v k a = rw a.fi-same

true_same : (u v : IonoState) (k : ℕ) → Alike u v k → (f : Float) → true_by_profile u f ≡ true_by_profile v f
unfolding true_by_profile
true_same u v k a f = rw (a.fnsq-same, a.htr-same)

segment-same : (u v : IonoState) (k : ℕ) → Alike u v k → (f : Float) → segment_by_profile u f ≡ segment_by_profile v f
unfolding segment_by_profile
segment-same u v k a f = rw (a.fnsq-same, a.htr-same)

parabola-same : (u v : IonoState) (k : ℕ) → Alike u v k → (f : Float) → virtual_by_parabola u k f ≡ virtual_by_parabola v k f
unfolding virtual_by_parabola
parabola-same u v k a f =
    let p = slot-alike u v k a.slot_same in rw (p.hi2-same, p.yi2-same, bendy-same u v k a f, pen-same u v k a f, p.yi0-same)

module _ (find other : Finder) (u v : IonoState) (k : ℕ) (a : Alike u v k) (found : FindAlike find u other v) where
  virtual-same : (b : Bool) (f : Float) → virtual_by b find u k f ≡ virtual_by b other v k f
  virtual-same true f = (found f).0
  virtual-same false f = parabola-same u v k a f

  rows_same : (b : Bool) (fv : List Float) → rows_by b find u k fv ≡ rows_by b other v k fv
  rows_same true fv =
      rw (rows_agree (λ f. (find u f).hp) (λ f. (other v f).hp) (λ f. (found f).0) fv 0 _ 30, rows_agree (λ f. (find u f).ht) (λ f. (other v f).ht) (λ f. (found f).1) fv 0 _ 30, rows_agree (λ f. (find u f).segment) (λ f. (other v f).segment) (λ f. (found f).2) fv 0 _ 30)
  rows_same false fv =
      let e : (at u.fi (3 * k + 1) >f f0) ≡ (at v.fi (3 * k + 1) >f f0) = ap (λ (fi : List Float). at fi (3 * k + 1) >f f0) a.fi-same in
      ap (λ (hprim : List Float). made fv hprim (rows_of (λ f. true_by_profile u f) fv 10 (HTE ++ replicate 20 f0) 20) (rows_of (λ f. segment_by_profile u f) fv 10 (replicate 30 unsearched) 20))
      (rows_agree (λ f. virtual_by (at u.fi (3 * k + 1) >f f0) find u k f) (λ f. virtual_by (at v.fi (3 * k + 1) >f f0) other v k f) (λ f. virtual-same (at u.fi (3 * k + 1) >f f0) f ∙ ap (λ (b : Bool). virtual_by b other v k f) e) fv 10 (HPE ++ replicate 20 f0) 20)
      ∙ ap (λ (htrue : List Float). made fv (rows_of (λ f. virtual_by (at v.fi (3 * k + 1) >f f0) other v k f) fv 10 (HPE ++ replicate 20 f0) 20) htrue (rows_of (λ f. segment_by_profile u f) fv 10 (replicate 30 unsearched) 20))
      (rows_agree (λ f. true_by_profile u f) (λ f. true_by_profile v f) (true_same u v k a) fv 10 (HTE ++ replicate 20 f0) 20)
      ∙ ap (λ (segment : List ℕ). made fv (rows_of (λ f. virtual_by (at v.fi (3 * k + 1) >f f0) other v k f) fv 10 (HPE ++ replicate 20 f0) 20) (rows_of (λ f. true_by_profile v f) fv 10 (HTE ++ replicate 20 f0) 20) segment)
      (rows_agree (λ f. segment_by_profile u f) (λ f. segment_by_profile v f) (segment-same u v k a) fv 10 (replicate 30 unsearched) 20)

  pub genion-same : genion_with find u k ≡ genion_with other v k
  unfolding genion_with rows_with profile_only
  genion-same =
      rows_same (lt_z u.iedp (pos 0)) (fvert_at u k) ∙ ap (λ (i : ℤ). rows_by (lt_z i (pos 0)) other v k (fvert_at u k)) a.iedp-same ∙ ap (λ (fv : List Float). rows_by (lt_z v.iedp (pos 0)) other v k fv) (fvert-same u v k a)

-- ---- the loss factors

above-by : (b : Bool) (u v : IonoState) (k : ℕ) → Alike u v k → (f : Factors) (ion : Ionogram) (layers : List LayerMuf) → above_by b f u k ion layers ≡ above_by b f v k ion layers
above-by true u v k a f ion layers = rw (slot-alike u v k a.slot_same).yi2-same
above-by false u v k a f ion layers = let p = slot-alike u v k a.slot_same in rw (p.yi1-same, p.yi2-same)

above_same : (u v : IonoState) (k : ℕ) → Alike u v k → (f : Factors) (ion : Ionogram) (layers : List LayerMuf) → above_of f u k ion layers ≡ above_of f v k ion layers
unfolding above_of
above_same u v k a f ion layers =
    rw (above-by (at u.fi (3 * k + 1) ≤f f0) u v k a f ion layers, a.fi-same)

abbrev decay_at : IonoState → ℕ → Decay
decay_at s k = record { hz = at s.hi (3 * k) -f at s.yi (3 * k); y = at s.yi (3 * k) }

decay-same : (u v : IonoState) (k : ℕ) → Alike u v k → decay_at u k ≡ decay_at v k
decay-same u v k a = let p = slot-alike u v k a.slot_same in rw (p.hi0-same, p.yi0-same)

pub alosfv-same : (u v : IonoState) (k : ℕ) → Alike u v k → (ion : Ionogram) (layers : List LayerMuf) → alosfv_of u k ion layers ≡ alosfv_of v k ion layers
unfolding alosfv_of
alosfv-same u v k a ion layers =
    let start : Factors = record { cf = f0; afac = ion.afac } in
    rw (above_same u v k a (e_rows start ion (layer_line_at layers 0) (decay_at u k) 10) ion layers, decay-same u v k a)

-- ---- the layers' MUF lines

shape_same : (u v : IonoState) (k : ℕ) → Alike u v k → profile_only u ≡ profile_only v
unfolding profile_only
shape_same u v k a = rw a.iedp-same

module _ (find other : Finder) (u v : IonoState) (k : ℕ) (a : Alike u v k) (found : FindAlike find u other v) where
  read_same : (f : Float) → read_with find u f ≡ read_with other v f
  read_same f = rw ((found f).0, (found f).1)

  e-heights-by : (b : Bool) (f : Float) → e_heights_by b find u f ≡ e_heights_by b other v f
  e-heights-by true f = read_same f
  e-heights-by false f = refl

  e-line-same : (fxe gcdkm amind : Float) → e_line_with find u fxe gcdkm amind ≡ e_line_with other v fxe gcdkm amind
  unfolding e_line_with e_heights_with
  e-line-same fxe gcdkm amind =
      rw (e-heights-by (profile_only u) fxe, shape_same u v k a)

  f2-heights-by : (b f1 : Bool) (l : Slot) (x : F2Tangent) → f2_heights_by b f1 find u l x ≡ f2_heights_by b f1 other v l x
  f2-heights-by true f1 l x = read_same x.fx2
  f2-heights-by false true l x = read_same x.fx2
  f2-heights-by false false l x = refl

  f2-line-same : (l : Slot) (x : F2Tangent) (f2d : List Float) (clat clck : Float) (c : PathNumbers) → f2_line_with find u l x f2d clat clck c ≡ f2_line_with other v l x f2d clat clck c
  unfolding f2_line_with f2_heights_with
  f2-line-same l x f2d clat clck c =
      rw (f2-heights-by (profile_only u) (l.fi1 >f f0) l x, shape_same u v k a)

  f1-line-by : (b : Bool) (l : Slot) (fx1 : Float) (e : LayerMuf) (gcdkm amind : Float) → f1_line_by b find u l fx1 e gcdkm amind ≡ f1_line_by b other v l fx1 e gcdkm amind
  unfolding f1_own_with
  f1-line-by true l fx1 e gcdkm amind = refl
  f1-line-by false l fx1 e gcdkm amind = ap (λ (h : HeightPair). f1_own_by (geometry_of gcdkm amind h.hp h.ht true) h l.fi1 fx1) (read_same fx1)

  f1-line-same : (l : Slot) (fx1 : Float) (e : LayerMuf) (gcdkm amind : Float) → f1_line_with find u l fx1 e gcdkm amind ≡ f1_line_with other v l fx1 e gcdkm amind
  unfolding f1_line_with
  f1-line-same l fx1 e gcdkm amind = f1-line-by (l.fi1 ≤f f0) l fx1 e gcdkm amind

  -- gone on from alike
  then_same : (y : Result LayerMuf Refusal) (f g : LayerMuf → Result RegularLines Refusal) → ((m : LayerMuf) → f m ≡ g m) → found_then y f ≡ found_then y g
  then_same (Ok m) f g h = h m
  then_same (Err r) f g h = refl

  pub three-same : (l : Slot) (f2d : List Float) (clat clck : Float) (c : PathNumbers) → regular_with find u l f2d clat clck c ≡ regular_with other v l f2d clat clck c
  unfolding regular_with
  three-same l f2d clat clck c =
      let x = tangents_of l c.gcdkm in
      let whole : LayerMuf → LayerMuf → LayerMuf → Result RegularLines Refusal = λ e f2 f1. Ok (record { e = e; f1 = f1; f2 = f2 }) in
      let last : Finder → IonoState → LayerMuf → LayerMuf → Result RegularLines Refusal = λ w t e f2. found_then (f1_line_with w t l x.fx1 e c.gcdkm c.amind) (whole e f2) in
      let next : Finder → IonoState → LayerMuf → Result RegularLines Refusal = λ w t e. found_then (f2_line_with w t l x.f2 f2d clat clck c) (last w t e) in
      ap (λ (y : Result LayerMuf Refusal). found_then y (next find u)) (e-line-same x.fxe c.gcdkm c.amind)
      ∙ then_same (e_line_with other v x.fxe c.gcdkm c.amind) (next find u) (next other v)
      (λ (e : LayerMuf). ap (λ (y : Result LayerMuf Refusal). found_then y (last find u e)) (f2-line-same l x.f2 f2d clat clck c)
      ∙ then_same (f2_line_with other v l x.f2 f2d clat clck c) (last find u e) (last other v e)
      (λ (f2 : LayerMuf). ap (λ (y : Result LayerMuf Refusal). found_then y (whole e f2)) (f1-line-same l x.fx1 e c.gcdkm c.amind)))
