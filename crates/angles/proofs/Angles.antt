-- Every angle that the MUF hands to sine or cosine is within -4 to 4, or NaN: so refusal 13 is never its answer. The path length is 0 to 40,100 km and 0 to 6.3 radians, amind is not above 90, the number of hops is one that `hops_of` gives; of all else nothing is asked.
use Rattle.std.specs.Prelude.{Ok}
use mathlib.Core.Path.{◌≡◌, refl, sym, ap, ◌∙◌, subst, subst₂}
use mathlib.Core.Bool.{Bool, true, false, ◌&&◌, ◌||◌}
use mathlib.Core.Logic.{◌⊎◌, inl, inr}
use Prim.Native.Nat.{ℕ, ◌+◌, ◌≤◌}
use native.Mathlib.Nat.{le_trans, le_refl, le_of_lt, lt_of_lt_of_le, lt_of_le_of_lt, le-add_right, add-le-add}
use native.Mathlib.Omega.{arith}
use lib.Dec.{T}
use lib.IntN.{ℤ, pos, negsuc}
use lib.Signed.{lt_z}
use lib.Ieee.{Float, nan, inf, fin, binary32, of_bits, to_bits, of_int, round, fits, is_nan, lt, le, neg, add, sub, mul, div}
use lib.Ieee.Fits.{of_int-fits, mul-fits, sub-fits}
use lib.Ieee.Bits.{of_bits-fits}
use lib.Ieee.Scale.{overflow, finite}
use borrow.Author.Tests.{le-ltb, ltb-false}
use Rattle.scalar.specs.F32.{◌+f◌, ◌-f◌, ◌*f◌, ◌/f◌, ◌≤f◌, ◌<f◌, ◌>f◌, negf}
use Rattle.scalar.specs.Literals.{f0, f0_5, f1, f2, f4, f6_3, f90, f1000, f40100}
use Rattle.scalar.specs.Scalar.{max_of, or_second, trunc_of}
use Rattle.std.proofs.lemmas.Float.{T_from_true}
use Rattle.scalar.proofs.Nan.{nan-only}
use Rattle.same.specs.Same.{F32}
use Rattle.order.specs.Units.{real, key, rounded}
use Rattle.order.proofs.Keys.{lt-key, overflow-pos}
use Rattle.order.proofs.Sums.{round-as, round-key, rounded-mono, finite-real}
use Rattle.order.proofs.Tests.{nought-is, nought-key, le→keys, le-real, lt→keys, lt-real}
use Rattle.arcs.specs.Atan.{atan_bits, atan_of}
use Rattle.waves.specs.Answers.{sin_answer, cos_answer}
use Rattle.arcs.proofs.Within.{atan-within}
use Rattle.constants.specs.Constants.{D2R, PIO2, RZ}
use Rattle.hops.specs.Geometry.{hop_ratio_of, hops_by, hops_of, psi_of, del_of}
use Rattle.angles.specs.Angles.{Small, SinAnswers, CosAnswers, NeverRefused13}
use Rattle.angles.proofs.Keys.{Above, UpTo, From, Between, quotient, product, product-from, difference, finite-of, key-range}
use Rattle.std.proofs.lemmas.Bool.{and_parts, or_parts}

-- and then sine and cosine answer
pub sin-answers : SinAnswers
unfolding sin_answer
sin-answers x h = rw (h.0, h.1)

pub cos-answers : CosAnswers
unfolding cos_answer
cos-answers x h = rw (h.0, h.1)

small-nan : (x : Float) → is_nan x ≡ true → Small x
unfolding lt is_nan of_bits neg
small-nan nan e = (refl, refl)
small-nan (inf s) e = let z : ◌≡◌ {A = ℕ} 0 1 = cc in absurd (omega arith)
small-nan (fin s m e) q = let z : ◌≡◌ {A = ℕ} 0 1 = cc in absurd (omega arith)

pub zero-key : key binary32 f0 ≡ overflow binary32
zero-key = ap (key binary32) nought-is ∙ nought-key binary32

four-fits : F32 f4 × F32 (negf f4) × T (finite f4) × T (finite (negf f4))
unfolding of_bits fits neg
four-fits = (tt, tt, tt, tt)

small-between : (A B x : Float) → F32 A → F32 B → T (le (negf f4) A) → T (le B f4) → Between binary32 A B x → Small x
small-between A B x pa pb lo hi h =
    let r = finite-real x h.fin in
    let a : key binary32 (negf f4) ≤ key binary32 x =
    le_trans (le→keys binary32 (negf f4) A four-fits.1 pa (le-real (negf f4) A lo).0 (le-real (negf f4) A lo).1 lo) h.low in
    let b : key binary32 x ≤ key binary32 f4 =
    le_trans h.high (le→keys binary32 B f4 pb four-fits.0 (le-real B f4 hi).0 (le-real B f4 hi).1 hi) in (
      lt-key binary32 x (negf f4) h.held four-fits.1 r (finite-real (negf f4) four-fits.3) ∙ le-ltb _ _ a,
      lt-key binary32 f4 x four-fits.0 h.held (finite-real f4 four-fits.2) r ∙ le-ltb _ _ b,
    )

over : (X x : Float) → UpTo binary32 X x → Between binary32 f0 X x
over X x h = record { held = h.held; fin = h.fin; low = rw zero-key h.low; high = h.high }

-- ---- constants

pub f0-fits : F32 f0
unfolding of_bits fits
f0-fits = tt

pub f0-finite : T (finite f0)
unfolding of_bits
f0-finite = tt

up_to : (x X : Float) → F32 x → F32 X → T (finite X) → T (le f0 x) → T (le x X) → UpTo binary32 X x
up_to x X p q c a b =
    let l : overflow binary32 ≤ key binary32 x = rw zero-key at (le→keys binary32 f0 x f0-fits p (le-real f0 x a).0 (le-real f0 x a).1 a) in
    let h : key binary32 x ≤ key binary32 X = le→keys binary32 x X p q (le-real x X b).0 (le-real x X b).1 b in
    let r = key-range binary32 X q c in
    let o = overflow-pos binary32 in
    record { held = p; fin = finite-of binary32 x (le-real f0 x a).1 (lt_of_lt_of_le o l) (lt_of_le_of_lt h r.1); low = l; high = h }

exactly : (x : Float) → F32 x → T (finite x) → Between binary32 x x x
exactly x p c = record { held = p; fin = c; low = le_refl _; high = le_refl _ }

from : (x : Float) → F32 x → T (finite x) → From binary32 x x
from x p c = record { held = p; fin = c; low = le_refl _ }

-- x is one of the domain's numbers 0 to top
domain : (x top : Float) → F32 x → F32 top → T (finite top) → (f0 ≤f x && x ≤f top) ≡ true → UpTo binary32 top x
domain x top p q c e = let w = and_parts (f0 ≤f x) (x ≤f top) e in up_to x top p q c (T_from_true _ w.0) (T_from_true _ w.1)

-- ---- the number of hops: 1 to 1000

one-is : f1 ≡ round binary32 false 1 1
unfolding of_bits round
one-is = refl

thousand-is : f1000 ≡ round binary32 false 1000 1
unfolding of_bits round
thousand-is = refl

pub hop-constants : F32 f1 × T (finite f1) × F32 f1000 × T (finite f1000)
unfolding of_bits fits
hop-constants = (tt, tt, tt, tt)

whole-key : (n : ℕ) → key binary32 (of_int binary32 (pos n)) ≡ overflow binary32 + rounded binary32 n 1
unfolding of_int
whole-key n = round-key binary32 false n 1

whole-real : (n : ℕ) → T (real (of_int binary32 (pos n)))
unfolding of_int
whole-real n = (round-as binary32 false n 1).2

one_key : key binary32 f1 ≡ overflow binary32 + rounded binary32 1 1
one_key = ap (key binary32) one-is ∙ round-key binary32 false 1 1

thousand-key : key binary32 f1000 ≡ overflow binary32 + rounded binary32 1000 1
thousand-key = ap (key binary32) thousand-is ∙ round-key binary32 false 1000 1

pub record HopCount (x : Float) : Type 0 where
  pub from : From binary32 f1 x
  pub upto : UpTo binary32 f1000 x

whole-count : (n : ℕ) → 1 ≤ n → n ≤ 1000 → HopCount (of_int binary32 (pos n))
whole-count n h k =
    let x = of_int binary32 (pos n) in
    let e = whole-key n in
    let a : rounded binary32 1 1 ≤ rounded binary32 n 1 = rounded-mono binary32 1 1 n 1 (omega arith) (omega arith) (omega arith) in
    let b : rounded binary32 n 1 ≤ rounded binary32 1000 1 = rounded-mono binary32 n 1 1000 1 (omega arith) (omega arith) (omega arith) in
    let lo : key binary32 f1 ≤ key binary32 x = subst₂ (λ (u v : ℕ). u ≤ v) (sym one_key) (sym e) (add-le-add (le_refl (overflow binary32)) a) in
    let hi : key binary32 x ≤ key binary32 f1000 = subst₂ (λ (u v : ℕ). u ≤ v) (sym e) (sym thousand-key) (add-le-add (le_refl (overflow binary32)) b) in
    let low : overflow binary32 ≤ key binary32 x = subst (λ (u : ℕ). overflow binary32 ≤ u) (sym e) (le-add_right (overflow binary32) (rounded binary32 n 1)) in
    let r = key-range binary32 f1000 hop-constants.2 hop-constants.3 in
    let fx = finite-of binary32 x (whole-real n) (lt_of_lt_of_le (overflow-pos binary32) low) (lt_of_le_of_lt hi r.1) in
    record {
      from = record { held = of_int-fits binary32 (pos n); fin = fx; low = lo };
      upto = record { held = of_int-fits binary32 (pos n); fin = fx; low = low; high = hi };
    }

counted-by : (b c : Bool) (z : ℤ) (x : Float) → lt_z z (pos 0) ≡ b → lt_z (pos 999) z ≡ c → hops_by b c z ≡ Ok x → HopCount x
counted-by true c z x p q e = let w : ◌≡◌ {A = ℕ} 0 1 = cc in absurd (omega arith)
counted-by false true z x p q e = let w : ◌≡◌ {A = ℕ} 0 1 = cc in absurd (omega arith)
counted-by false false (pos n) x p q e =
    let h = ltb-false 999 n q in
    let w : of_int binary32 (pos (n + 1)) ≡ x = cc in
    subst HopCount w (whole-count (n + 1) (omega arith) (omega arith))
counted-by false false (negsuc n) x p q e = let w : ◌≡◌ {A = ℕ} 0 1 = cc in absurd (omega arith)

pub counted : (gcdkm amind h x : Float) → hops_of gcdkm amind h ≡ Ok x → HopCount x
unfolding hops_of
counted gcdkm amind h x e = let z = trunc_of (hop_ratio_of gcdkm amind h) in counted-by (lt_z z (pos 0)) (lt_z (pos 999) z) z x refl refl e

-- ---- the least takeoff angle, of the hop count

least-constants : F32 f90 × T (finite f90) × F32 D2R × T (finite D2R) × T (le f0 D2R) × T (le f0 f0) × T (le f0 f90) × T (finite (f90 *f D2R)) × F32 (f90 *f D2R) × T (le (f90 *f D2R) f4) × T (le (negf f4) f0)
unfolding of_bits fits le mul round neg
least-constants = (tt, tt, tt, tt, tt, tt, tt, tt, tt, tt, tt)

d2r-self : T (le D2R D2R)
unfolding of_bits le
d2r-self = tt

not-below : (x : Float) → F32 x → T (real x) → (x <f f0) ≡ false → overflow binary32 ≤ key binary32 x
not-below x p r e = rw zero-key at (ltb-false (key binary32 x) (key binary32 f0) (sym (lt-key binary32 x f0 p f0-fits r (finite-real f0 f0-finite)) ∙ e))

real_of : (x : Float) → is_nan x ≡ false → T (real x)
unfolding is_nan
real_of nan e = let z : ◌≡◌ {A = ℕ} 0 1 = cc in absurd (omega arith)
real_of (inf s) e = tt
real_of (fin s m e) q = tt

dele-by : (b : Bool) (a : Float) → F32 a → (is_nan a || (f0 >f a)) ≡ b → (a >f f90) ≡ false → UpTo binary32 f90 (or_second b a f0)
unfolding or_second
dele-by true a p e g = up_to f0 f90 f0-fits least-constants.0 least-constants.1 least-constants.5 least-constants.6
dele-by false a p e g =
    let w = or_parts (is_nan a) (f0 >f a) e in
    let r = real_of a w.0 in
    let l = not-below a p r w.1 in
    let h : key binary32 a ≤ key binary32 f90 = ltb-false _ _ (sym (lt-key binary32 f90 a least-constants.0 p (finite-real f90 least-constants.1) r) ∙ g) in
    let t = key-range binary32 f90 least-constants.0 least-constants.1 in
    record { held = p; fin = finite-of binary32 a r (lt_of_lt_of_le (overflow-pos binary32) l) (lt_of_le_of_lt h t.1); low = l; high = h }

-- cos in the hop count, of the layers and of Es
pub least-angle : (amind : Float) → F32 amind → (amind >f f90) ≡ false → Small (max_of amind f0 *f D2R)
unfolding max_of
least-angle amind p g =
    let k = least-constants in
    let d = dele-by (is_nan amind || (f0 >f amind)) amind p refl g in
    let r = up_to D2R D2R k.2 k.2 k.3 k.4 d2r-self in
    small-between f0 (f90 *f D2R) _ f0-fits k.8 k.10 k.9
    (over (f90 *f D2R) _ (product binary32 f90 D2R _ D2R k.0 k.2 k.1 k.3 k.7 d r))

-- ---- half the angle of a hop at the Earth's centre

abbrev P : Float
P = f40100 /f (f2 *f RZ)

psi-constants : F32 f40100 × T (finite f40100) × F32 (f2 *f RZ) × T (finite (f2 *f RZ)) × T (lt f0 (f2 *f RZ)) × T (finite P) × F32 P × T (lt f0 f1) × T (finite (P /f f1)) × T (finite ((f2 *f RZ) *f f1000)) × T (finite ((f2 *f RZ) *f f1)) × T (lt f0 ((f2 *f RZ) *f f1)) × T (finite (f40100 /f ((f2 *f RZ) *f f1)))
unfolding of_bits fits lt mul div round
psi-constants = (tt, tt, tt, tt, tt, tt, tt, tt, tt, tt, tt, tt, tt)

above : (x : Float) → F32 x → T (lt f0 x) → Above binary32 x
above x p h = rw zero-key at (lt→keys binary32 f0 x f0-fits p (lt-real f0 x h).0 (lt-real f0 x h).1 h)

pub psi-twice : (gcdkm x : Float) → UpTo binary32 f40100 gcdkm → HopCount x → UpTo binary32 (P /f f1) (psi_of gcdkm x true)
psi-twice gcdkm x g h =
    let k = psi-constants in
    let p = quotient binary32 f40100 (f2 *f RZ) gcdkm (f2 *f RZ) k.0 k.2 k.1 k.3 (above (f2 *f RZ) k.2 k.4) k.5 g (from (f2 *f RZ) k.2 k.3) in
    quotient binary32 P f1 (gcdkm /f (f2 *f RZ)) x k.6 hop-constants.0 k.5 hop-constants.1 (above f1 hop-constants.0 k.7) k.8 p h.from

pub psi-once : (gcdkm x : Float) → UpTo binary32 f40100 gcdkm → HopCount x → UpTo binary32 (f40100 /f ((f2 *f RZ) *f f1)) (psi_of gcdkm x false)
psi-once gcdkm x g h =
    let k = psi-constants in
    let c = f2 *f RZ in
    let a = above c k.2 k.4 in
    let w = product binary32 c f1000 c x k.2 hop-constants.2 k.3 hop-constants.3 k.9 (record { held = k.2; fin = k.3; low = le_of_lt a; high = le_refl _ }) h.upto in
    let d = product-from binary32 c f1 c x k.2 hop-constants.0 k.3 hop-constants.1 (le_of_lt a) (le_of_lt (above f1 hop-constants.0 k.7)) w.fin (from c k.2 k.3) h.from in
    quotient binary32 f40100 (c *f f1) gcdkm (c *f x) k.0 (mul-fits binary32 c f1) k.1 k.10 (above (c *f f1) (mul-fits binary32 c f1) k.11) k.12 g d

psi-small : F32 (P /f f1) × T (le (P /f f1) f4) × F32 (f40100 /f ((f2 *f RZ) *f f1)) × T (le (f40100 /f ((f2 *f RZ) *f f1)) f4)
unfolding of_bits fits le mul div round
psi-small = (tt, tt, tt, tt)

-- sin and cos of psi in the hop geometry
pub hop-angle : (gcdkm x : Float) (split : Bool) → UpTo binary32 f40100 gcdkm → HopCount x → Small (psi_of gcdkm x split)
hop-angle gcdkm x true g h = small-between f0 (P /f f1) _ f0-fits psi-small.0 least-constants.10 psi-small.1 (over (P /f f1) _ (psi-twice gcdkm x g h))
hop-angle gcdkm x false g h = small-between f0 (f40100 /f ((f2 *f RZ) *f f1)) _ f0-fits psi-small.2 least-constants.10 psi-small.3 (over (f40100 /f ((f2 *f RZ) *f f1)) _ (psi-once gcdkm x g h))

-- ---- the takeoff angle: half pi, less an arc tangent, less psi

half-constants : F32 PIO2 × F32 (negf PIO2) × T (finite PIO2) × T (finite (negf PIO2)) × T (finite (PIO2 -f PIO2)) × T (finite (PIO2 -f negf PIO2)) × F32 (PIO2 -f PIO2) × F32 (PIO2 -f negf PIO2)
unfolding of_bits fits neg sub add round
half-constants = (tt, tt, tt, tt, tt, tt, tt, tt)

arc : (x : Float) → F32 x → T (le (negf PIO2) x) → T (le x PIO2) → Between binary32 (negf PIO2) PIO2 x
arc x p a b =
    let k = half-constants in
    let l = le→keys binary32 (negf PIO2) x k.1 p (le-real (negf PIO2) x a).0 (le-real (negf PIO2) x a).1 a in
    let h = le→keys binary32 x PIO2 p k.0 (le-real x PIO2 b).0 (le-real x PIO2 b).1 b in
    let r = key-range binary32 (negf PIO2) k.1 k.3 in
    let t = key-range binary32 PIO2 k.0 k.2 in
    record { held = p; fin = finite-of binary32 x (le-real x PIO2 b).0 (lt_of_lt_of_le r.0 l) (lt_of_le_of_lt h t.1); low = l; high = h }

-- psi is at most Q, which is small enough that neither end leaves -4 to 4
record Narrow (Q : Float) : Type 0 where
  held : F32 Q
  fin : T (finite Q)
  lowest : T (finite (PIO2 -f PIO2 -f Q))
  highest : T (finite (PIO2 -f negf PIO2 -f f0))
  above_low : T (le (negf f4) (PIO2 -f PIO2 -f Q))
  below-high : T (le (PIO2 -f negf PIO2 -f f0) f4)

narrow-twice : Narrow (P /f f1)
unfolding of_bits fits le neg sub add mul div round
narrow-twice = record { held = tt; fin = tt; lowest = tt; highest = tt; above_low = tt; below-high = tt }

narrow-once : Narrow (f40100 /f ((f2 *f RZ) *f f1))
unfolding of_bits fits le neg sub add mul div round
narrow-once = record { held = tt; fin = tt; lowest = tt; highest = tt; above_low = tt; below-high = tt }

nan-less : (psi : Float) → Small (PIO2 -f nan -f psi)
unfolding sub add neg lt of_bits round
nan-less psi = (refl, refl)

takeoff-by : (phe psi Q : Float) → F32 phe → (is_nan phe ≡ true) ⊎ (((negf PIO2 ≤f phe) ≡ true) × ((phe ≤f PIO2) ≡ true)) → UpTo binary32 Q psi → Narrow Q → Small (PIO2 -f phe -f psi)
takeoff-by phe psi Q p (inl e) h n = subst (λ (z : Float). Small (PIO2 -f z -f psi)) (sym (nan-only phe e)) (nan-less psi)
takeoff-by phe psi Q p (inr w) h n =
    let k = half-constants in
    let b = difference binary32 PIO2 PIO2 (negf PIO2) PIO2 PIO2 phe k.0 k.0 k.1 k.0 k.2 k.2 k.3 k.2 k.4 k.5 (exactly PIO2 k.0 k.2) (arc phe p (T_from_true _ w.0) (T_from_true _ w.1)) in
    let d = difference binary32 (PIO2 -f PIO2) (PIO2 -f negf PIO2) f0 Q (PIO2 -f phe) psi k.6 k.7 f0-fits n.held k.4 k.5 f0-finite n.fin n.lowest n.highest b (over Q psi h) in
    small-between (PIO2 -f PIO2 -f Q) (PIO2 -f negf PIO2 -f f0) (PIO2 -f phe -f psi) (sub-fits binary32 (PIO2 -f PIO2) Q) (sub-fits binary32 (PIO2 -f negf PIO2) f0) n.above_low n.below-high d

-- it is the value of a pattern
atan-fits : (x : Float) → F32 (atan_of x)
unfolding atan_of
atan-fits x = of_bits-fits binary32 (atan_bits (to_bits binary32 x))

takeoff-small : (psi cpsi spsi hp Q : Float) → UpTo binary32 Q psi → Narrow Q → Small (del_of psi cpsi spsi hp)
unfolding del_of
takeoff-small psi cpsi spsi hp Q h n = let t = spsi /f (f1 -f cpsi +f hp /f RZ) in takeoff-by (atan_of t) psi Q (atan-fits t) (atan-within t) h n

-- cos of the takeoff angle, in the hop geometry and in every round, whatever the heights
pub takeoff-angle : (gcdkm x cpsi spsi hp : Float) (split : Bool) → UpTo binary32 f40100 gcdkm → HopCount x → Small (del_of (psi_of gcdkm x split) cpsi spsi hp)
takeoff-angle gcdkm x cpsi spsi hp true g h = takeoff-small (psi_of gcdkm x true) cpsi spsi hp (P /f f1) (psi-twice gcdkm x g h) narrow-twice
takeoff-angle gcdkm x cpsi spsi hp false g h = takeoff-small (psi_of gcdkm x false) cpsi spsi hp (f40100 /f ((f2 *f RZ) *f f1)) (psi-once gcdkm x g h) narrow-once

-- ---- Es: half the path in radians, over the hops

es-constants : F32 f0_5 × T (finite f0_5) × T (le f0 f0_5) × T (le f0_5 f0_5) × F32 f6_3 × T (finite f6_3) × T (finite (f0_5 *f f6_3)) × F32 (f0_5 *f f6_3) × T (finite (f0_5 *f f6_3 /f f1)) × F32 (f0_5 *f f6_3 /f f1) × T (le (f0_5 *f f6_3 /f f1) f4)
unfolding of_bits fits le mul div round
es-constants = (tt, tt, tt, tt, tt, tt, tt, tt, tt, tt, tt)

-- half the path
pub half-path : (gcd : Float) → UpTo binary32 f6_3 gcd → UpTo binary32 (f0_5 *f f6_3) (f0_5 *f gcd)
half-path gcd g = let k = es-constants in product binary32 f0_5 f6_3 f0_5 gcd k.0 k.4 k.1 k.5 k.6 (up_to f0_5 f0_5 k.0 k.0 k.1 k.2 k.3) g

-- over a number of hops from 1 up, whole or not
pub over-hops : (p x : Float) → UpTo binary32 (f0_5 *f f6_3) p → From binary32 f1 x → Small (p /f x)
over-hops p x h a =
    let k = es-constants in
    let q = quotient binary32 (f0_5 *f f6_3) f1 p x k.7 hop-constants.0 k.6 hop-constants.1 (above f1 hop-constants.0 psi-constants.7) k.8 h a in
    small-between f0 (f0_5 *f f6_3 /f f1) _ f0-fits k.9 least-constants.10 k.10 (over (f0_5 *f f6_3 /f f1) _ q)

-- sin and cos of psi in the Es section
pub es-angle : (gcd x : Float) → UpTo binary32 f6_3 gcd → HopCount x → Small (f0_5 *f gcd /f x)
es-angle gcd x g h = over-hops (f0_5 *f gcd) x (half-path gcd g) h.from

-- the domain gives what these ask
pub gcdkm-up-to : (gcdkm : Float) → F32 gcdkm → (f0 ≤f gcdkm && gcdkm ≤f f40100) ≡ true → UpTo binary32 f40100 gcdkm
gcdkm-up-to gcdkm p e = domain gcdkm f40100 p psi-constants.0 psi-constants.1 e

pub gcd-up-to : (gcd : Float) → F32 gcd → (f0 ≤f gcd && gcd ≤f f6_3) ≡ true → UpTo binary32 f6_3 gcd
gcd-up-to gcd p e = domain gcd f6_3 p es-constants.4 es-constants.5 e

-- ---- all of them, on the domain

-- The domain of refusal 9, whatever the state, the Es rows and the lists.
pub never-refused-13 : NeverRefused13
never-refused-13 gcd gcdkm amind p q r a b c =
    let km = gcdkm-up-to gcdkm q b in
    record {
      least = least-angle amind r c;
      hop = λ h x split e. hop-angle gcdkm x split km (counted gcdkm amind h x e);
      takeoff = λ h x cpsi spsi hp split e. takeoff-angle gcdkm x cpsi spsi hp split km (counted gcdkm amind h x e);
      es = λ h x e. es-angle gcd x (gcd-up-to gcd p a) (counted gcdkm amind h x e);
    }
