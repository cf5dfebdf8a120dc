-- Half the path over the hops: the hops are the quotient of a path not below 0 by a distance not below 0, plus 1. So they are 1
-- or more, or an infinity, of which -infinity comes from a height of -0, or NaN.
use mathlib.Core.Path.{◌≡◌, refl, sym, ap, ◌∙◌, subst}
use mathlib.Core.Bool.{Bool, true, false, cond}
use mathlib.Core.Logic.{◌⊎◌, inl, inr}
use Prim.Native.Nat.{ℕ, zero, suc, ◌+◌, ◌*◌, ◌^◌, ◌≤◌, ◌<◌}
use native.Mathlib.Nat.{le-add_right, mul-pos, zero-mul}
use native.Mathlib.Omega.{arith}
use lib.Dec.{T, eqb, lt→ltb}
use lib.IntN.{ℤ, pos}
use lib.Pow.{pow_pos}
use lib.Ieee.{Float, nan, inf, fin, Format, binary32, low, up, down, unlike, fits, round, of_bits, neg, lt, add, mul, div}
use lib.Ieee.Fits.{nan-fits, up_pos, add-fits, mul-fits, div-fits}
use lib.Ieee.Positive.{positive}
use lib.Ieee.Scale.{overflow, finite}
use Rattle.scalar.specs.F32.{◌+f◌, ◌*f◌, ◌/f◌}
use Rattle.scalar.specs.Literals.{f0, f0_5, f1, f6_3, f40100}
use Rattle.scalar.specs.Root.{sqrt_of}
use Rattle.scalar.proofs.CorrectRoot.{sqrt-correct}
use Rattle.same.specs.Same.{F32}
use Rattle.order.specs.Units.{mag, key, total}
use Rattle.order.proofs.Keys.{mag-val, mag-inf, overflow-pos}
use Rattle.order.proofs.Sums.{add-key, total_mono}
use Rattle.muf.specs.Domain.{within_of}
use Rattle.angles.proofs.Keys.{UpTo, Above, key-size, none-size, div-key, mul-key}
use Rattle.angles.specs.Angles.{Small}
use Rattle.angles.proofs.Angles.{sin-answers, cos-answers, zero-key, f0-fits, f0-finite, hop-constants, half-path, over-hops, gcd-up-to, gcdkm-up-to}
use Rattle.nominal.specs.FactorLiterals.{f225}
use Rattle.nominal.specs.Nommuf.{hop_of, path_taken}
use Rattle.nominal.specs.Angles.{nominal_psi, NominalNeverRefused13}
use Rattle.std.proofs.lemmas.Bool.{and_parts}

module _ (f : Format) where
  -- not below 0; NaN and -0 count as 0
  abbrev NotBelow : Float → Type 0
  NotBelow x = overflow f ≤ key f x

  plus-not-below : (x : ℕ) → overflow f ≤ overflow f + x
  plus-not-below x = le-add_right (overflow f) x

  nan-not-below : NotBelow nan
  nan-not-below = plus-not-below _

  inf-not-below : NotBelow (inf false)
  inf-not-below = plus-not-below _

  zero-not-below : (s : Bool) (e : ℤ) → NotBelow (fin s 0 e)
  zero-not-below true e = let z = none-size f true e in omega arith
  zero-not-below false e = plus-not-below _

  positive-not-below : (x : Float) → T (positive x) → NotBelow x
  positive-not-below nan p = absurd p
  positive-not-below (inf s) p = absurd p
  positive-not-below (fin true m e) p = absurd p
  positive-not-below (fin false m e) p = plus-not-below _

  -- minus infinity is below
  bottom-below : NotBelow (inf true) → ⊥
  bottom-below h = let o = overflow-pos f in let m = mag-inf f true in omega arith

  factor-pos : (a m d : ℕ) → 0 < a → a ≡ m * d → 0 < m
  factor-pos a zero d h e = let z = zero-mul d in absurd (omega arith)
  factor-pos a (suc m) d h e = omega arith

  above : (t : Bool) (n : ℕ) (e : ℤ) → T (fits f (fin t (suc n) e)) → NotBelow (fin t (suc n) e) → Above f (fin t (suc n) e)
  above t n e p h =
      let k = key-size f (fin t (suc n) e) p tt h in
      let w : 0 < suc n * up e * 2 ^ low f = mul-pos (mul-pos (let z : 0 < suc n = omega arith in z) (up_pos e)) (pow_pos (low f)) in
      let m = factor-pos (suc n * up e * 2 ^ low f) (mag f (fin t (suc n) e)) (down e) w (mag-val f t (suc n) e p) in
      omega (arith, k, m)

  -- x + y is not below y, where x is not below 0 and y is what 0 + y rounds to
  sum-from : (zr x y : Float) → T (fits f zr) → T (fits f x) → T (fits f y) → T (finite zr) → T (finite x) → T (finite y) → key f zr ≡ overflow f → add f zr y ≡ y → NotBelow x → key f y ≤ key f (add f x y)
  sum-from zr x y pz px py fz fx fy z e h =
      let k = add-key f x y px py fx fy in
      let o = ap (key f) (sym e) ∙ add-key f zr y pz py fz fy in
      let u : total f (key f zr + key f y) ≤ total f (key f x + key f y) = total_mono f _ _ (omega (arith, z, h)) in
      omega (arith, k, o, u)

-- ---- the root, and the longest hop

root : (x : Float) → F32 x → F32 (sqrt_of x) × NotBelow binary32 (sqrt_of x)
unfolding sqrt_of
root nan p = (nan-fits binary32, nan-not-below binary32)
root (inf true) p = (nan-fits binary32, nan-not-below binary32)
root (inf false) p = (p, inf-not-below binary32)
root (fin s zero e) p = (p, zero-not-below binary32 s e)
root (fin true (suc m) e) p = (nan-fits binary32, nan-not-below binary32)
root (fin false (suc m) e) p = let c = sqrt-correct (fin false (suc m) e) p (lt→ltb 0 (suc m) (omega arith)) in (c.held, positive-not-below binary32 (sqrt_of (fin false (suc m) e)) c.is_positive)

f225-constants : F32 f225 × T (finite f225) × (mul binary32 f225 (inf false) ≡ inf false) × (mul binary32 f225 nan ≡ nan)
unfolding of_bits fits mul
f225-constants = (tt, tt, refl, refl)

f225-not-below : NotBelow binary32 f225
unfolding of_bits
f225-not-below = plus-not-below binary32 _

longest : (r : Float) → F32 r → NotBelow binary32 r → NotBelow binary32 (f225 *f r)
longest nan p h = subst (NotBelow binary32) (sym f225-constants.3) (nan-not-below binary32)
longest (inf true) p h = absurd (bottom-below binary32 h)
longest (inf false) p h = subst (NotBelow binary32) (sym f225-constants.2) (inf-not-below binary32)
longest (fin s m e) p h =
    let k = mul-key binary32 f225 (fin s m e) f225-constants.0 p f225-constants.1 tt f225-not-below h in
    subst (λ (z : ℕ). overflow binary32 ≤ z) (sym k) (plus-not-below binary32 _)

-- ---- the quotient

-- what the path over a distance can be
abbrev Ratio : Float → Type 0
Ratio q = NotBelow binary32 q ⊎ (q ≡ inf true)

by_zero : (b s : Bool) → Ratio (cond b nan (inf s))
by_zero true s = inl (nan-not-below binary32)
by_zero false true = inr refl
by_zero false false = inl (inf-not-below binary32)

ratio : (x d : Float) → UpTo binary32 f40100 x → F32 d → NotBelow binary32 d → Ratio (x /f d)
unfolding div
ratio nan d g p h = absurd g.fin
ratio (inf s) d g p h = absurd g.fin
ratio (fin s m e) nan g p h = inl (nan-not-below binary32)
ratio (fin s m e) (inf t) g p h = inl (zero-not-below binary32 (unlike s t) (pos 0))
ratio (fin s m e) (fin t zero d) g p h = by_zero (eqb m 0) (unlike s t)
ratio (fin s m e) (fin t (suc n) d) g p h =
    inl
    (subst (λ (z : ℕ). overflow binary32 ≤ z) (sym (div-key binary32 (fin s m e) (fin t (suc n) d) g.held p tt tt g.low (above binary32 t n d p h))) (plus-not-below binary32 _))

-- ---- and 1

-- 1 or more, where it is finite
abbrev FromOne : Float → Type 0
FromOne x = T (finite x) → key binary32 f1 ≤ key binary32 x

one_more : f0 +f f1 ≡ f1
unfolding of_bits add round
one_more = refl

plus_one : (q : Float) → F32 q → Ratio q → FromOne (q +f f1)
unfolding add of_bits
plus_one nan p r t = absurd t
plus_one (inf s) p r t = absurd t
plus_one (fin s m e) p (inr w) t = absurd (subst (λ (z : Float). T (finite z)) w tt)
plus_one (fin s m e) p (inl h) t = sum-from binary32 f0 (fin s m e) f1 f0-fits p hop-constants.0 f0-finite tt hop-constants.1 zero-key one_more h

-- ---- half the path over it

zero-small : (b : Bool) → Small (fin b 0 (pos 0))
unfolding lt of_bits neg
zero-small true = (refl, refl)
zero-small false = (refl, refl)

nan-small : Small nan
unfolding lt of_bits neg
nan-small = (refl, refl)

psi-by : (p x : Float) → UpTo binary32 (f0_5 *f f6_3) p → F32 x → FromOne x → Small (p /f x)
unfolding div
psi-by nan x h w o = absurd h.fin
psi-by (inf s) x h w o = absurd h.fin
psi-by (fin s m e) nan h w o = nan-small
psi-by (fin s m e) (inf t) h w o = zero-small (unlike s t)
psi-by (fin s m e) (fin t n d) h w o = over-hops (fin s m e) (fin t n d) h (record { held = w; fin = tt; low = o tt })

psi-small : (gcd gcdkm hs : Float) → F32 gcd → F32 gcdkm → F32 hs → path_taken gcd gcdkm ≡ true → Small (nominal_psi gcd gcdkm hs)
unfolding hop_of path_taken
psi-small gcd gcdkm hs p q r e =
    let w = and_parts (within_of gcdkm f40100) (within_of gcd f6_3) e in
    let v = root hs r in
    let d = f225 *f sqrt_of hs in
    let n = ratio gcdkm d (gcdkm-up-to gcdkm q w.0) (mul-fits binary32 f225 (sqrt_of hs)) (longest (sqrt_of hs) v.0 v.1) in
    psi-by (f0_5 *f gcd) (gcdkm /f d +f f1) (half-path gcd (gcd-up-to gcd p w.1)) (add-fits binary32 (gcdkm /f d) f1) (plus_one (gcdkm /f d) (div-fits binary32 gcdkm d) n)

pub nominal-never-refused-13 : NominalNeverRefused13
nominal-never-refused-13 gcd gcdkm hs p q r e = let h = psi-small gcd gcdkm hs p q r e in (cos-answers (nominal_psi gcd gcdkm hs) h, sin-answers (nominal_psi gcd gcdkm hs) h)
