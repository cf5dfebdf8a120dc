-- Every number that `ionset` or `lecden` stores into the semi-thicknesses, the layers' heights or the profile's is one that stood there, a constant or the result of an operation, which is rounded to the format: so f32 numbers stay f32 numbers.
use mathlib.Core.Bool.{Bool, true, false, cond, ◌||◌}
use mathlib.Core.List.{List, [], ◌∷◌}
use mathlib.Core.Path.{◌≡◌, sym, subst}
use Rattle.std.specs.Prelude.{Result, Ok, IfOk}
use Rattle.refusal.specs.declared.Refusal.{Refusal}
use Prim.Native.Nat.{ℕ, zero, suc, ◌+◌, ◌*◌}
use lib.Dec.{leb}
use lib.ListN.{set, replicate}
use lib.Ieee.{Float, binary32, of_bits, fits, is_nan}
use lib.Ieee.Fits.{nan-fits, add-fits, sub-fits, mul-fits, div-fits}
use Rattle.scalar.specs.F32.{◌+f◌, ◌-f◌, ◌*f◌, ◌/f◌, ◌<f◌, ◌>f◌, ◌≥f◌, at}
use Rattle.scalar.specs.Literals.{f0, f0_001, f0_17, f0_25, f0_5, f0_85, f1, f2, f6, f10, f22, f32, f70}
use Rattle.scalar.specs.Scalar.{or_second, min_of, max_of}
use Rattle.scalar.specs.Root.{sqrt_of}
use Rattle.same.specs.Same.{F32}
use Rattle.layers.specs.State.{with_kfx}
use Rattle.layers.specs.Owners.{disowned}
use Rattle.layers.proofs.slots.OwnersLeft.{disowned-only}
use Rattle.layers.specs.Rules.{count_taken, too_close}
use Rattle.layers.specs.Ionset.{layer_from, two_slots, three_slots, assigned_by, assigned_of, f1_kept_by, f1_settled, f2_settled, slot_settled, slots_settled, ionset_by, ionset_of}
use Rattle.layers.specs.Ionset as ionset
use Rattle.layers.specs.declared.IonoState.{IonoState}
use Rattle.profile.specs.Draw.{tail_of}
use Rattle.profile.specs.Lecden.{slot_at, slot_written, supplied_of, lecden_by, lecden_of}
use Rattle.profile.specs.F1.{valley_of, f1_of, reshaped_of}
use Rattle.profile.specs.Grid.{filled, lower_of, f2_only_of, upper_by, upper_of, heights_of}
use Rattle.profile.specs.declared.slot_curves.Slot.{Slot}
use Rattle.profile.specs.declared.slot_curves.Valley.{Valley}
use Rattle.profile.specs.declared.slot_curves.F1Shape.{F1Shape}
use Rattle.heights.specs.Walk.{EachF32}
use Rattle.call_lists.specs.Lists.{HeldNumbers}

constants : F32 f0 × F32 f1 × F32 f70
unfolding of_bits fits
constants = (tt, tt, tt)

-- ---- one of two, and lists

one_of : (b : Bool) (x y : Float) → F32 x → F32 y → F32 (or_second b x y)
unfolding or_second
one_of true x y p q = q
one_of false x y p q = p

min-fits : (x y : Float) → F32 x → F32 y → F32 (min_of x y)
unfolding min_of
min-fits x y p q = one_of (is_nan x || (y <f x)) x y p q

max-fits : (x y : Float) → F32 x → F32 y → F32 (max_of x y)
unfolding max_of
max-fits x y p q = one_of (is_nan x || (y >f x)) x y p q

set-held : (l : List Float) (n : ℕ) (x : Float) → EachF32 l → F32 x → EachF32 (set l n x)
set-held [] n x h p i = h i
set-held (y ∷ l) zero x h p zero = p
set-held (y ∷ l) zero x h p (suc i) = h (suc i)
set-held (y ∷ l) (suc n) x h p zero = h zero
set-held (y ∷ l) (suc n) x h p (suc i) = set-held l n x (λ j. h (suc j)) p i

all_alike : (n : ℕ) (x : Float) → F32 x → EachF32 (replicate n x)
all_alike zero x p i = nan-fits binary32
all_alike (suc n) x p zero = p
all_alike (suc n) x p (suc i) = all_alike n x p i

-- ---- the fifty heights

filled-held : (l : List Float) (from : ℕ) (d : Float) (n : ℕ) → EachF32 l → EachF32 (filled l from d n)
unfolding filled
filled-held l from d zero h = h
filled-held l from d (suc n) h = let k = filled l from d n in set-held k (from + n + 1) (at k (from + n) +f d) (filled-held l from d n h) (add-fits binary32 (at k (from + n)) d)

lower-held : (l : List Float) (s : Slot) (hex : Float) → EachF32 l → F32 hex → F32 s.hi0 → EachF32 (lower_of l s hex)
unfolding lower_of
lower-held l s hex h ph p0 =
    let a0 = set l 0 f70 in
    let a = set a0 4 hex in
    let hdif = max_of ((at a 4 -f at a 0) *f f0_25) f0 in
    let b = set a 3 (at a 4 -f min_of hdif f1) in
    let c = set b 1 (at b 0 +f hdif) in
    let d = set c 2 ((at c 1 +f at c 3) *f f0_5) in
    let e = set d 10 s.hi0 in
    let g = filled e 4 ((at e 10 -f at e 4) /f f6) 5 in
    let m = set g 16 (s.hi0 +f s.yi0) in
    let i = filled m 10 ((at m 16 -f at m 10) /f f6) 5 in
    let ha = set-held a0 4 hex (set-held l 0 f70 h constants.2) ph in
    let hb = set-held a 3 (at a 4 -f min_of hdif f1) ha (sub-fits binary32 (at a 4) (min_of hdif f1)) in
    let hc = set-held b 1 (at b 0 +f hdif) hb (add-fits binary32 (at b 0) hdif) in
    let hd = set-held c 2 ((at c 1 +f at c 3) *f f0_5) hc (mul-fits binary32 (at c 1 +f at c 3) f0_5) in
    let he = set-held d 10 s.hi0 hd p0 in
    let hg = filled-held e 4 ((at e 10 -f at e 4) /f f6) 5 he in
    let hm = set-held g 16 (s.hi0 +f s.yi0) hg (add-fits binary32 s.hi0 s.yi0) in
    let hi = filled-held m 10 ((at m 16 -f at m 10) /f f6) 5 hm in
    set-held i 10 (f0_5 *f (at i 9 +f at i 11)) hi (mul-fits binary32 f0_5 (at i 9 +f at i 11))

upper_by_lem : (b : Bool) (l : List Float) (s : Slot) → EachF32 l → F32 s.hi1 → EachF32 (upper_by b l s)
upper_by_lem true l s h p1 =
    let a = set l 17 (s.hi2 -f s.yi2) in
    filled-held a 17 ((at a 49 -f at a 17) /f f32) 31 (set-held l 17 (s.hi2 -f s.yi2) h (sub-fits binary32 s.hi2 s.yi2))
upper_by_lem false l s h p1 =
    let x = max_of (s.hi1 -f s.yi1) (at l 16 +f f1) in
    let a = set l 17 x in
    let b = set a 27 s.hi1 in
    let c = filled b 17 ((at b 27 -f at b 17) /f f10) 9 in
    let ha = set-held l 17 x h (max-fits (s.hi1 -f s.yi1) (at l 16 +f f1) (sub-fits binary32 s.hi1 s.yi1) (add-fits binary32 (at l 16) f1)) in
    filled-held c 27 ((at c 49 -f at c 27) /f f22) 21 (filled-held b 17 ((at b 27 -f at b 17) /f f10) 9 (set-held a 27 s.hi1 ha p1))

heights-held : (s : Slot) (hex : Float) → F32 hex → F32 s.hi0 → F32 s.hi1 → F32 s.hi2 → EachF32 (heights_of s hex)
unfolding heights_of upper_of
heights-held s hex ph p0 p1 p2 =
    let l = lower_of (replicate 50 f0) s hex in
    let m = set l 49 s.hi2 in
    upper_by_lem (f2_only_of s) m s (set-held l 49 s.hi2 (lower-held (replicate 50 f0) s hex (all_alike 50 f0 constants.0) ph p0) p2) p1

-- ---- the F1 layer reshaped

abbrev Reshaped : F1Shape → Type 0
Reshaped f = F32 f.hi1 × F32 f.yi1

-- whichever of two shapes a test takes
either_held : (b : Bool) (f g : F1Shape) → Reshaped f → Reshaped g → Reshaped (cond b f g)
either_held true f g p q = p
either_held false f g p q = q

f1-held : (s : Slot) (v : Valley) → F32 s.hi1 → F32 s.yi1 → Reshaped (f1_of s v)
unfolding f1_of
f1-held s v p q =
    let fc1 = s.fi1 *f s.fi1 in
    let hb1 = s.hi1 -f s.yi1 in
    let rise = s.yi2 *f (f1 -f sqrt_of (f1 -f fc1 /f v.fc2)) in
    let htw = v.hb2 +f rise in
    let ys = max_of (htw -f hb1) f1 in
    let ratio = s.fi0 /f s.fi1 in
    let denom = max_of (f1 -f ratio *f ratio) f0_17 in
    let yb = (htw -f s.hi0) /f denom in
    let held = add-fits binary32 v.hb2 rise in
    let stays = min-fits s.yi1 (s.hi1 -f s.hi0 +f f1) q (add-fits binary32 (s.hi1 -f s.hi0) f1) in
    let lowered = min-fits (htw -f v.hb2) (htw -f s.hi0 +f f1) (sub-fits binary32 htw v.hb2) (add-fits binary32 (htw -f s.hi0) f1) in
    let line = div-fits binary32 (htw -f s.hi0) denom in
    let foot = max-fits (htw -f hb1) f1 (sub-fits binary32 htw hb1) constants.1 in
    either_held (s.fi1 >f f0) _ _ (either_held (htw >f s.hi1 +f f0_001) _ _ (p, stays) (either_held (v.hb2 -f hb1 <f f0) _ _ (held, lowered) (either_held (ys -f yb ≥f f0) _ _ (held, line) (held, foot)))) (p, q)

-- ---- `lecden`

lecden-by : (b : Bool) (s : IonoState) (k : ℕ) → HeldNumbers s → HeldNumbers (lecden_by b s k)
unfolding slot_at slot_written reshaped_of tail_of
lecden-by true s k n = n
lecden-by false s k n =
    let p = slot_at s k in
    let f = f1_of p (valley_of p) in
    let q = reshaped_of p f in
    let r = f1-held p (valley_of p) (n.hi-held (3 * k + 1)) (n.yi-held (3 * k + 1)) in
    record {
      yi-held = set-held s.yi (3 * k + 1) f.yi1 n.yi-held r.1;
      hi-held = set-held s.hi (3 * k + 1) f.hi1 n.hi-held r.0;
      htr-held = heights-held q (tail_of q).hex (sub-fits binary32 q.hi0 (f0_85 *f q.yi0)) (n.hi-held (3 * k)) r.0 (n.hi-held (3 * k + 2));
    }

pub lecden-numbers : (s : IonoState) (k : ℕ) → HeldNumbers s → HeldNumbers (lecden_of s k)
unfolding lecden_of
lecden-numbers s k n = lecden-by (supplied_of s) s k n

-- ---- `ionset`

from-numbers : (s : IonoState) (k p i : ℕ) → HeldNumbers s → HeldNumbers (layer_from s k p i)
unfolding layer_from
from-numbers s k p i n =
    record {
      yi-held = set-held s.yi (3 * k + i) (at s.yi (3 * p + i)) n.yi-held (n.yi-held (3 * p + i));
      hi-held = set-held s.hi (3 * k + i) (at s.hi (3 * p + i)) n.hi-held (n.hi-held (3 * p + i));
      htr-held = n.htr-held;
    }

counted-numbers : (s : IonoState) (kfx : ℕ) → HeldNumbers s → HeldNumbers (with_kfx s kfx)
counted-numbers s kfx n = record { yi-held = n.yi-held; hi-held = n.hi-held; htr-held = n.htr-held }

assigned-by : (a b : Bool) (s : IonoState) → HeldNumbers s → HeldNumbers (assigned_by a b s)
unfolding two_slots three_slots
assigned-by true b s n = counted-numbers s 1 n
assigned-by false true s n = from-numbers _ 1 2 1 (from-numbers _ 1 2 0 (from-numbers _ 0 1 2 (counted-numbers s 2 n)))
assigned-by false false s n =
    from-numbers _ 2 3 2 (from-numbers _ 2 4 1 (from-numbers _ 2 4 0 (from-numbers _ 1 2 2 (from-numbers _ 1 2 1 (from-numbers _ 1 2 0 (from-numbers _ 0 1 2 (counted-numbers s 3 n)))))))

kept_by : (b : Bool) (s : IonoState) (k : ℕ) → HeldNumbers s → HeldNumbers (f1_kept_by b s k)
kept_by true s k n =
    record { yi-held = set-held s.yi (3 * k + 1) f0 n.yi-held constants.0; hi-held = set-held s.hi (3 * k + 1) f0 n.hi-held constants.0; htr-held = n.htr-held }
kept_by false s k n =
    let x = at s.hi (3 * k + 1) in
    let y = at s.hi (3 * k + 2) in
    record { yi-held = n.yi-held; hi-held = set-held s.hi (3 * k + 1) (min_of x y) n.hi-held (min-fits x y (n.hi-held (3 * k + 1)) (n.hi-held (3 * k + 2))); htr-held = n.htr-held }

looked-at : (b : Bool) (s : IonoState) (k : ℕ) → HeldNumbers s → HeldNumbers (ionset.f1_by b s k)
looked-at true s k n = kept_by (too_close (at s.fi (3 * k)) (at s.fi (3 * k + 1)) (at s.fi (3 * k + 2))) s k n
looked-at false s k n = n

f2-settled : (s : IonoState) (k : ℕ) → HeldNumbers s → HeldNumbers (f2_settled s k)
unfolding f2_settled
f2-settled s k n =
    let x = at s.hi (3 * k + 2) -f at s.hi (3 * k) in
    let y = at s.yi (3 * k + 2) in
    record { yi-held = set-held s.yi (3 * k + 2) (min_of y (x -f f2)) n.yi-held (min-fits y (x -f f2) (n.yi-held (3 * k + 2)) (sub-fits binary32 x f2)); hi-held = n.hi-held; htr-held = n.htr-held }

slots-settled : (s : IonoState) (n : ℕ) → HeldNumbers s → HeldNumbers (slots_settled s n)
unfolding slots_settled slot_settled f1_settled
slots-settled s zero h = h
slots-settled s (suc n) h = let t = slots_settled s n in f2-settled (f1_settled t n) n (looked-at (at t.fi (3 * n + 1) >f f0) t n (slots-settled s n h))

disowned-numbers : (s : IonoState) → HeldNumbers s → HeldNumbers (disowned s)
disowned-numbers s n = subst HeldNumbers (sym (disowned-only s)) (record { yi-held = n.yi-held; hi-held = n.hi-held; htr-held = n.htr-held })

ionset-by : (b : Bool) (s : IonoState) → HeldNumbers s → IfOk (ionset_by b s) HeldNumbers
unfolding assigned_of
ionset-by true s n = disowned-numbers (slots_settled (assigned_of s) (assigned_of s).kfx) (slots-settled (assigned_of s) (assigned_of s).kfx (assigned-by (leb s.km 1) (leb s.km 3) s n))
ionset-by false s n = tt

pub ionset-numbers : (s t : IonoState) → HeldNumbers s → ionset_of s ≡ Ok t → HeldNumbers t
unfolding ionset_of
ionset-numbers s t n e = subst (λ (r : Result IonoState Refusal). IfOk r HeldNumbers) e (ionset-by (count_taken s.km) s n)
