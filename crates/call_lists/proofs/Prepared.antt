-- `lecden` of slot k reads of the state the slot's own numbers only, and writes the slot's F1 height and semi-thickness, `fsecv[k]`, the profile and its owner only. With a supplied profile it does nothing.
use mathlib.Core.Bool.{Bool, true, false}
use mathlib.Core.List.{List, [], ◌∷◌}
use mathlib.Core.Logic.{◌≢◌}
use mathlib.Core.Path.{◌≡◌, refl, sym, ap, ◌∙◌, subst}
use Prim.Native.Nat.{ℕ, zero, suc, ◌+◌, ◌*◌, ◌<◌, ◌≤◌}
use native.Mathlib.Nat.{suc_inj, suc-ne-zero}
use native.Mathlib.Omega.{arith}
use lib.ListN.{length, set}
use lib.Ieee.{Float}
use Rattle.scalar.specs.F32.{at}
use Rattle.layers.specs.declared.IonoState.{IonoState}
use Rattle.profile.specs.Lecden.{slot_at, slot_written, supplied_of, profiled_of, lecden_by, lecden_of}
use Rattle.profile.specs.F1.{valley_of, f1_of, reshaped_of}
use Rattle.profile.specs.LecdenKept.{LecdenKept}
use Rattle.profile.specs.declared.slot_curves.Slot.{Slot}
use Rattle.profile.proofs.Keeps.{lecden-keeps, lecden-supplied}
use Rattle.call_lists.proofs.Alike.{Alike, slot-alike}

-- what no call of a list changes; s is the first state, t a later one
pub record Common (s t : IonoState) : Type 0 where
  pub fi-common : t.fi ≡ s.fi
  pub km-common : t.km ≡ s.km
  pub kfx-common : t.kfx ≡ s.kfx
  pub iedp-common : t.iedp ≡ s.iedp
  pub ielect-common : t.ielect ≡ s.ielect
  pub exact-common : t.exact_virtual_height ≡ s.exact_virtual_height
  pub yi-long : length t.yi ≡ length s.yi
  pub hi-long : length t.hi ≡ length s.hi
  pub fsecv-long : length t.fsecv ≡ length s.fsecv
  pub yi-upper : (i : ℕ) → 9 ≤ i → at t.yi i ≡ at s.yi i
  pub hi-upper : (i : ℕ) → 9 ≤ i → at t.hi i ≡ at s.hi i
  pub supplied : s.ielect ≡ true → t ≡ s

pub common-self : (s : IonoState) → Common s s
common-self s =
    record {
      fi-common = refl;
      km-common = refl;
      kfx-common = refl;
      iedp-common = refl;
      ielect-common = refl;
      exact-common = refl;
      yi-long = refl;
      hi-long = refl;
      fsecv-long = refl;
      yi-upper = λ i h. refl;
      hi-upper = λ i h. refl;
      supplied = λ e. refl;
    }

pub alike_self : (s : IonoState) (k : ℕ) → Alike s s k
alike_self s k = record { fi-same = refl; slot_same = refl; htr-same = refl; fnsq-same = refl; mark-same = refl; iedp-same = refl; owner-same = refl; exact_same = refl }

-- ---- a slot written

-- the same number stored into two lists of one length that agree at i: they still do
set_agrees : (l m : List Float) (p : ℕ) (x : Float) (i : ℕ) → length l ≡ length m → at l i ≡ at m i → at (set l p x) i ≡ at (set m p x) i
set_agrees [] [] p x i n e = e
set_agrees [] (b ∷ m) p x i n e = absurd (suc-ne-zero _ (sym n))
set_agrees (a ∷ l) [] p x i n e = absurd (suc-ne-zero _ n)
set_agrees (a ∷ l) (b ∷ m) zero x zero n e = refl
set_agrees (a ∷ l) (b ∷ m) zero x (suc i) n e = e
set_agrees (a ∷ l) (b ∷ m) (suc p) x zero n e = e
set_agrees (a ∷ l) (b ∷ m) (suc p) x (suc i) n e = set_agrees l m p x i (suc_inj n) e

slot-written : (s t : IonoState) (k : ℕ) (q : Slot) → Common s t → slot_at t k ≡ slot_at s k → slot_at (slot_written t k q) k ≡ slot_at (slot_written s k q) k
unfolding slot_at slot_written
slot-written s t k q c e =
    let y : (i : ℕ) → at t.yi i ≡ at s.yi i → at (set t.yi (3 * k + 1) q.yi1) i ≡ at (set s.yi (3 * k + 1) q.yi1) i = λ i h. set_agrees t.yi s.yi (3 * k + 1) q.yi1 i c.yi-long h in
    let z : (i : ℕ) → at t.hi i ≡ at s.hi i → at (set t.hi (3 * k + 1) q.hi1) i ≡ at (set s.hi (3 * k + 1) q.hi1) i = λ i h. set_agrees t.hi s.hi (3 * k + 1) q.hi1 i c.hi-long h in
    let p = slot-alike t s k e in
    rw (c.fi-common, y (3 * k) p.yi0-same, y (3 * k + 1) p.yi1-same, y (3 * k + 2) p.yi2-same, z (3 * k) p.hi0-same, z (3 * k + 1) p.hi1-same, z (3 * k + 2) p.hi2-same, set_agrees t.fsecv s.fsecv k q.fsec k c.fsecv-long p.fsec-same)

-- ---- `lecden` of a slot that stands as it first did

not-supplied : (s : IonoState) (k : ℕ) → s.ielect ≡ false → lecden_of s k ≡ profiled_of s k (slot_at s k)
unfolding lecden_of supplied_of
not-supplied s k e = ap (λ (b : Bool). lecden_by b s k) e

prepared-alike : (s t : IonoState) (k : ℕ) (p : Slot) → Common s t → slot_at t k ≡ slot_at s k → Alike (profiled_of t k p) (profiled_of s k p) k
unfolding slot_at slot_written
prepared-alike s t k p c e =
    record {
      fi-same = c.fi-common;
      slot_same = slot-written s t k (reshaped_of p (f1_of p (valley_of p))) c e;
      htr-same = refl;
      fnsq-same = refl;
      mark-same = refl;
      iedp-same = c.iedp-common;
      owner-same = refl;
      exact_same = c.exact-common;
    }

alike-by : (b : Bool) (s t : IonoState) (k : ℕ) → s.ielect ≡ b → Common s t → slot_at t k ≡ slot_at s k → Alike (lecden_of t k) (lecden_of s k) k
alike-by true s t k i c e = subst (λ (w : IonoState). Alike (lecden_of w k) (lecden_of s k) k) (sym (c.supplied i)) (alike_self (lecden_of s k) k)
alike-by false s t k i c e =
    let et = not-supplied t k (c.ielect-common ∙ i) ∙ ap (λ (p : Slot). profiled_of t k p) e in
    let es = not-supplied s k i in
    subst (λ (w : IonoState). Alike (lecden_of t k) w k) (sym es) (subst (λ (w : IonoState). Alike w (profiled_of s k (slot_at s k)) k) (sym et) (prepared-alike s t k (slot_at s k) c e))

pub lecden-alike : (s t : IonoState) (k : ℕ) → Common s t → slot_at t k ≡ slot_at s k → Alike (lecden_of t k) (lecden_of s k) k
lecden-alike s t k c e = alike-by s.ielect s t k refl c e

-- ---- and what it leaves

first-apart : (k j : ℕ) → 3 * k ≢ 3 * j + 1
first-apart k j e = absurd (omega arith)

middle-apart : (k j : ℕ) → k ≢ j → 3 * k + 1 ≢ 3 * j + 1
middle-apart k j h e = h (omega arith)

last_apart : (k j : ℕ) → 3 * k + 2 ≢ 3 * j + 1
last_apart k j e = absurd (omega arith)

slot_kept : (t r : IonoState) (j k : ℕ) → LecdenKept t r j → k ≢ j → slot_at r k ≡ slot_at t k
unfolding slot_at
slot_kept t r j k p h =
    let y = p.yi-kept.same in
    let z = p.hi-kept.same in
    rw (p.fi-kept, y (3 * k) (first-apart k j), y (3 * k + 1) (middle-apart k j h), y (3 * k + 2) (last_apart k j), z (3 * k) (first-apart k j), z (3 * k + 1) (middle-apart k j h), z (3 * k + 2) (last_apart k j), p.fsecv-kept.same k h)

pub lecden-others : (t : IonoState) (j k : ℕ) → k ≢ j → slot_at (lecden_of t j) k ≡ slot_at t k
lecden-others t j k h = slot_kept t (lecden_of t j) j k (lecden-keeps t j) h

upper-apart : (i j : ℕ) → j < 3 → 9 ≤ i → i ≢ 3 * j + 1
upper-apart i j h g e = absurd (omega arith)

pub lecden-common : (s t : IonoState) (j : ℕ) → j < 3 → Common s t → Common s (lecden_of t j)
lecden-common s t j h c =
    let p = lecden-keeps t j in
    record {
      fi-common = p.fi-kept ∙ c.fi-common;
      km-common = p.km-kept ∙ c.km-common;
      kfx-common = p.kfx-kept ∙ c.kfx-common;
      iedp-common = p.iedp-kept ∙ c.iedp-common;
      ielect-common = p.ielect-kept ∙ c.ielect-common;
      exact-common = p.exact-kept ∙ c.exact-common;
      yi-long = p.yi-kept.long ∙ c.yi-long;
      hi-long = p.hi-kept.long ∙ c.hi-long;
      fsecv-long = p.fsecv-kept.long ∙ c.fsecv-long;
      yi-upper = λ i g. p.yi-kept.same i (upper-apart i j h g) ∙ c.yi-upper i g;
      hi-upper = λ i g. p.hi-kept.same i (upper-apart i j h g) ∙ c.hi-upper i g;
      supplied = λ e. lecden-supplied t j (c.ielect-common ∙ e) ∙ c.supplied e;
    }
