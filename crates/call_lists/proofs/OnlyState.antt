-- The numbers of the tables by place: the first nine are the three slots', the others are said one by one.
use mathlib.Core.List.{List}
use mathlib.Core.Path.{◌≡◌, sym, ap, ◌∙◌}
use Prim.Native.Nat.{ℕ, zero, suc, ◌≤◌, ◌<◌}
use native.Mathlib.Omega.{arith}
use lib.ListN.{length}
use lib.Seq.{ext_get_or}
use lib.Ieee.{Float, nan}
use Rattle.scalar.specs.F32.{at}
use Rattle.layers.specs.declared.IonoState.{IonoState}
use Rattle.profile.specs.Lecden.{slot_at}
use Rattle.profile.specs.declared.slot_curves.Slot.{Slot}
use Rattle.call_lists.specs.Calls.{Call}
use Rattle.call_lists.specs.Lists.{StateLeft, OnlyState}

three-first : (P : ℕ → Type 0) → P 0 → P 1 → P 2 → ((n : ℕ) → P (suc (suc (suc n)))) → (n : ℕ) → P n
three-first P a b c h zero = a
three-first P a b c h (suc zero) = b
three-first P a b c h (suc (suc zero)) = c
three-first P a b c h (suc (suc (suc n))) = h n

-- two lists as long, alike at the nine places of the slots and from nine on
table_same : (l m : List Float) → length l ≡ length m → at l 0 ≡ at m 0 → at l 1 ≡ at m 1 → at l 2 ≡ at m 2 → at l 3 ≡ at m 3 → at l 4 ≡ at m 4 → at l 5 ≡ at m 5 → at l 6 ≡ at m 6 → at l 7 ≡ at m 7 → at l 8 ≡ at m 8 → ((i : ℕ) → 9 ≤ i → at l i ≡ at m i) → l ≡ m
table_same l m e a b c d f g h i j rest =
    ext_get_or nan l m e
    (λ n _. three-first (λ k. at l k ≡ at m k) a b c
    (three-first (λ k. at l (suc (suc (suc k))) ≡ at m (suc (suc (suc k)))) d f g
    (three-first (λ k. at l (suc (suc (suc (suc (suc (suc k)))))) ≡ at m (suc (suc (suc (suc (suc (suc k))))))) h i j (λ k. rest (suc (suc (suc (suc (suc (suc (suc (suc (suc k))))))))) (omega arith)))) n)

module _ (s : IonoState) (calls : List Call) (three : length s.fsecv ≡ 3) (u v : IonoState) (a : StateLeft s calls u) (b : StateLeft s calls v) where
  slot_same : (k : ℕ) → k < 3 → slot_at u k ≡ slot_at v k
  slot_same k h = a.slots-left k h ∙ sym (b.slots-left k h)

  -- the three numbers of a slot in a table
  yi-same : u.yi ≡ v.yi
  unfolding slot_at
  yi-same =
      let e = slot_same 0 (omega arith) in
      let f = slot_same 1 (omega arith) in
      let g = slot_same 2 (omega arith) in
      table_same u.yi v.yi (a.yi-left.0 ∙ sym b.yi-left.0) (ap (λ (p : Slot). p.yi0) e) (ap (λ (p : Slot). p.yi1) e) (ap (λ (p : Slot). p.yi2) e) (ap (λ (p : Slot). p.yi0) f) (ap (λ (p : Slot). p.yi1) f) (ap (λ (p : Slot). p.yi2) f) (ap (λ (p : Slot). p.yi0) g) (ap (λ (p : Slot). p.yi1) g) (ap (λ (p : Slot). p.yi2) g) (λ i h. a.yi-left.1 i h ∙ sym (b.yi-left.1 i h))

  hi-same : u.hi ≡ v.hi
  unfolding slot_at
  hi-same =
      let e = slot_same 0 (omega arith) in
      let f = slot_same 1 (omega arith) in
      let g = slot_same 2 (omega arith) in
      table_same u.hi v.hi (a.hi-left.0 ∙ sym b.hi-left.0) (ap (λ (p : Slot). p.hi0) e) (ap (λ (p : Slot). p.hi1) e) (ap (λ (p : Slot). p.hi2) e) (ap (λ (p : Slot). p.hi0) f) (ap (λ (p : Slot). p.hi1) f) (ap (λ (p : Slot). p.hi2) f) (ap (λ (p : Slot). p.hi0) g) (ap (λ (p : Slot). p.hi1) g) (ap (λ (p : Slot). p.hi2) g) (λ i h. a.hi-left.1 i h ∙ sym (b.hi-left.1 i h))

  none-past : (n : ℕ) → suc (suc (suc n)) < length u.fsecv → ⊥
  none-past n h = let e : length u.fsecv ≡ 3 = a.fsecv-left ∙ three in omega arith

  fsecv-same : u.fsecv ≡ v.fsecv
  unfolding slot_at
  fsecv-same =
      ext_get_or nan u.fsecv v.fsecv (a.fsecv-left ∙ sym b.fsecv-left)
      (three-first (λ k. k < length u.fsecv → at u.fsecv k ≡ at v.fsecv k) (λ h. ap (λ (p : Slot). p.fsec) (slot_same 0 (omega arith))) (λ h. ap (λ (p : Slot). p.fsec) (slot_same 1 (omega arith))) (λ h. ap (λ (p : Slot). p.fsec) (slot_same 2 (omega arith))) (λ n h. absurd (none-past n h)))

  same-state : u ≡ v
  same-state =
      λ i. record {
        fi = (a.fi-left ∙ sym b.fi-left) i;
        yi = yi-same i;
        hi = hi-same i;
        km = (a.km-left ∙ sym b.km-left) i;
        kfx = (a.kfx-left ∙ sym b.kfx-left) i;
        htr = (a.profile-left.0 ∙ sym b.profile-left.0) i;
        fnsq = (a.profile-left.1 ∙ sym b.profile-left.1) i;
        htr_rises = (a.profile-left.2 ∙ sym b.profile-left.2) i;
        fsecv = fsecv-same i;
        iedp = (a.iedp-left ∙ sym b.iedp-left) i;
        ielect = (a.ielect-left ∙ sym b.ielect-left) i;
        owner = (a.profile-left.3 ∙ sym b.profile-left.3) i;
        exact_virtual_height = (a.exact-left ∙ sym b.exact-left) i;
      }

pub only-state : OnlyState
only-state s calls three u v a b = same-state s calls three u v a b
