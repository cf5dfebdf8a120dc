-- Each step of `ionset` replaces numbers of the tables one for one, or sets kfx; the last one sets the owner where `ielect` is not set.
use mathlib.Core.Bool.{Bool, true, false, true≢false}
use mathlib.Core.List.{List}
use mathlib.Core.Path.{◌≡◌, refl, sym, ◌∙◌}
use Prim.Native.Nat.{ℕ, zero, suc, ◌+◌, ◌*◌}
use lib.Dec.{leb}
use lib.ListN.{length, length-set}
use lib.Ieee.{Float}
use Rattle.scalar.specs.F32.{◌>f◌, at}
use Rattle.scalar.specs.Literals.{f0}
use Rattle.layers.specs.State.{with_tables, with_kfx, state_after}
use Rattle.layers.specs.Owners.{disowned_by, disowned}
use Rattle.layers.specs.FromLayers.{count_taken}
use Rattle.layers.specs.Ionset.{layer_from, two_slots, three_slots, assigned_by, assigned_of, too_close, f1_kept_by, f1_by, f1_settled, f2_settled, slot_settled, slots_settled, ionset_by, ionset_of}
use Rattle.layers.specs.IonsetKept.{IonsetKept}
use Rattle.layers.specs.declared.IonoState.{IonoState}

same : (s : IonoState) → IonsetKept s s
same s =
    record { fi-long = refl; yi-long = refl; hi-long = refl; km-kept = refl; htr-kept = refl; fnsq-kept = refl; mark-kept = refl; fsecv-kept = refl; iedp-kept = refl; ielect-kept = refl; owner-kept = λ e. refl; exact-kept = refl }

then : {s t r : IonoState} → IonsetKept s t → IonsetKept t r → IonsetKept s r
then a b =
    record { fi-long = b.fi-long ∙ a.fi-long; yi-long = b.yi-long ∙ a.yi-long; hi-long = b.hi-long ∙ a.hi-long; km-kept = b.km-kept ∙ a.km-kept; htr-kept = b.htr-kept ∙ a.htr-kept; fnsq-kept = b.fnsq-kept ∙ a.fnsq-kept; mark-kept = b.mark-kept ∙ a.mark-kept; fsecv-kept = b.fsecv-kept ∙ a.fsecv-kept; iedp-kept = b.iedp-kept ∙ a.iedp-kept; ielect-kept = b.ielect-kept ∙ a.ielect-kept; owner-kept = λ e. b.owner-kept (a.ielect-kept ∙ e) ∙ a.owner-kept e; exact-kept = b.exact-kept ∙ a.exact-kept }

counted : (s : IonoState) (n : ℕ) → IonsetKept s (with_kfx s n)
counted s n =
    record { fi-long = refl; yi-long = refl; hi-long = refl; km-kept = refl; htr-kept = refl; fnsq-kept = refl; mark-kept = refl; fsecv-kept = refl; iedp-kept = refl; ielect-kept = refl; owner-kept = λ e. refl; exact-kept = refl }

tabled : (s : IonoState) (fi yi hi : List Float) → length fi ≡ length s.fi → length yi ≡ length s.yi → length hi ≡ length s.hi → IonsetKept s (with_tables s fi yi hi)
tabled s fi yi hi f y h =
    record { fi-long = f; yi-long = y; hi-long = h; km-kept = refl; htr-kept = refl; fnsq-kept = refl; mark-kept = refl; fsecv-kept = refl; iedp-kept = refl; ielect-kept = refl; owner-kept = λ e. refl; exact-kept = refl }

layer : (s : IonoState) (k p i : ℕ) → IonsetKept s (layer_from s k p i)
unfolding layer_from
layer s k p i = tabled s _ _ _ (length-set s.fi (3 * k + i) _) (length-set s.yi (3 * k + i) _) (length-set s.hi (3 * k + i) _)

assigned-by : (p q : Bool) (s : IonoState) → IonsetKept s (assigned_by p q s)
unfolding two_slots three_slots
assigned-by true q s = counted s 1
assigned-by false true s = then (counted s 2) (then (layer _ 0 1 2) (then (layer _ 1 2 0) (layer _ 1 2 1)))
assigned-by false false s =
    then (counted s 3)
    (then (layer _ 0 1 2) (then (layer _ 1 2 0) (then (layer _ 1 2 1) (then (layer _ 1 2 2) (then (layer _ 2 4 0) (then (layer _ 2 4 1) (layer _ 2 3 2)))))))

kept_by : (b : Bool) (s : IonoState) (k : ℕ) → IonsetKept s (f1_kept_by b s k)
kept_by true s k = tabled s _ _ _ (length-set s.fi (3 * k + 1) f0) (length-set s.yi (3 * k + 1) f0) (length-set s.hi (3 * k + 1) f0)
kept_by false s k = tabled s _ _ _ refl refl (length-set s.hi (3 * k + 1) _)

f1-by : (b : Bool) (s : IonoState) (k : ℕ) → IonsetKept s (f1_by b s k)
f1-by true s k = kept_by (too_close (at s.fi (3 * k)) (at s.fi (3 * k + 1)) (at s.fi (3 * k + 2))) s k
f1-by false s k = same s

f1-kept : (s : IonoState) (k : ℕ) → IonsetKept s (f1_settled s k)
unfolding f1_settled
f1-kept s k = f1-by (at s.fi (3 * k + 1) >f f0) s k

f2-kept : (s : IonoState) (k : ℕ) → IonsetKept s (f2_settled s k)
unfolding f2_settled
f2-kept s k = tabled s _ _ _ refl (length-set s.yi (3 * k + 2) _) refl

slots_kept : (s : IonoState) (n : ℕ) → IonsetKept s (slots_settled s n)
unfolding slots_settled slot_settled
slots_kept s zero = same s
slots_kept s (suc n) = then (slots_kept s n) (then (f1-kept _ n) (f2-kept _ n))

disowned-by : (b : Bool) (s : IonoState) → s.ielect ≡ b → IonsetKept s (disowned_by b s)
disowned-by true s e = same s
disowned-by false s e =
    record { fi-long = refl; yi-long = refl; hi-long = refl; km-kept = refl; htr-kept = refl; fnsq-kept = refl; mark-kept = refl; fsecv-kept = refl; iedp-kept = refl; ielect-kept = refl; owner-kept = λ t. absurd (true≢false (sym t ∙ e)); exact-kept = refl }

disowned-kept : (s : IonoState) → IonsetKept s (disowned s)
unfolding disowned
disowned-kept s = disowned-by s.ielect s refl

ionset-by : (b : Bool) (s : IonoState) → IonsetKept s (state_after s (ionset_by b s))
unfolding assigned_of
ionset-by true s = then (assigned-by (leb s.km 1) (leb s.km 3) s) (then (slots_kept _ _) (disowned-kept _))
ionset-by false s = same s

pub ionset-keeps : (s : IonoState) → IonsetKept s (state_after s (ionset_of s))
unfolding ionset_of
ionset-keeps s = ionset-by (count_taken s.km) s
