-- The search goes through the heights from the lowest, as the definition does.
use mathlib.Core.Bool.{Bool, true, false, cond}
use mathlib.Core.List.{List, []}
use mathlib.Core.Path.{◌≡◌, refl, sym, ap, ◌∙◌}
use Prim.Native.Nat.{ℕ, zero, suc, ◌+◌, ◌≤◌, ◌<◌}
use native.Mathlib.Nat.{le_refl}
use native.Mathlib.Omega.{arith}
use lib.Ieee.{Float, nan}
use lib.ListN.{length, drop}
use Rattle.std.proofs.Common.{Option, Some}
use Rattle.std.proofs.lemmas.List.{drop_more}
use Rattle.std.proofs.Math.Seq.{drop-length}
use Rattle.std.proofs.lemmas.Iterator.Adapters.{position_from-zero}
use Rattle.std.specs.List.{position, position_from}
use Rattle.std.specs.Option.{unwrap_or}
use Rattle.scalar.specs.F32.{◌≥f◌, at}
use Rattle.heights.specs.Exact.{first_from, last_of}
use Rattle.heights.proofs.height_integral.last.Goals as goal

abbrev reaches : Float → Float → Bool
reaches top h = h ≥f top

module _ (htr : List Float) (top : Float) (long : length htr ≡ 50) where
  one_height : (b : Bool) (i n : ℕ) (o : Option ℕ) → unwrap_or o 49 ≡ n → unwrap_or (cond b (Some i) o) 49 ≡ cond b i n
  one_height true i n o e = refl
  one_height false i n o e = e

  none-left : drop 50 htr ≡ []
  none-left = ap (λ (n : ℕ). drop n htr) (sym long) ∙ drop-length htr

  searched : (n i : ℕ) → i + n ≡ 50 → unwrap_or (position_from (reaches top) i (drop i htr)) 49 ≡ first_from htr top n i
  unfolding first_from
  searched zero i e =
      let k : i ≡ 50 = omega arith in
      rw (k, none-left) refl
  searched (suc n) i e =
      let h : i < length htr = omega (arith, long) in
      let l = drop_more htr i nan h in
      rw l (one_height (reaches top (at htr i)) i _ _ (searched n (i + 1) (omega arith)))

  first-within : (n i : ℕ) → i + n ≡ 50 → first_from htr top n i ≤ 49
  unfolding first_from
  first-within zero i e = le_refl 49
  first-within (suc n) i e = chosen (at htr i ≥f top) (omega arith) (first-within n (i + 1) (omega arith))
    where
      chosen : (b : Bool) → i ≤ 49 → first_from htr top n (i + 1) ≤ 49 → cond b i (first_from htr top n (i + 1)) ≤ 49
      chosen true h k = h
      chosen false h k = k

  found : (o : Option ℕ) (r : ℕ) → o ≡ position (reaches top) htr → r ≡ unwrap_or o 49 → (r ≡ last_of htr top) × (r ≤ 49)
  found o r e k = (is, rw is (first-within 50 0 refl))
    where
      is : r ≡ last_of htr top
      is = k ∙ ap (λ (p : Option ℕ). unwrap_or p 49) (e ∙ position_from-zero (reaches top) htr) ∙ searched 50 0 refl

pub returns : goal.returns
returns c = found _ _ c.told-htr _ _ c.reaching.ensures c.unwrap_or.ensures
