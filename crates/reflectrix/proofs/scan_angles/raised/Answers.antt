-- The search goes through the list from its front, as the definition does.
use mathlib.Core.Path.{◌≡◌, refl, ap, ◌∙◌}
use mathlib.Core.Bool.{Bool, true, false, cond}
use mathlib.Core.List.{[]}
use Prim.Native.Nat.{ℕ, zero, suc, ◌+◌, ◌<◌}
use native.Mathlib.Omega.{arith}
use lib.Ieee.{Float, nan}
use lib.ListN.{length, drop}
use Rattle.std.proofs.Common.{Option, Some}
use Rattle.std.proofs.lemmas.List.{drop_more}
use Rattle.std.proofs.lemmas.Iterator.Adapters.{position_from-zero}
use Rattle.std.specs.List.{position, position_from}
use Rattle.std.specs.Option.{unwrap_or}
use Rattle.scalar.specs.F32.{◌-f◌, ◌≥f◌, at}
use Rattle.scalar.specs.Literals.{f0, f8_5}
use Rattle.reflectrix.specs.Angles.{ANG, raised_by, raised_from}
use Rattle.reflectrix.proofs.scan_angles.raised.Goals as goal

abbrev high : Float → Float → Bool
high amind a = a -f f8_5 -f amind ≥f f0

count_at : Option ℕ → ℕ
count_at o = unwrap_or o 39 + 1

one_angle : (b : Bool) (i n : ℕ) (o : Option ℕ) → count_at o ≡ n → count_at (cond b (Some i) o) ≡ raised_by b (i + 1) n
unfolding count_at
one_angle true i n o e = refl
one_angle false i n o e = e

angles : length ANG ≡ 40
unfolding ANG
angles = refl

none-left : drop 40 ANG ≡ []
unfolding ANG
none-left = refl

searched : (amind : Float) (n i : ℕ) → i + n ≡ 40 → count_at (position_from (high amind) i (drop i ANG)) ≡ raised_from amind n i
unfolding raised_from count_at
searched amind zero i e =
    let k : i ≡ 40 = omega arith in
    rw (k, none-left)
searched amind (suc n) i e =
    let h : i < length ANG = omega (arith, angles) in
    let l = drop_more ANG i nan h in
    rw l (one_angle (high amind (at ANG i)) i _ _ (searched amind n (i + 1) (omega arith)))

counted : (amind : Float) (n : ℕ) (o : Option ℕ) → o ≡ position (high amind) ANG → n ≡ unwrap_or o 39 → n + 1 ≡ raised_from amind 40 0
unfolding count_at
counted amind n o e k = ap (λ (m : ℕ). m + 1) k ∙ ap count_at (e ∙ position_from-zero (high amind) ANG) ∙ searched amind 40 0 refl

pub returns : goal.returns
unfolding ANG
returns c = counted c.args.amind _ _ c.high_enough.ensures c.unwrap_or.ensures
