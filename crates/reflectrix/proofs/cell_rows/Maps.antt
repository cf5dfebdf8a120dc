-- Thirty-two numbers, each of which is h of another, are `map h`.
use mathlib.Core.Path.{◌≡◌, sym, ◌∙◌}
use mathlib.Core.List.{List, map}
use Prim.Native.Nat.{ℕ, ◌<◌}
use lib.Ieee.{Float, nan}
use lib.ListN.{length, length-map}
use Rattle.scalar.specs.F32.{at}
use Rattle.std.proofs.lemmas.List.{get_or-map, ext_get_or}

pub map-each : (h : Float → Float) (xs ys : List Float) → length xs ≡ 32 → length ys ≡ 32 → ((i : ℕ) → i < 32 → at ys i ≡ h (at xs i)) → ys ≡ map h xs
map-each h xs ys m n each = ext_get_or nan ys (map h xs) (n ∙ sym m ∙ sym (length-map xs h)) (λ i l. let k : i < 32 = rw (sym n) l in each i k ∙ sym (get_or-map h xs i nan nan (rw m k)))
