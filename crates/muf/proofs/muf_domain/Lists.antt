-- Where the lists reach, clat and clck have an entry at the controlling slot.
use mathlib.Core.Path.{◌≡◌}
use mathlib.Core.Bool.{true, ◌&&◌}
use Prim.Native.Nat.{ℕ, ◌<◌}
use lib.Dec.{ltb, eqb}
use borrow.Author.Tests.{ltb-true, eqb-true}
use Rattle.muf.specs.Domain.{lists_reach}
use Rattle.std.proofs.lemmas.Bool.{and_parts}

pub deciles-whole : (ks d l k : ℕ) → lists_reach ks d l k ≡ true → d ≡ 576
unfolding lists_reach
deciles-whole ks d l k e = eqb-true d 576 (and_parts (eqb d 576) (ltb ks l) (and_parts (eqb d 576 && ltb ks l) (ltb ks k) e).0).0

pub lists-reach : (ks d l k : ℕ) → lists_reach ks d l k ≡ true → (ks < l) × (ks < k)
unfolding lists_reach
lists-reach ks d l k e = let h = and_parts (eqb d 576 && ltb ks l) (ltb ks k) e in (ltb-true ks l (and_parts (eqb d 576) (ltb ks l) h.0).1, ltb-true ks k h.1)
