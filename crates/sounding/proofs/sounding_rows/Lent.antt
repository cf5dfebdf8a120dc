-- Rows found on a profile that is lent are those of the state that owns it. Assumes nothing.
use mathlib.Core.Path.{◌≡◌}
use mathlib.Core.Bool.{Bool}
use mathlib.Core.List.{List}
use Prim.Native.Nat.{ℕ}
use lib.Ieee.{Float}
use Rattle.layers.specs.declared.IonoState.{IonoState}
use Rattle.profile.specs.Rising.{rises_of}
use Rattle.heights.specs.Walk.{EachF32}
use Rattle.heights.specs.Gethp.{gethp_of}
use Rattle.heights.specs.GethpWalk.{gethp_read_of}
use Rattle.heights.specs.declared.Heights.{Heights}
use Rattle.heights.proofs.Walks.{gethp-read-so}
use Rattle.sounding.specs.Rows.{rows_of}

pub lent_rows : {A : Type 0} (field : Heights → A) (s : IonoState) (rises : Bool) → EachF32 s.htr → rises ≡ rises_of s.htr → (fv : List Float) (from : ℕ) (out : List A) (n : ℕ) → rows_of (λ f. field (gethp_read_of s.exact_virtual_height rises s.htr s.fnsq f)) fv from out n ≡ rows_of (λ f. field (gethp_of s f)) fv from out n
lent_rows field s rises held e fv from out n = λ i. rows_of (λ f. field (gethp-read-so rises s f held e i)) fv from out n
