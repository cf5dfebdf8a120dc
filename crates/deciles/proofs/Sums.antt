-- The sums of yes-or-no numbers by which the code chooses, case by case.
use mathlib.Core.Bool.{Bool, true, false, not, ◌&&◌}
use mathlib.Core.Path.{◌≡◌, refl}
use Prim.Native.Nat.{ℕ, ◌+◌, ◌*◌, ◌≤◌}
use native.Mathlib.Omega.{arith}
use mir.Val.{bool_byte, Fits}
use mir.Syntax.{w64}
use mir.Facts.{Fits-le, Fits-lit}
use Rattle.deciles.specs.F2dis.{sunspot_row_by, j_by, i_by}

pub row-sum : (a b : Bool) → 1 + bool_byte (not a) + bool_byte (not a && b) ≡ sunspot_row_by a b
row-sum true true = refl
row-sum true false = refl
row-sum false true = refl
row-sum false false = refl

pub j-sum : (b : Bool) (j : ℕ) → j + 3 * bool_byte b ≡ j_by b j
j-sum true j = omega arith
j-sum false j = omega arith

pub i-sum : (b : Bool) → 8 * bool_byte b ≡ i_by b
i-sum true = refl
i-sum false = refl

-- ---- they fit

pub one-fits : (a : Bool) → Fits w64 (1 + bool_byte a)
one-fits true = Fits-lit tt
one-fits false = Fits-lit tt

pub two-fit : (a b : Bool) → Fits w64 (1 + bool_byte a + bool_byte b)
two-fit true true = Fits-lit tt
two-fit true false = Fits-lit tt
two-fit false true = Fits-lit tt
two-fit false false = Fits-lit tt

pub three-fits : (b : Bool) → Fits w64 (3 * bool_byte b)
three-fits true = Fits-lit tt
three-fits false = Fits-lit tt

pub j-fits : (b : Bool) (j : ℕ) → j ≤ 3 → Fits w64 (j + 3 * bool_byte b)
j-fits true j h = Fits-le {n = 6} (omega arith) (Fits-lit tt)
j-fits false j h = Fits-le {n = 6} (omega arith) (Fits-lit tt)

pub eight_fits : (b : Bool) → Fits w64 (8 * bool_byte b)
eight_fits true = Fits-lit tt
eight_fits false = Fits-lit tt
