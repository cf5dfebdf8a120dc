-- The paper's special values of asin and atan, and how large an arc tangent is.
use Rattle.std.specs.Prelude.{◌≡◌, Bool, true, cond, ◌⊎◌, pos, Float}
use Rattle.std.specs.Float.{nan, inf, fin, binary32}
use Rattle.std.specs.Float.Ieee.{of_bits, is_nan}
use Rattle.scalar.specs.F32.{◌≤f◌, negf}
use Rattle.scalar.specs.Literals.{f1_570796326}
use Rattle.arcs.specs.Asin.{asin_of}
use Rattle.arcs.specs.Atan.{atan_of}

-- the f32 nearest to half pi, with the sign s
abbrev pub signed_half_pi : Bool → Float
signed_half_pi s = of_bits binary32 (cond s 0xbfc9_0fdb 0x3fc9_0fdb)

-- `fin s 0 (pos 0)` is the zero with the sign s, and `fin s 1 (pos 0)` is 1 or -1
pub record ArcValues : Type 0 where
  pub asin-zero : (s : Bool) → asin_of (fin s 0 (pos 0)) ≡ fin s 0 (pos 0)
  pub asin-one : (s : Bool) → asin_of (fin s 1 (pos 0)) ≡ signed_half_pi s
  pub asin-infinity : (s : Bool) → asin_of (inf s) ≡ nan
  pub asin-nan : asin_of nan ≡ nan
  pub atan-zero : (s : Bool) → atan_of (fin s 0 (pos 0)) ≡ fin s 0 (pos 0)
  pub atan-infinity : (s : Bool) → atan_of (inf s) ≡ signed_half_pi s
  pub atan-nan : atan_of nan ≡ nan

-- an arc tangent is NaN, or within the f32 nearest to half pi of 0
abbrev pub AtanWithin : Type 0
AtanWithin = (x : Float) → (is_nan (atan_of x) ≡ true) ⊎ ((negf f1_570796326 ≤f atan_of x ≡ true) × (atan_of x ≤f f1_570796326 ≡ true))
