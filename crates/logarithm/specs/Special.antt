-- The paper's special values of exp and ln.
use Rattle.std.specs.Prelude.{◌≡◌, Bool, true, false, pos}
use Rattle.std.specs.Float.{nan, inf, fin}
use Rattle.exponential.specs.Exp.{exp_of}
use Rattle.logarithm.specs.Ln.{ln_of}

-- `inf true` is minus infinity, and `fin s 0 (pos 0)` the zero with the sign s
pub record ExponentialValues : Type 0 where
  pub exp-infinity : exp_of (inf false) ≡ inf false
  pub exp-minus-infinity : exp_of (inf true) ≡ fin false 0 (pos 0)
  pub exp-zero : (s : Bool) → exp_of (fin s 0 (pos 0)) ≡ fin false 1 (pos 0)
  pub exp-nan : exp_of nan ≡ nan
  pub ln-infinity : ln_of (inf false) ≡ inf false
  pub ln-minus-infinity : ln_of (inf true) ≡ nan
  pub ln-zero : (s : Bool) → ln_of (fin s 0 (pos 0)) ≡ inf true
  pub ln-one : ln_of (fin false 1 (pos 0)) ≡ fin false 0 (pos 0)
  pub ln-nan : ln_of nan ≡ nan
