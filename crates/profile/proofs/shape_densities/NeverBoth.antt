-- No number is at once at least 0 and below 0: neither zero is, nor an infinity, nor a NaN, which passes no test.
use mathlib.Core.Bool.{true, false}
use mathlib.Core.Path.{◌≡◌, refl, sym}
use Prim.Native.Nat.{◌+◌, ◌*◌}
use native.Mathlib.Omega.{arith}
use lib.Ieee.{Float, nan, inf, fin, up, down, lt, le, of_bits}
use borrow.Author.Tests.{eqb-true, le-ltb}
use Rattle.std.proofs.lemmas.Bool.{and_parts}
use Rattle.scalar.specs.F32.{◌<f◌, ◌≥f◌}
use Rattle.scalar.specs.Literals.{f0}

pub never_both : (x : Float) → (x ≥f f0) ≡ true → (x <f f0) ≡ false
unfolding of_bits lt le
never_both nan e = refl
never_both (inf true) e = sym e
never_both (inf false) e = refl
never_both (fin false m d) e = le-ltb (m * up d * 1) (0 * down d) (omega arith)
never_both (fin true m d) e =
    let h = eqb-true (0 * down d) (m * up d * 1) (and_parts _ _ e).0 in
    le-ltb 0 (m * up d * 1 + 0 * down d) (omega arith)
