-- Where the counts agree there are at most five points, and an F2M3 for each.
use mathlib.Core.Bool.{true}
use mathlib.Core.Path.{◌≡◌}
use Prim.Native.Nat.{ℕ, ◌≤◌}
use native.Mathlib.Omega.{arith}
use lib.Dec.{eqb}
use borrow.Author.Tests.{eqb-true}
use Rattle.layers.specs.Rules.{count_taken}
use Rattle.layers.proofs.layer_rules.Counts.{taken-five}
use Rattle.std.proofs.lemmas.Bool.{and_parts}
use Rattle.nominal.specs.Factors.{counts_agree}

pub agreed : (km f2m3s : ℕ) → counts_agree km f2m3s ≡ true → (km ≤ 5) × (km ≤ f2m3s)
unfolding counts_agree
agreed km f2m3s e =
    let w = and_parts (count_taken km) (eqb f2m3s km) e in
    let q = eqb-true f2m3s km w.1 in
    (taken-five km w.0, omega arith)
