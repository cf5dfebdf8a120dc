-- What is left of the digits goes on from v to the number of them all, and leaves room for itself.
use mathlib.Core.Path.{◌≡◌}
use mathlib.Core.Bool.{true}
use Prim.Native.Nat.{◌+◌, ◌-◌, ◌*◌, ◌^◌, ◌≤◌}
use lib.ListN.{length, drop}
use Rattle.composing.specs.Decimal.{all_digits, value_from}
use Rattle.composing.proofs.decimals.value.Given as goal

abbrev pub invariant-loop-b : goal.invariant-loop-b
invariant-loop-b l =
    record {
      digits : all_digits (drop l.b-index l.t) ≡ true;
      number : value_from l.v (drop l.b-index l.t) ≡ value_from l.from l.t;
      room : (l.v + 1) * 10 ^ (length l.t - l.b-index) ≤ (l.from + 1) * 10 ^ length l.t;
    }
