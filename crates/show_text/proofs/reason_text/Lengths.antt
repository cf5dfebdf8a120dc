-- A reason has at most 120 bytes.
use mathlib.Core.Bool.{Bool, true, false, cond}
use mathlib.Core.List.{List}
use Prim.Native.Nat.{ℕ}
use native.Mathlib.Omega.{arith}
use lib.Dec.{leb, eqb}
use Rattle.refusal.specs.declared.Refusal.{Refusal}
use Rattle.refusal.specs.Number.{number_of}
use Rattle.lines.proofs.Sizes.{AtMost}
use Rattle.show_text.specs.ReasonText.{file_reason, hour_reason, reason_of}

either : (b : Bool) {t u : List ℕ} → AtMost t 120 → AtMost u 120 → AtMost (cond b t u) 120
either true p q = p
either false p q = q

file : (n : ℕ) → AtMost (file_reason n) 120
unfolding file_reason
file n = either (eqb n 1) (record { most = omega arith }) (either (eqb n 2) (record { most = omega arith }) (either (eqb n 3) (record { most = omega arith }) (record { most = omega arith })))

hour : (n : ℕ) → AtMost (hour_reason n) 120
unfolding hour_reason
hour n = either (eqb n 7) (record { most = omega arith }) (either (eqb n 9) (record { most = omega arith }) (either (eqb n 11) (record { most = omega arith }) (either (eqb n 12) (record { most = omega arith }) (record { most = omega arith }))))

pub reason-most : (r : Refusal) → AtMost (reason_of r) 120
unfolding reason_of
reason-most r = either (leb (number_of r) 4) (file (number_of r)) (hour (number_of r))
