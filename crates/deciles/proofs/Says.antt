-- Number and value of an answer, case by case of the definition. The block that is looked up is 0 exactly where the time block is below 1.
use Rattle.std.specs.Prelude.{Result, Ok, Err}
use Rattle.std.specs.Result.{result_unwrap_or}
use mathlib.Core.Bool.{Bool, true, false, cond}
use mathlib.Core.List.{List}
use mathlib.Core.Path.{◌≡◌, refl}
use Prim.Native.Nat.{◌+◌}
use native.Mathlib.Omega.{arith}
use borrow.Author.Tests.{ltb-true, eq-eqb, ne_eqb}
use lib.Dec.{eqb}
use lib.IntN.{ℤ, pos, negsuc, nat_abs}
use lib.Signed.{lt_z}
use lib.ListN.{get_or, length}
use lib.Ieee.{Float, nan}
use Rattle.scalar.specs.F32.{◌*f◌, ◌≤f◌}
use Rattle.scalar.specs.Literals.{f0, f57_29577}
use Rattle.scalar.proofs.Casts.{between}
use Rattle.refusal.specs.declared.Refusal.{Refusal}
use Rattle.refusal.specs.Number.{answer_number}
use Rattle.deciles.specs.F2dis.{j_of, i_of, icl_of, time_block_of, icc_by, icc_of, place_of, classical_of, spread_of, f2dis_of, DeviationSays}

-- is it above 6, is it below 1
no_block : (above below : Bool) (z : ℤ) → lt_z (pos 6) z ≡ above → lt_z z (pos 1) ≡ below → eqb (icc_by above below z) 0 ≡ below
no_block true true (pos n) p q = let a = ltb-true 6 n p in let b = ltb-true n 1 q in eq-eqb 1 0 (omega arith)
no_block true true (negsuc n) p q = p
no_block true false z p q = refl
no_block false true z p q = refl
no_block false false z p q = let b = (between z 6 q p).0 in ne_eqb (nat_abs z) 0 (λ e. omega (arith, b, e))

block-below : (abb : Float) → eqb (icc_of abb) 0 ≡ lt_z (time_block_of abb) (pos 1)
unfolding icc_of
block-below abb = no_block _ _ (time_block_of abb) refl refl

says-by : (whole none below : Bool) (x y : Float) → let r : Result Float Refusal = cond whole (cond none (Ok x) (cond below (Err Refusal.TimeBlock) (Ok y))) (Err Refusal.MufLists) in (answer_number r ≡ cond whole (cond none 0 (cond below 12 0)) 10) × (result_unwrap_or r f0 ≡ cond whole (cond none x (cond below f0 y)) f0)
says-by true true below x y = (refl, refl)
says-by true false true x y = (refl, refl)
says-by true false false x y = (refl, refl)
says-by false none below x y = (refl, refl)

-- an answer that is the definition's says what the definition says
pub deviation-says : (r : Result Float Refusal) (f2d : List Float) (fmuf ssn clat freq abb : Float) → r ≡ f2dis_of f2d fmuf ssn clat freq abb → DeviationSays r f2d fmuf ssn clat freq abb
unfolding f2dis_of DeviationSays
deviation-says r f2d fmuf ssn clat freq abb e =
    let cl = clat *f f57_29577 in
    let decile = get_or f2d (place_of (icc_of abb) (j_of ssn cl) (icl_of cl + i_of fmuf freq)) nan in
    rw (e, ← block-below abb) (says-by (eqb (length f2d) 576) (get_or f2d 0 nan ≤f f0) (eqb (icc_of abb) 0) (classical_of fmuf) (spread_of fmuf decile))
