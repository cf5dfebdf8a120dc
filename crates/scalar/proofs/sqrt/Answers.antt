-- `scalar::sqrt` meets its contract: each way out is a fact of `proofs/SpecialRoots.antt` or what the callee ensures. Assumes nothing.
use mathlib.Core.Path.{◌≡◌, sym, ap, ◌∙◌}
use native.Mathlib.Omega.{arith}
use mathlib.Core.Bool.{true, false}
use lib.Ieee.{Float, binary32, fits, of_bits, to_bits}
use lib.Ieee.Bits.{of_bits-to_bits, to_bits-lt}
use Rattle.std.proofs.lemmas.Float.{T_from_true}
use Rattle.scalar.specs.Root.{sqrt_of}
use Rattle.scalar.proofs.Nan.{tested, not-nan, number-pattern, zero_by_zero}
use Rattle.scalar.proofs.SpecialRoots.{at-nan, zero-root, minus-zero-root, inf-root, own, above-inf}
use Rattle.scalar.proofs.sqrt.Goals as goal

-- an f32 is what its pattern stands for, since the format holds it
is : (x : Float) → fits binary32 x ≡ true → x ≡ of_bits binary32 (to_bits binary32 x)
is x h = sym (of_bits-to_bits binary32 x (T_from_true (fits binary32 x) h))

pub returns-then-is_nan : goal.returns-then-is_nan
returns-then-is_nan c = at-nan c.args.x (tested _ _ true c.is_nan.ensures.value c.if-is_nan.true)

pub float_to_bits-b : goal.float_to_bits-b
float_to_bits-b c = not-nan c.args.x (tested _ _ false c.is_nan.ensures.value c.if-is_nan.false)

pub returns-then-b-eq0 : goal.returns-then-b-eq0
returns-then-b-eq0 c = own c.args.x (to_bits binary32 c.args.x) 0 (is c.args.x c.well_formed.0.1) c.if-b-eq0.true zero-root

pub float_from_bits-result : goal.float_from_bits-result
float_from_bits-result c = number-pattern c.subnormal_root.result (let l = c.subnormal_root.ensures.1 in omega arith)

pub returns-then-b-lt8388608 : goal.returns-then-b-lt8388608
returns-then-b-lt8388608 c = c.subnormal_root.ensures.0 ∙ ap sqrt_of (sym (is c.args.x c.well_formed.0.1))

pub float_from_bits-result-then-b-lt2139095040 : goal.float_from_bits-result-then-b-lt2139095040
float_from_bits-result-then-b-lt2139095040 c = number-pattern c.normal_root.result (let l = c.normal_root.ensures.1 in omega arith)

pub returns-then-b-lt2139095040 : goal.returns-then-b-lt2139095040
returns-then-b-lt2139095040 c = c.normal_root.ensures.0 ∙ ap sqrt_of (sym (is c.args.x c.well_formed.0.1))

pub returns-then-b-eq2139095040 : goal.returns-then-b-eq2139095040
returns-then-b-eq2139095040 c = own c.args.x (to_bits binary32 c.args.x) 0x7f80_0000 (is c.args.x c.well_formed.0.1) c.if-b-eq2139095040.true inf-root

pub returns-then-b : goal.returns-then-b
returns-then-b c = own c.args.x (to_bits binary32 c.args.x) 0x8000_0000 (is c.args.x c.well_formed.0.1) c.if-b.true minus-zero-root

pub returns : goal.returns
returns c =
    let b = to_bits binary32 c.args.x in
    zero_by_zero ∙ sym (ap sqrt_of (is c.args.x c.well_formed.0.1) ∙ above-inf b (omega arith) c.if-b.false (to_bits-lt binary32 c.args.x (T_from_true (fits binary32 c.args.x) c.well_formed.0.1)))
