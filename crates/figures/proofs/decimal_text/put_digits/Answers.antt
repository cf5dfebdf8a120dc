use mathlib.Core.Path.{◌≡◌, sym}
use Prim.Native.Nat.{suc, ◌-◌}
use native.Mathlib.Omega.{arith}
use Rattle.lines.proofs.Placing.{put_none}
use Rattle.figures.proofs.decimal_text.Digits.{all_digits, next-digit}
use Rattle.figures.proofs.decimal_text.put_digits.Goals as goal

pub loop-i-init : goal.loop-i-init
loop-i-init g c = let e : c.args.k - c.args.k ≡ 0 = omega arith in rw e (sym (put_none _ _))

pub loop-i-preserved : goal.loop-i-preserved
loop-i-preserved g c =
    let l = c.loop-i in
    let a = c.args in
    let e : a.k - (l.i - 1) ≡ suc (a.k - l.i) = omega arith in
    rw e (next-digit (a.k - l.i) (l.i - 1) l.i a.n _ _ _ (omega arith) c.digit.ensures l.invariant c.put_byte.ensures)

pub returns : goal.returns
returns g c = let e : c.loop-i.i ≡ 0 = omega arith in rw (← all_digits c.args.k c.args.n) (rw e at c.loop-i.invariant)
