-- What was told is right, and so is what is worked out.
use mathlib.Core.Path.{sym, ◌∙◌}
use Prim.Native.Nat.{◌^◌, ◌<◌}
use native.Mathlib.Omega.{arith}
use mir.Syntax.{w32}
use mir.Facts.{to_z-of_z, to_z_pos}
use borrow.Author.Rules.{sfits_of}
use Rattle.reflectrix.proofs.cell_rows.mended.Goals as goal

pub overflow_cast-result : goal.overflow_cast-result
overflow_cast-result c = record { sfits = omega arith }

pub returns-then-told-lt-IN_DOUBT : goal.returns-then-told-lt-IN_DOUBT
returns-then-told-lt-IN_DOUBT c =
    let n = c.args.told in
    let h : n < 2 ^ 31 = omega arith in
    to_z_pos w32 h ∙ sym (c.requires.right c.if-told-lt-IN_DOUBT.true)

pub returns : goal.returns
returns c = rw (← c.squared_cosine.ensures.0) (to_z-of_z {w = w32} (sfits_of {w = w32} c.khz.type_inv) ∙ c.khz.ensures)
