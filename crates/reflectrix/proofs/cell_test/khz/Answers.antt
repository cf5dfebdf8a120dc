-- Operation by operation; the truncated number keeps within i32.
use mir.Syntax.{w32}
use mir.Facts.{to_z-of_z}
use borrow.Author.Rules.{sfits_of}
use Rattle.reflectrix.specs.Cell.{khz_of}
use Rattle.reflectrix.proofs.cell_test.khz.Goals as goal

pub returns : goal.returns
unfolding khz_of
returns c = rw (← c.sqrt-cphe.ensures, ← c.trunc.ensures) (to_z-of_z {w = w32} (sfits_of {w = w32} c.trunc.type_inv))
