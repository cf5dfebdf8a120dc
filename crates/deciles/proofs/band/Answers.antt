use mir.Facts.{to_z-of_z}
use borrow.Author.Rules.{sfits_of}
use Rattle.deciles.specs.F2dis.{icl_of}
use Rattle.deciles.proofs.Clamped.{clamped-by}
use Rattle.deciles.proofs.band.Goals as goal

pub returns : goal.returns
unfolding icl_of
returns c = rw (to_z-of_z (sfits_of c.clamp-icl.type_inv), c.clamp-icl.ensures.value, to_z-of_z (sfits_of c.trunc.type_inv), ← c.abs.ensures, ← c.trunc.ensures) (clamped-by c.trunc.result)
