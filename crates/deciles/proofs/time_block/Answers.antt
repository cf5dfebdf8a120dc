use mir.Facts.{to_z-of_z}
use borrow.Author.Rules.{sfits_of}
use Rattle.scalar.proofs.Casts.{between}
use Rattle.deciles.specs.F2dis.{icc_of, time_block_of}
use Rattle.deciles.proofs.Blocks.{some_block}
use Rattle.deciles.proofs.time_block.Goals as goal

pub returns-then-icc-gt6 : goal.returns-then-icc-gt6
unfolding icc_of time_block_of
returns-then-icc-gt6 c = rw (← c.trunc-icc.ensures, rw (to_z-of_z (sfits_of c.trunc-icc.type_inv)) at c.if-icc-gt6.true)

pub returns-then-icc-lt1 : goal.returns-then-icc-lt1
unfolding icc_of time_block_of
returns-then-icc-lt1 c = rw (← c.trunc-icc.ensures, rw (to_z-of_z (sfits_of c.trunc-icc.type_inv)) at c.if-icc-gt6.false, rw (to_z-of_z (sfits_of c.trunc-icc.type_inv)) at c.if-icc-lt1.true)

pub returns : goal.returns
unfolding icc_of time_block_of
returns c =
    let t = c.trunc-icc in
    let below = rw (to_z-of_z (sfits_of t.type_inv)) at c.if-icc-lt1.false in
    let above = rw (to_z-of_z (sfits_of t.type_inv)) at c.if-icc-gt6.false in
    rw (← t.ensures, above, below, to_z-of_z (sfits_of t.type_inv)) (some_block _ (between t.result 6 below above).0)
