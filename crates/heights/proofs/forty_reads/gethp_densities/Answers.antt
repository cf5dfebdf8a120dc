-- Each path is the clause that its test chooses: the table of reads, cut, is the table of densities.
use Rattle.heights.proofs.forty_reads.Tables.{walk-table, scan-table}
use Rattle.heights.proofs.forty_reads.gethp_densities.Goals as goal
use Rattle.heights.proofs.forty_reads.gethp_densities.Goals.{then-p, else-p}

pub returns : goal.returns
returns c =
    let a = c.args in
    elim c.if-p.branch [
      | then-p w ↦ let d = w.walk_reads-d.ensures in rw w.if-p.true (rw (c.shares.ensures.shares, w.d-is, d.0) (walk-table a.p.htr.now a.p.fnsq.now a.ht a.fr), rw w.d-is d.1, c.shares.ensures.cut)
      | else-p w ↦ let d = w.scan_reads-d.ensures in rw w.if-p.false (rw (c.shares.ensures.shares, w.d-is, d.0) (scan-table a.p.htr.now a.p.fnsq.now a.ht a.fr), rw w.d-is d.1, c.shares.ensures.cut)
    ]
