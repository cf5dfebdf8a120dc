use Rattle.std.proofs.Common.{rules, ◌∙◌}
use Rattle.muf.specs.Sporadic.{row_at}
use Rattle.port_muf.specs.Floats.{floats}
use Rattle.port_muf.proofs.port_nominal.WordRows.{rows}
use Rattle.port_muf.proofs.port_nominal.word_rows.Goals as goal

pub returns : goal.returns
returns c = c.five_rows_of.ensures (row_at (floats c.args.es.now)) (λ k r e. search rules) ∙ rows c.args.es.now c.args.n c.requires.1
