-- The row that is rewritten is one that there is.
use Rattle.port_muf.proofs.Floats.{row-there}
use Rattle.port_muf.proofs.hour.curmuf_into.Goals as goal

pub es_into-requires : goal.es_into-requires
es_into-requires c =
    let a = c.args in
    row-there c.state_of-s.result a.es.now a.deciles.now a.clat.now a.clck.now c.path_numbers_of-c.result _ c.in_ok-d.ensures
