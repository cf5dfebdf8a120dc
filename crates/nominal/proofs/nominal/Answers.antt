use Rattle.muf.specs.Hour.{zero_hour}
use Rattle.nominal.specs.Nommuf.{nominal_of}
use Rattle.nominal.proofs.nominal.Goals as goal

pub returns : goal.returns
unfolding nominal_of zero_hour
returns c =
    let es = rw c.requires.rows at c.lowest_es-esmuf.ensures in
    rw (← c.e_factor-elfc.ensures, ← c.f2_factor-flfc.ensures, ← c.lowest_e-ec.ensures, ← c.lowest_f2-f2muf.ensures, ← c.greater-allmuf.ensures, ← c.max-fot.ensures, ← c.max-hpf.ensures, ← es, c.zero_hour.ensures)
