-- An ionogram whose every number is 0: the rows of a slot that is not there.
use Rattle.std.specs.Prelude.{replicate}
use Rattle.scalar.specs.Literals.{f0}
use Rattle.reflectrix.specs.declared.Ionogram.{Ionogram}

abbrev pub no_rows : Ionogram
no_rows = record { fvert = replicate 30 f0; hprim = replicate 30 f0; htrue = replicate 30 f0; afac = replicate 30 f0; segment = replicate 30 0 }
