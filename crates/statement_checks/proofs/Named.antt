-- Each list computed.
use mathlib.Core.Path.{refl}
use Rattle.statement_checks.specs.Named.{RefusalsNamed}

pub refusals-named : RefusalsNamed
refusals-named =
    record {
      chain = refl;
      sheet = refl;
      read = refl;
      write = refl;
      read128 = refl;
      write128 = refl;
      from-layers = refl;
      ionset = refl;
      lecden = refl;
      owner = refl;
      gethp = refl;
      gethp-scan = refl;
      reading = refl;
      bendy = refl;
      pen = refl;
      xlin = refl;
      f2dis = refl;
      curmuf = refl;
      nommuf = refl;
      sang = refl;
      selmod = refl;
      genion = refl;
      alosfv = refl;
      fobby = refl;
      slot-sheet = refl;
      mark = refl;
      sheet-text = refl;
      figure = refl;
      price = refl;
      total = refl;
      total-last = refl;
      compare = refl;
      trace = refl;
    }
