-- What is said of each export, from its group.
use Rattle.export_refusals.specs.Exports.{ExportRefusals}
use Rattle.export_refusals.proofs.Circuits.{read-numbers, write-numbers, read128-numbers, write128-numbers}
use Rattle.export_refusals.proofs.State.{from-layers-numbers, ionset-numbers, lecden-numbers, owner-numbers}
use Rattle.export_refusals.proofs.Heights.{gethp-numbers, gethp-scan-numbers, reading-numbers, bendy-numbers, pen-numbers, xlin-numbers}
use Rattle.export_refusals.proofs.Muf.{f2dis-numbers, curmuf-numbers, nommuf-numbers}
use Rattle.export_refusals.proofs.Ionogram.{sang-numbers, selmod-numbers, genion-numbers, alosfv-numbers, fobby-numbers, sheet-numbers}
use Rattle.export_refusals.proofs.Sheets.{mark-numbers, sheet-text-numbers}
use Rattle.export_refusals.proofs.Desk.{figure-numbers, price-numbers, total-numbers, compare-numbers, trace-numbers}

pub export-refusals : ExportRefusals
export-refusals =
    record {
      read = read-numbers;
      write = write-numbers;
      read128 = read128-numbers;
      write128 = write128-numbers;
      from-layers = from-layers-numbers;
      ionset = ionset-numbers;
      lecden = lecden-numbers;
      owner = owner-numbers;
      gethp = gethp-numbers;
      gethp-scan = gethp-scan-numbers;
      reading = reading-numbers;
      bendy = bendy-numbers;
      pen = pen-numbers;
      xlin = xlin-numbers;
      f2dis = f2dis-numbers;
      curmuf = curmuf-numbers;
      nommuf = nommuf-numbers;
      sang = sang-numbers;
      selmod = selmod-numbers;
      genion = genion-numbers;
      alosfv = alosfv-numbers;
      fobby = fobby-numbers;
      sheet = sheet-numbers;
      mark = mark-numbers;
      sheet-text = sheet-text-numbers;
      figure = figure-numbers;
      price = price-numbers;
      total = total-numbers;
      total-last = total-numbers;
      compare = compare-numbers;
      trace = trace-numbers;
    }
