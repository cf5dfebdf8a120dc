-- The lines of a sheet have room.
use native.Mathlib.Omega.{arith}
use Rattle.lines.proofs.Placing.{fits}
use Rattle.sheet_text.proofs.sheet_lines.Lengths.{answered-most}
use Rattle.sheet_text.proofs.answered.Goals as goal

pub returns : goal.returns
returns c = rw (c.put_sheet.ensures, c.new-page.ensures) (fits 8192 _ (omega (arith, (answered-most c.args.sheet.now c.requires).most)))
