use Rattle.sheet_text.proofs.SlotCount.{three-slots}
use Rattle.sheet_text.proofs.sheet_page.Goals as goal

pub answered-requires : goal.answered-requires
answered-requires c = rw (← c.in_ok-sheet.ensures) at (three-slots c.args.file.now)
