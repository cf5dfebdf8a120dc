use Rattle.sheet_text.proofs.Printed.{printed}
use Rattle.sheet_text.proofs.sheet_text.Goals as goal

pub returns : goal.returns
returns c = printed c.args.file.now _ c.sheet_page.result c.sheet_page.ensures c.unwrap_or_else.ensures
