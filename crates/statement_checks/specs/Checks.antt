-- All of them.
use Rattle.statement_checks.specs.Listed.{LiteralsListed, TrialsListed}
use Rattle.statement_checks.specs.Named.{RefusalsNamed}
use Rattle.statement_checks.specs.Figures.{FiguresAsRead}
use Rattle.statement_checks.specs.Files.{FilesAsRead}
use Rattle.statement_checks.specs.Words.{WordsAsRead, MarkStands}
use Rattle.statement_checks.specs.Bits.{BitsAreAll}
use Rattle.statement_checks.specs.Points.{CountIsAll}

pub record StatementChecks : Type 0 where
  -- no literal, coefficient or trial is left out, and each is as written
  pub literals-listed : LiteralsListed
  pub trials-listed : TrialsListed
  -- the refusals of each program and export by their names
  pub refusals-named : RefusalsNamed
  -- order, distance and stars of printed figures; layouts, room and bytes read
  pub figures-as-read : FiguresAsRead
  pub files-as-read : FilesAsRead
  -- the lists of calls that the paper's words allow; the mark stands in place of every refusal 13; what is the same by bits is equal
  pub words-as-read : WordsAsRead
  pub mark-stands : MarkStands
  pub bits-are-all : BitsAreAll
  -- how far a nominal MUF reads
  pub count-is-all : CountIsAll
