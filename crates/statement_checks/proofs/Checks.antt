-- The parts together.
use Rattle.statement_checks.specs.Checks.{StatementChecks}
use Rattle.statement_checks.proofs.Listed.{literals-listed, trials-listed}
use Rattle.statement_checks.proofs.Named.{refusals-named}
use Rattle.statement_checks.proofs.Figures.{figures-as-read}
use Rattle.statement_checks.proofs.Files.{files-as-read}
use Rattle.statement_checks.proofs.Words.{words-as-read, mark-stands}
use Rattle.statement_checks.proofs.Bits.{bits-are-all}
use Rattle.statement_checks.proofs.Points.{count-is-all}

pub statement-checks : StatementChecks
statement-checks =
    record {
      literals-listed = literals-listed;
      trials-listed = trials-listed;
      refusals-named = refusals-named;
      figures-as-read = figures-as-read;
      files-as-read = files-as-read;
      words-as-read = words-as-read;
      mark-stands = mark-stands;
      bits-are-all = bits-are-all;
      count-is-all = count-is-all;
    }
