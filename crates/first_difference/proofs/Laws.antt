-- The laws of two texts compared.
use Rattle.first_difference.specs.Laws.{DifferenceLaws}
use Rattle.first_difference.proofs.Bytes.{closed-form}
use Rattle.first_difference.proofs.Same.{same-only, same-all}
use Rattle.first_difference.proofs.First.{first, only-first}
use Rattle.first_difference.proofs.Common.{longest-common}
use Rattle.first_difference.proofs.Cases.{ends-early, is-empty, feed-missing, goes_on, other_byte, other-return, line-most}

pub difference-laws : DifferenceLaws
difference-laws =
    record {
      same = λ ours theirs. (same-only ours theirs, same-all ours theirs);
      differs = λ ours theirs n. (first ours theirs n, only-first ours theirs n);
      closed = closed-form;
      common = longest-common;
      early = ends-early;
      none = is-empty;
      unended = feed-missing;
      more = goes_on;
      byte = other_byte;
      carriage = other-return;
      most = line-most;
    }
