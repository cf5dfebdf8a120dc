-- Each theorem at the end of its range.
use mathlib.Core.Path.{refl, sym}
use Prim.Native.Nat.{◌+◌, ◌*◌}
use native.Mathlib.Nat.{le_of_eq, le_refl}
use native.Mathlib.Omega.{arith}
use Rattle.composing.proofs.compose_laws.Written.{text-written}
use Rattle.composing.proofs.compose_laws.ReadBack.{text-read-back}
use Rattle.marking.proofs.Laws.{marking-laws}
use Rattle.statement_checks.specs.Files.{FilesAsRead}

pub files-as-read : FilesAsRead
files-as-read =
    record {
      every-fit = λ size first extra p q r. (p, omega arith, omega arith);
      room = λ text out c e h. let room = le_of_eq (sym h) in (text-written text out c e room, text-read-back text out c e room);
      decided = λ input. marking-laws.decided input (4 + 64 * 64 + 49153) (le_refl _);
      return = refl;
    }
