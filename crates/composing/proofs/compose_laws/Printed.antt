-- What is printed is the file that the writer leaves where 3,456 bytes are lent.
use mathlib.Core.Path.{sym}
use mathlib.Core.List.{[]}
use borrow.Author.Tests.{le-ltb}
use Rattle.records.specs.Record.{form64}
use Rattle.records.proofs.Lists.{fit64}
use Rattle.circuit.specs.Written.{size_of}
use Rattle.circuit.proofs.circuit_laws.ReadWritten.{written-file}
use Rattle.composing.specs.Laws.{TextPrinted}
use Rattle.composing.specs.Composing.{composed_text}
use Rattle.composing.proofs.compose_laws.Written.{text-written}

pub text-printed : TextPrinted
unfolding composed_text
text-printed text out c short room e =
    rw (le-ltb _ _ short, e)
    (sym (written-file form64 fit64 c out (size_of form64 c) (text-written text out c e room) []))
