use Prim.Native.Nat.{◌+◌, ◌/◌, ◌%◌}
use Rattle.std.proofs.Common.{rules}
use Rattle.circuit.specs.Point.{point_number}
use Rattle.scalar.proofs.FromFn.{from_fn_numbers}
use Rattle.circuit_sheet.specs.Numbers.{es_up_to, es_of}
use Rattle.circuit_sheet.proofs.circuit_numbers.es_rows.Goals as goal

pub returns : goal.returns
unfolding es_of es_up_to
returns c = from_fn_numbers (λ k. point_number c.args.words.now (k / 4) (9 + k % 4)) 20 (λ k y q l r. search rules) c.from_fn.ensures.items
