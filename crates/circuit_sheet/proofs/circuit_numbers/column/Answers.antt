use Rattle.std.proofs.Common.{rules}
use Rattle.circuit.specs.Point.{point_number}
use Rattle.scalar.proofs.FromFn.{from_fn_numbers}
use Rattle.circuit_sheet.specs.Numbers.{column_of}
use Rattle.circuit_sheet.proofs.circuit_numbers.column.Goals as goal

pub returns : goal.returns
unfolding column_of
returns c = from_fn_numbers (λ k. point_number c.args.words.now k c.args.j) 5 (λ k y q l r. search rules) c.from_fn.ensures.items
