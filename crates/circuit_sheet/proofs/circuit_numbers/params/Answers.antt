use Rattle.std.proofs.Common.{rules}
use Rattle.scalar.proofs.FromFn.{from_fn_numbers}
use Rattle.circuit_sheet.specs.Numbers.{layers_at, params_of}
use Rattle.circuit_sheet.proofs.circuit_numbers.params.Goals as goal

pub returns : goal.returns
unfolding params_of
returns c = from_fn_numbers (λ k. layers_at c.args.words.now k) 5 (λ k y q l r. search rules) c.from_fn.ensures.items
