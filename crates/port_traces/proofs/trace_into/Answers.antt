-- Thirty words to each list.
use native.Mathlib.Omega.{arith}
use Rattle.std.proofs.lemmas.List.{length-take-le}
use Rattle.port_traces.proofs.trace_into.Goals as goal

pub copy_from_slice-requires : goal.copy_from_slice-requires
copy_from_slice-requires c = omega (arith, length-take-le 30 c.args.khz.now c.if-khz-lt30.false)

pub copy_from_slice-requires-2 : goal.copy_from_slice-requires-2
copy_from_slice-requires-2 c = omega (arith, length-take-le 30 c.args.height.now c.if-height-lt30.false)
