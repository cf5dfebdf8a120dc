-- Three parts, each on what the one before left.
use native.Mathlib.Omega.{arith}
use mathlib.Core.Path.{◌≡◌}
use lib.ListN.{length}
use Rattle.port_circuit.proofs.Laid.{laid}
use Rattle.port_circuit.proofs.circuit_into.Goals as goal

pub returns : goal.returns
returns c =
    let s = c in
    let points : length c.args.c.points ≡ 75 = omega arith in
    let deciles : length c.args.c.deciles ≡ 576 = omega arith in
    rw (
      ← laid s.args.c s.args.w.now points deciles,
      ← c.words_into.ensures,
      ← c.words_into-2.ensures,
    ) c.words_into-3.ensures
