-- The cursor of a scan is 0, which fits its word.
use Prim.Native.Nat.{zero-le}
use Rattle.heights.proofs.Whole.{scan-cursor}
use Rattle.port_heights.proofs.port_gethp_scan.Goals as goal

pub heights_by-requires-clause-cursor : goal.heights_by-requires-clause-cursor
heights_by-requires-clause-cursor c s x h e = rw (e, scan-cursor s.now x) zero-le
