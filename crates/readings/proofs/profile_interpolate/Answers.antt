-- The code follows the definition; each call is what its contract says.
use Rattle.readings.specs.Scan.{profile_interpolate_of, profile_segment_of}
use Rattle.readings.proofs.profile_interpolate.Goals as goal

pub returns : goal.returns
unfolding profile_interpolate_of profile_segment_of
returns c = rw (← c.scan-r.ensures, ← c.value.ensures, ← c.segment_number.ensures)
