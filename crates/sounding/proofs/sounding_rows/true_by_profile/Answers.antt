-- The code follows the definition; each call is what its contract says.
use Rattle.sounding.specs.Rows.{true_by_profile, segment_by_profile}
use mathlib.Core.Path.{ap}
use Rattle.readings.specs.declared.Found.{Found}
use Rattle.sounding.proofs.sounding_rows.true_by_profile.Goals as goal

pub returns : goal.returns
unfolding true_by_profile segment_by_profile
returns c = (ap (λ (r : Found). r.value) c.xlin.ensures, ap (λ (r : Found). r.segment) c.xlin.ensures)
