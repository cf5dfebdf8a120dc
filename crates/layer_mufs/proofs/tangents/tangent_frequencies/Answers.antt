-- The code follows the definition; each call is what its contract says.
use Rattle.layer_mufs.specs.Tangents.{tangents_of}
use Rattle.layer_mufs.proofs.tangents.tangent_frequencies.Goals as goal

pub returns : goal.returns
unfolding tangents_of
returns c = rw (← c.tangent_ratio-xte.ensures, ← c.f1_tangent-fx1.ensures, ← c.f2_tangent-f2.ensures)
