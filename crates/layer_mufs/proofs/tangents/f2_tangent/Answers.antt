-- Each path is the clause that its tests choose; each call is what its contract says.
use Rattle.layer_mufs.specs.Tangents.{f2_tangent_of}
use Rattle.layer_mufs.proofs.tangents.f2_tangent.Goals as goal

pub returns-then-gcdkm : goal.returns-then-gcdkm
unfolding f2_tangent_of
returns-then-gcdkm c = rw (← c.tangent_ratio-xt2.ensures, c.if-gcdkm.true, ← c.short_path-beta.ensures)

pub returns : goal.returns
unfolding f2_tangent_of
returns c = rw (← c.tangent_ratio-xt2.ensures, c.if-gcdkm.false)
