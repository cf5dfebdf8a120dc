-- The answer is the maximum, which is from a millionth to 1.
use mathlib.Core.Path.{sym, ap, ◌∙◌, subst}
use lib.Ieee.{Float}
use Rattle.scalar.specs.Literals.{f0_000001}
use Rattle.scalar.specs.Scalar.{max_of}
use Rattle.reflectrix.specs.Cell.{sqcos_of}
use Rattle.reflectrix.proofs.cell_test.Cosine.{Cosine, squared}
use Rattle.reflectrix.proofs.cell_test.squared_cosine.Goals as goal

pub returns : goal.returns
unfolding sqcos_of
returns c = subst (Cosine c.args.sphe) (sym (c.cut.ensures ∙ ap (λ (x : Float). max_of x f0_000001) c.uncut.ensures)) (squared c.args.sphe)
