-- The first five numbers.
use Rattle.composing.specs.Draft.{pathed, given_path}
use Rattle.composing.proofs.compose_text.given.path.Goals as goal

pub returns : goal.returns
unfolding given_path pathed
returns c = rw (c.shape_in.ensures, c.nothing.ensures)
