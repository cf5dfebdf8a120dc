-- By the two tests.
use Rattle.circuit.specs.Written.{write_answer_of}
use Rattle.chain_text.specs.Laws.{WriterOrder}

pub writer-order : WriterOrder
unfolding write_answer_of
writer-order o c out = (λ e. rw e, λ e h. rw (e, h))
