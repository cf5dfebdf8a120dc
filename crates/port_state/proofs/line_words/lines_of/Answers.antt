-- Each line starts eleven words after the one before.
use Prim.Native.Nat.{◌*◌}
use Rattle.std.proofs.Common.{rules}
use Rattle.scalar.proofs.FromFn.{from_fn_numbers}
use Rattle.port_state.specs.Lines.{line_of_words, lines_of_words}
use Rattle.port_state.proofs.line_words.lines_of.Goals as goal

pub returns : goal.returns
unfolding lines_of_words
returns c = from_fn_numbers (λ k. line_of_words c.args.w.now (11 * k)) 4 (λ k y q l r. search rules) c.from_fn.ensures.items
