-- The three slots in turn, each from the same state.
use Rattle.std.proofs.Common.{rules}
use Rattle.scalar.proofs.FromFn.{from_fn_numbers}
use Rattle.plot_text.specs.CircuitPlot.{profile_of, profiles_of}
use Rattle.plot_text.proofs.circuit_plot.profiles.Goals as goal

pub returns : goal.returns
unfolding profiles_of
returns c = from_fn_numbers (profile_of c.args.s) 3 (λ k y q l r. search rules) c.from_fn.ensures.items
