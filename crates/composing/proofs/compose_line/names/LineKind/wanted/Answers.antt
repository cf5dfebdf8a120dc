-- Fifteen tests, written out.
use mathlib.Core.Path.{ap, sym, ◌∙◌}
use lib.Dec.{ltb}
use Rattle.std.proofs.Common.{rules}
use Rattle.scalar.proofs.FromFn.{from_fn_numbers}
use Rattle.composing.specs.Names.{wanted_of}
use Rattle.composing.proofs.compose_line.names.LineKind.wanted.Goals as goal

pub returns-in-Path : goal.returns-in-Path
unfolding wanted_of
returns-in-Path c = from_fn_numbers (λ i. ltb i 5) 15 (λ k y q l r. search rules) c.from_fn.ensures.items ∙ ap wanted_of (sym c.in-Path.is)

pub returns-in-Point : goal.returns-in-Point
unfolding wanted_of
returns-in-Point c = ap wanted_of (sym c.in-Point.is)

pub returns-in-Deciles : goal.returns-in-Deciles
unfolding wanted_of
returns-in-Deciles c = from_fn_numbers (λ i. ltb i 12) 15 (λ k y q l r. search rules) c.from_fn-in-Deciles.ensures.items ∙ ap wanted_of (sym c.in-Deciles.is)
