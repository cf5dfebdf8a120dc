-- The legend has at most 754 bytes, the shapes 470 of them.
use mathlib.Core.Path.{refl}
use Rattle.lines.proofs.Sizes.{AtMost}
use Rattle.svg.proofs.trace.Lengths.{counted}
use Rattle.svg.specs.Legend.{shapes_text, lines_text}

pub shapes : AtMost shapes_text 470
unfolding shapes_text
shapes = counted shapes_text 470 refl

pub lines : AtMost lines_text 284
unfolding lines_text
lines = counted lines_text 284 refl
