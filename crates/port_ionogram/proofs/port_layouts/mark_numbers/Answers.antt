-- Each number is its mark's.
use borrow.Author.Rules.{rules}
use Rattle.profile.specs.declared.shapes.Mark.{Mark}
use Rattle.profile.specs.Mark.{mark_number_of}
use Rattle.records.proofs.Maps.{IsMapOf-map}
use Rattle.port_ionogram.proofs.port_layouts.mark_numbers.Goals as goal

pub returns : goal.returns
returns c = IsMapOf-map _ mark_number_of Mark.None 0 (λ x y p q h. search rules) (search rules) c.map.ensures.items
