-- As many numbers are lent as there are points.
use Rattle.circuit_sheet.proofs.circuit_numbers.Sizes.{es-lent, column-lent}
use Rattle.circuit_sheet.specs.CircuitSheet.{muf_of}
use Rattle.circuit_sheet.proofs.circuit_muf.Goals as goal

pub slice_bounds-curmuf-end : goal.slice_bounds-curmuf-end
slice_bounds-curmuf-end c = es-lent _ _ _ c.es_rows-es.ensures c.requires

pub slice_bounds-curmuf-end-3 : goal.slice_bounds-curmuf-end-3
slice_bounds-curmuf-end-3 c = column-lent _ _ _ _ c.column-clat.ensures c.requires

pub slice_bounds-curmuf-end-4 : goal.slice_bounds-curmuf-end-4
slice_bounds-curmuf-end-4 c = column-lent _ _ _ _ c.column-clck.ensures c.requires

pub returns : goal.returns
unfolding muf_of
returns c = rw (← c.es_rows-es.ensures, ← c.column-clat.ensures, ← c.column-clck.ensures, ← c.decile_table-f2d.ensures, ← c.path-path.ensures, ← c.curmuf.ensures.value)
