-- Each field is its own zero.
use Rattle.layer_mufs.specs.LayerLine.{zero_line}
use Rattle.layer_mufs.proofs.e_lines.zero_line.Goals as goal

pub returns : goal.returns
unfolding zero_line
returns c = let d = c.default.ensures in λ i. record { sigl = d.0 i; sigu = d.1.0 i; delmuf = d.1.1.0 i; hpmuf = d.1.1.1.0 i; htmuf = d.1.1.1.1.0 i; fvmuf = d.1.1.1.1.1.0 i; afmuf = d.1.1.1.1.1.1.0 i; nhopmf = d.1.1.1.1.1.1.1.0 i; yfot = d.1.1.1.1.1.1.1.1.0 i; ymuf = d.1.1.1.1.1.1.1.1.1.0 i; yhpf = d.1.1.1.1.1.1.1.1.1.1 i }
