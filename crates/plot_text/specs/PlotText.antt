-- What `plot` prints: the picture of a circuit file's slots; of a refused file only the refusal.
use Rattle.std.specs.Prelude.{List, ℕ, Result, Ok, Err}
use Rattle.refusal.specs.declared.Refusal.{Refusal}
use Rattle.lines.specs.Text.{refused_text}
use Rattle.plot_text.specs.declared.circuit_plot.Plot.{Plot}
use Rattle.plot_text.specs.CircuitPlot.{plot_of}
use Rattle.plot_text.specs.Panels.{picture_text}

abbrev pub plot_text_by : Result Plot Refusal → List ℕ
plot_text_by (Ok p) = picture_text p
plot_text_by (Err r) = refused_text r

unfoldable pub plot_text : List ℕ → List ℕ
plot_text f = plot_text_by (plot_of f)
