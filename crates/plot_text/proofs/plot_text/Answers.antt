-- The plot or its refusal decides, and the text fits.
use mathlib.Core.List.{List}
use mathlib.Core.Path.{◌≡◌, sym, ◌∙◌}
use Prim.Native.Nat.{ℕ, ◌≤◌}
use native.Mathlib.Omega.{arith}
use Rattle.std.specs.Prelude.{Result, Ok, Err}
use Rattle.refusal.specs.declared.Refusal.{Refusal}
use Rattle.lines.specs.Text.{refused_text}
use Rattle.lines.proofs.Placing.{fits}
use Rattle.lines.proofs.Sizes.{refused}
use Rattle.records.specs.Record.{form64}
use Rattle.circuit.specs.Read.{circuit_in, read_of}
use Rattle.circuit.specs.declared.Circuit.{Circuit}
use Rattle.circuit_sheet.specs.declared.Sheet.{Sheet}
use Rattle.circuit_sheet.specs.CircuitSheet.{sheet_of}
use Rattle.sheet_text.specs.SheetText.{SlotsFew}
use Rattle.sheet_text.proofs.SlotCount.{three-slots}
use Rattle.plot_text.specs.declared.circuit_plot.Plot.{Plot}
use Rattle.plot_text.specs.CircuitPlot.{plot_by, plot_of}
use Rattle.plot_text.specs.Panels.{picture_text}
use Rattle.plot_text.specs.PlotText.{plot_text}
use Rattle.plot_text.proofs.plot_panels.Lengths.{answered-most}
use Rattle.plot_text.proofs.plot_text.Goals as goal

few-by : (a : Result Sheet Refusal) (c : Circuit) (p : Plot) → SlotsFew a → plot_by a c ≡ Ok p → p.sheet.slots ≤ 3
few-by (Ok s) c p h e = let z : s ≡ p.sheet = cc in rw (← z) h
few-by (Err r) c p h e = let z : ◌≡◌ {A = ℕ} 0 1 = cc in absurd (omega arith)

few : (f : List ℕ) (p : Plot) → plot_of f ≡ Ok p → p.sheet.slots ≤ 3
unfolding plot_of
few f p e = few-by (sheet_of f) (circuit_in (read_of form64 f)) p (three-slots f) e

pub put_plot-requires : goal.put_plot-requires
put_plot-requires c = (omega arith, few _ c.in-Ok.p (sym c.plot_of.ensures ∙ c.in-Ok.is))

pub returns-in-Ok : goal.returns-in-Ok
unfolding plot_text
returns-in-Ok c =
    let p = c.in-Ok.p in
    let e : plot_of c.args.file.now ≡ Ok p = sym c.plot_of.ensures ∙ c.in-Ok.is in
    rw (e, c.put_plot.ensures, c.new-page.ensures) (fits 24576 (picture_text p) (omega (arith, (answered-most p (few _ p e)).most)))

pub returns-in-Err : goal.returns-in-Err
unfolding plot_text
returns-in-Err c =
    let e : plot_of c.args.file.now ≡ Err c.in-Err.r = sym c.plot_of.ensures ∙ c.in-Err.is in
    rw (e, c.put_refused.ensures, c.new-page.ensures) (fits 24576 (refused_text c.in-Err.r) (omega (arith, (refused c.in-Err.r).most)))
