-- What is drawn of a circuit file: its sheet, and of each slot the profile that `lecden` makes of it, as `ionset` left it: the one that the slot's rows were taken off.
use Rattle.std.specs.Prelude.{Result, Ok, Err, List, [], ◌∷◌, ℕ}
use Rattle.records.specs.Record.{form64}
use Rattle.circuit.specs.Read.{circuit_in, read_of}
use Rattle.refusal.specs.declared.Refusal.{Refusal}
use Rattle.circuit.specs.declared.Circuit.{Circuit}
use Rattle.circuit_sheet.specs.declared.Sheet.{Sheet}
use Rattle.layers.specs.declared.IonoState.{IonoState}
use Rattle.profile.specs.Lecden.{lecden_of}
use Rattle.circuit_sheet.specs.CircuitSheet.{slots_of, sheet_of}
use Rattle.plot_text.specs.declared.circuit_plot.DrawnProfile.{DrawnProfile}
use Rattle.plot_text.specs.declared.circuit_plot.Plot.{Plot}

unfoldable pub profile_of : IonoState → ℕ → DrawnProfile
profile_of s k = let t = lecden_of s k in record { htr = t.htr; fnsq = t.fnsq }

unfoldable pub profiles_of : IonoState → List DrawnProfile
profiles_of s = profile_of s 0 ∷ profile_of s 1 ∷ profile_of s 2 ∷ []

-- the sheet, and the profiles of the circuit that it is of
abbrev pub plot_by : Result Sheet Refusal → Circuit → Result Plot Refusal
plot_by (Ok sheet) c = Ok (record { sheet = sheet; profiles = profiles_of (slots_of c) })
plot_by (Err r) c = Err r

unfoldable pub plot_of : List ℕ → Result Plot Refusal
plot_of f = plot_by (sheet_of f) (circuit_in (read_of form64 f))
