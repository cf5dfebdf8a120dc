-- Two traces have at most 1,024 lines.
use Prim.Native.Nat.{ℕ, ◌≤◌}
use mathlib.Core.Path.{◌≡◌, refl}
use mathlib.Core.Bool.{Bool, true, false}
use mathlib.Core.List.{List}
use native.Mathlib.Omega.{arith}
use lib.IntN.{ℤ}
use lib.ListN.{length}
use Rattle.std.specs.Result.{result_unwrap_or}
use Rattle.traces.specs.Lines.{trace_lines}
use Rattle.traces.specs.Compared.{ready, compared_by, compared_of}
use Rattle.traces.specs.declared.trace_lines.Line.{Line}
use Rattle.traces.proofs.Answers.{ready-facts}
use Rattle.traces.proofs.trace_laws.OnlyLines.{lines-count}

few-by : (t : Bool) (ls : List Line) (khz which : List ℕ) (difference : List ℤ) → (t ≡ true → length ls ≤ 1024)
    → result_unwrap_or (compared_by t ls khz which difference).answer 0 ≤ 1024
few-by true ls khz which difference h = h refl
few-by false ls khz which difference h = omega arith

pub few-lines : (a ah b bh khz which : List ℕ) (difference : List ℤ)
    → result_unwrap_or (compared_of a ah b bh khz which difference).answer 0 ≤ 1024
unfolding compared_of
few-lines a ah b bh khz which difference =
    few-by (ready a ah b bh khz which difference) (trace_lines a ah b bh) khz which difference
    (λ e.
    let f = ready-facts a ah b bh khz which difference e in
    let n = lines-count a ah b bh f.first f.second in
    omega arith)
