use mathlib.Core.Path.{◌≡◌, refl, ◌∙◌}
use mathlib.Core.List.{map}
use Prim.Native.Nat.{ℕ, ◌/◌, ◌%◌}
use Rattle.std.proofs.Common.{rules}
use Rattle.std.specs.List.{range_with_len}
use Rattle.std.proofs.lemmas.List.FromFn.{fill_by_all}
use lib.Ieee.{Float, nan}
use Rattle.scalar.specs.F32.{at}
use Rattle.scalar.proofs.FromFn.{from_fn_each}
use Rattle.readings.specs.Scan.{value_of, reading_of}
use Rattle.heights.specs.Nodes.{height_of}
use Rattle.heights.specs.ReadsByWalk.{placed, scan_reads}
use Rattle.heights.proofs.forty_reads.scan_reads.Goals as goal

-- each at its own place
in-order : (f : ℕ → Float) → map f (range_with_len 0 40) ≡ placed (λ k. k) f 40
unfolding placed
in-order f = refl

pub returns : goal.returns
unfolding scan_reads
returns c =
    let p = c.args.p in
    let f = λ (k : ℕ). value_of (reading_of p.htr.now p.fnsq.now (height_of (at p.htr.now 0) c.args.ht (k / 2) (k % 2))) in
    let r = c.from_fn-ysq.ensures.items in
    (fill_by_all f _ 40 nan r.long (from_fn_each (λ k y. y ≡ f k) (λ k y q l r. search rules) r nan) ∙ in-order f, refl)
