-- The words are read, and the F2M3s as many as they are.
use mathlib.Core.Path.{◌≡◌, ap, ◌∙◌}
use mathlib.Core.List.{List, ◌++◌, map}
use Prim.Native.Nat.{ℕ}
use native.Mathlib.Omega.{arith}
use lib.ListN.{length, length-map, take, drop, replicate}
use lib.Seq.{take_all, take_at, length-take-le}
use Rattle.scalar.specs.Literals.{f0}
use lib.Ieee.{Float, binary32, of_bits}
use Rattle.port_state.specs.Words.{floats_of}
use Rattle.port_muf.specs.Floats.{floats}
use Rattle.port_muf.specs.NominalExports.{nominal_words}
use Rattle.port_muf.proofs.port_nominal.called.Goals as goal

-- x are all of w, with what is past them
all_of : (w : List ℕ) (x rest : List Float) (m : ℕ) → x ≡ floats_of w 0 m → m ≡ length w → take (length w) (x ++ rest) ≡ floats w
unfolding floats_of
all_of w x rest m e l =
    let f : x ≡ floats w = e ∙ ap (λ (k : ℕ). map (of_bits binary32) (take k w)) l ∙ ap (map (of_bits binary32)) (take_all (length w) w (omega arith)) in
    take_at x rest (length w) (ap length f ∙ length-map w (of_bits binary32)) ∙ f

pub returns : goal.returns
unfolding nominal_words
returns c =
    let w = c.args.f2m3.now in
    rw (
      ← c.number-gcd.ensures,
      ← c.number-gcdkm.ensures,
      ← c.points_of-p.ensures,
      ← c.word_rows-rows.ensures,
    )
    (rw (all_of w c.floats_of.new.x (drop (length w) (replicate 5 f0)) _ c.floats_of.ensures (length-take-le (length w) (replicate 5 f0) (omega arith))) at c.nommuf.ensures)
