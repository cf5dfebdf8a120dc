-- The lanes are those of the N places from the i-th on, and go back there.
use mathlib.Core.Path.{◌≡◌, sym, ap, ◌∙◌}
use mathlib.Core.List.{List, map, ◌++◌}
use Prim.Native.Nat.{ℕ, ◌+◌, ◌-◌, ◌≤◌}
use native.Mathlib.Omega.{arith}
use lib.Ieee.{Float}
use lib.Lanes.{chunk, put_chunk}
use lib.ListN.{length, take, drop}
use borrow.Rule.Slice.PartMut.{mid_of, put_mid}
use Rattle.std.proofs.Math.Seq.{take-add}
use Rattle.std.proofs.lemmas.List.{take_at, drop_at, take_all, take-map, drop-map, drop-drop, map-append, append_assoc, length-map, length-take, length-take-le}
use Rattle.std.proofs.lemmas.Simd.{put_chunk_whole}
use Rattle.profile.specs.Density.{fnd_of, density_of}
use Rattle.profile.proofs.shape_densities.Curves.raise.Goals as goal

module _ (f t : Float → Float) (h d : List Float) (i n k : ℕ) (le : i + n ≤ length h) (e : d ≡ map f (take i h) ++ map t (drop i h)) where
  long : length (map f (take i h)) ≡ i
  long = length-map (take i h) f ∙ length-take-le i h (omega arith)

  rest : drop i d ≡ map t (drop i h)
  rest = ap (drop i) e ∙ drop_at (map f (take i h)) (map t (drop i h)) i long

  part : (m : ℕ) → take m (drop i d) ≡ map t (take m (drop i h))
  part m = ap (take m) rest ∙ take-map t m (drop i h)

  tails : chunk 0 n (mid_of i k d) ≡ map t (chunk 0 n (mid_of i k h))
  tails = ap (take n) (part k) ∙ take-map t n (take k (drop i h))

  raised : k ≡ n → put_mid i k d (put_chunk 0 (mid_of i k d) (map f (chunk 0 n (mid_of i k h)))) ≡ map f (take (i + n) h) ++ map t (drop (i + n) h)
  raised q =
      let r = drop i h in
      let short : length (take n r) ≤ n = omega (arith, length-take n r) in
      let same : length (take n (drop i d)) ≡ length (map f (take n r)) = ap length (part n) ∙ length-map (take n r) t ∙ sym (length-map (take n r) f) in
      let first : take i d ≡ map f (take i h) = ap (take i) e ∙ take_at (map f (take i h)) (map t (drop i h)) i long in
      let last : drop n (drop i d) ≡ map t (drop (i + n) h) = ap (drop n) rest ∙ drop-map t n r ∙ ap (map t) (drop-drop n i h) in
      let joined : map f (take i h) ++ map f (take n r) ≡ map f (take (i + n) h) = sym (map-append f (take i h) (take n r)) ∙ ap (map f) (sym (take-add i n h)) in
      rw (q, take_all n (take n r) short, put_chunk_whole _ _ same, first, last)
      (sym (append_assoc (map f (take i h)) (map f (take n r)) (map t (drop (i + n) h))) ∙ ap (λ l. l ++ map t (drop (i + n) h)) joined)

pub density-requires : goal.density-requires
density-requires g c =
    let a = c.args in
    let n = g.row.N in
    (omega (arith, c.requires.0), tails (density_of a.self) (fnd_of a.self) a.htr.now a.d.now a.i n (a.i + n - a.i) (omega arith) c.requires.1)

pub returns : goal.returns
returns g c =
    let a = c.args in
    let n = g.row.N in
    rw (c.density.ensures) (raised (density_of a.self) (fnd_of a.self) a.htr.now a.d.now a.i n (a.i + n - a.i) (omega arith) c.requires.1 (omega arith))
