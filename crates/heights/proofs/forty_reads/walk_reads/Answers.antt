use mathlib.Core.Path.{◌≡◌, refl}
use mathlib.Core.Bool.{Bool}
use mathlib.Core.List.{List}
use Prim.Native.Nat.{◌+◌, ◌*◌, ℕ}
use native.Mathlib.Nat.{le_antisymm}
use native.Mathlib.Numerals.{add-one}
use native.Mathlib.Omega.{arith}
use lib.ListN.{set}
use lib.Ieee.{Float}
use Rattle.scalar.specs.F32.{◌≥f◌, at}
use Rattle.scalar.specs.Literals.{f0}
use Rattle.readings.specs.Scan.{value_of}
use Rattle.readings.specs.Cursor.{read_on_of}
use Rattle.readings.specs.declared.Read.{Read}
use Rattle.heights.specs.Walk.{cursor_before}
use Rattle.heights.specs.Nodes.{height_of, height_at, ig_at, ib_at}
use Rattle.heights.specs.ReadsByWalk.{placed, walk_reads, cursor_after}
use Rattle.heights.proofs.forty_reads.walk_reads.Goals as goal

one-turn : (htr fnsq : List Float) (ht : Float) (up : Bool) (h0 : Float) (k : ℕ) (ysq : List Float) (ih ig ib : ℕ) (zi : Float) (r : Read) (y : Float) → up ≡ (ht ≥f f0) → h0 ≡ at htr 0 → ysq ≡ walk_reads htr fnsq ht k → ih ≡ cursor_after htr fnsq ht k → ig ≡ ig_at k → ib ≡ ib_at up k → zi ≡ height_of h0 ht ig ib → r ≡ read_on_of htr fnsq zi ih → y ≡ value_of r.reading
    → (set ysq (2 * ig + ib) y ≡ walk_reads htr fnsq ht (k + 1)) × (r.cursor ≡ cursor_after htr fnsq ht (k + 1))
unfolding walk_reads placed cursor_before height_at
one-turn htr fnsq ht up h0 k ysq ih ig ib zi r y eu eh el ei eg eb ez er ey = (rw (add-one k, ey, er, ez, ei, el, eb, eg, eh, eu), rw (add-one k, er, ez, ei, eb, eg, eh, eu))

pub loop-k-init : goal.loop-k-init
unfolding walk_reads placed cursor_before
loop-k-init c = (omega arith, refl, refl, refl, refl)

pub loop-k-preserved : goal.loop-k-preserved
loop-k-preserved c =
    let l = c.loop-k in
    let ig = c.ig_at-ig in
    let ib = c.ib_at-ib in
    let h = c.height-zi in
    let r = c.read_on-r in
    let t = one-turn _ _ _ _ _ l.k _ _ _ _ _ _ _ l.invariant.3 l.invariant.4 l.invariant.1 l.invariant.2 ig.ensures.1 ib.ensures.1 h.ensures r.ensures c.value-y.ensures in
    (omega arith, t.0, t.1, l.invariant.3, l.invariant.4)

pub returns : goal.returns
returns c =
    let l = c.loop-k in
    let e = le_antisymm l.invariant.0 c.loop-k-test.false in
    (rw e at l.invariant.1, rw e at l.invariant.2)
