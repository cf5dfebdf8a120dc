-- The forty densities fill the flat table, and its sum is the sum over the nodes.
use mathlib.Core.Path.{◌≡◌}
use mathlib.Core.Bool.{Bool, false}
use mathlib.Core.List.{List}
use Prim.Native.Nat.{ℕ}
use lib.Ieee.{Float}
use Rattle.scalar.specs.F32.{◌+f◌, ◌*f◌, at}
use Rattle.heights.specs.Nodes.{xnpl, twdiv}
use Rattle.heights.specs.ReadsByWalk.{flat, table_by, ysq_read_by, cursor_read_by}
use Rattle.heights.specs.Gethp.{hp_of, heights_by}
use Rattle.heights.specs.declared.Heights.{Heights}
use Rattle.heights.proofs.Tables.{table-sum}
use Rattle.heights.proofs.by_densities.Goals as goal

abbrev made : Float → Float → Float → ℕ → ℕ → Heights
made h0 ht hp cursor segment = record { hp = h0 +f ht *f twdiv *f xnpl *f hp; ht = h0 +f ht; cursor = cursor; segment = segment }

whole : (rises : Bool) (htr fnsq : List Float) (ht fr : Float) (segment : ℕ) (ysq : List Float) (cursor : ℕ) (hp : Float) → ysq ≡ table_by rises htr fnsq ht fr → cursor ≡ cursor_read_by rises htr fnsq ht → hp ≡ hp_of (flat ysq) 20
    → made (at htr 0) ht hp cursor segment ≡ heights_by false htr fnsq fr ht segment (ysq_read_by rises htr fnsq ht fr) (cursor_read_by rises htr fnsq ht)
whole rises htr fnsq ht fr segment ysq cursor hp ey ec eh = rw (eh, ey, ec, table-sum)

pub returns : goal.returns
returns c =
    let a = c.args in
    let d = c.gethp_densities-d in
    whole a.p.rises a.p.htr.now a.p.fnsq.now a.ht a.fr a.segment d.result.ysq d.result.cursor c.quadrature-hp.result d.ensures.0 d.ensures.1 c.quadrature-hp.ensures
