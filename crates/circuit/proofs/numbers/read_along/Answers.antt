-- By what holds along a chain that was followed to its end; record 0 is found as the other records are.
use mathlib.Core.Path.{◌≡◌, ap, ◌∙◌}
use native.Mathlib.Omega.{arith}
use lib.ListN.{length}
use Rattle.records.specs.Record.{record_at}
use Rattle.records.specs.Chain.{km_of}
use Rattle.circuit.specs.Read.{circuit_of}
use Rattle.circuit.proofs.Along.{head-there, length-head, room-points, deciles-after, room-deciles, points-are, deciles-are, points-found, deciles-found}
use Rattle.circuit.proofs.numbers.read_along.Given.{Over}
use Rattle.circuit.proofs.numbers.read_along.Goals.{After-part-head, After-byte-km}
use Rattle.circuit.proofs.numbers.read_along.Goals as goal

head-is : (g : Over) (c : After-part-head g) → c.part-head.result.now ≡ record_at c.requires.0 c.args.file.now 0
head-is g c =
    let q = c.requires in
    (q.3 c.args.file 0 (head-there q.0 q.1 _ _ q.2)).1 c.part-head.result c.part-head.ensures

km-is : (g : Over) (c : After-byte-km g) → c.byte-km.result ≡ km_of (record_at c.requires.0 c.args.file.now 0)
km-is g c =
    let q = c.requires in
    c.byte-km.ensures ∙ ap km_of ((q.3 c.args.file 0 (head-there q.0 q.1 _ _ q.2)).1 c.part-head.result c.part-head.ensures)

pub part-head-requires : goal.part-head-requires
part-head-requires g c =
    let q = c.requires in
    (q.3 c.args.file 0 (head-there q.0 q.1 _ _ q.2)).0

pub byte-km-requires : goal.byte-km-requires
byte-km-requires g c =
    let q = c.requires in
    let long = ap length (head-is g c) ∙ length-head q.0 q.1 _ _ q.2 in
    omega (arith, long, q.1.0)

pub joined-requires : goal.joined-requires
joined-requires g c =
    let q = c.requires in
    let long = ap length (head-is g (goal.at.joined-requires g c).After-part-head) ∙ length-head q.0 q.1 _ _ q.2 in
    omega (arith, long, q.1.0)

pub slice_bounds-numbers_of-end : goal.slice_bounds-numbers_of-end
slice_bounds-numbers_of-end g c =
    let q = c.requires in
    room-points q.0 q.1 _ _ q.2 c.byte-km.result (km-is g (goal.at.slice_bounds-numbers_of-end g c).After-byte-km)

pub numbers_of-points-requires : goal.numbers_of-points-requires
numbers_of-points-requires g c =
    let q = c.requires in
    let km = c.byte-km.result in
    let k = km-is g (goal.at.numbers_of-points-requires g c).After-byte-km in
    let p = points-found q.0 q.1 _ _ q.2 km k _ _ q.3 15 (omega (arith, q.1.0)) in
    (omega arith, (omega (arith, p.0), (q.0, p.1)))

pub slice_bounds-numbers_of-end-2 : goal.slice_bounds-numbers_of-end-2
slice_bounds-numbers_of-end-2 g c =
    let q = c.requires in
    room-deciles q.0 q.1 _ _ q.2 c.byte-km.result (km-is g (goal.at.slice_bounds-numbers_of-end-2 g c).After-byte-km)

pub slice_bounds-numbers_of-start-2 : goal.slice_bounds-numbers_of-start-2
slice_bounds-numbers_of-start-2 g c =
    let q = c.requires in
    deciles-after q.0 q.1 _ _ q.2 c.byte-km.result (km-is g (goal.at.slice_bounds-numbers_of-start-2 g c).After-byte-km)

pub slice_bounds-numbers_of-count-2 : goal.slice_bounds-numbers_of-count-2
slice_bounds-numbers_of-count-2 g c =
    let q = c.requires in
    deciles-after q.0 q.1 _ _ q.2 c.byte-km.result (km-is g (goal.at.slice_bounds-numbers_of-count-2 g c).After-byte-km)

pub numbers_of-deciles-requires : goal.numbers_of-deciles-requires
numbers_of-deciles-requires g c =
    let q = c.requires in
    let km = c.byte-km.result in
    let k = km-is g (goal.at.numbers_of-deciles-requires g c).After-byte-km in
    let p = deciles-found q.0 q.1 _ _ q.2 km k _ _ q.3 12 (omega (arith, q.1.0)) in
    (omega arith, (omega (arith, p.0), (q.0, p.1)))

pub returns : goal.returns
unfolding circuit_of
returns g c = λ o fit e parts.
    let r = (parts c.args.file 0 (head-there o fit _ _ e)).1 c.part-head.result c.part-head.ensures in
    let km = c.byte-km.result in
    let k = c.byte-km.ensures ∙ ap km_of r in
    let points = c.numbers_of-points.ensures o (points-found o fit _ _ e km k _ _ parts 15 (omega (arith, fit.0))).1 in
    let deciles = c.numbers_of-deciles.ensures o (deciles-found o fit _ _ e km k _ _ parts 12 (omega (arith, fit.0))).1 in
    rw (c.joined.ensures, deciles, deciles-are o fit _ _ e km k 0 12, points, points-are o fit _ _ e km k 0 15, r, k)
