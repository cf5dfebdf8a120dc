use Prim.Native.Nat.{◌+◌, ◌<◌}
use mathlib.Core.Path.{◌≡◌, refl}
use native.Mathlib.Omega.{arith}
use mir.Val.{to_z, of_z}
use mir.Syntax.{w64}
use borrow.Author.Rules.{rules}
use lib.ListN.{length, set, length-drop}
use Rattle.std.proofs.lemmas.List.{take_rest}
use Rattle.traces.specs.Lines.{which_number, of_first, of_second}
use Rattle.traces.proofs.Merged.{Kept, rows_left, more, more_rows, ended, lengths, all_left}
use Rattle.traces.proofs.lines.Goals.{After-next-l, At-loop-i}
use Rattle.traces.proofs.lines.Goals as goal

len : (c : At-loop-i)
    →
    let l = c.loop-i in
    (length l.khz ≡ length c.args.khz.now) × (length l.which ≡ length c.args.which.now)
    × (length l.difference ≡ length c.args.difference.now)
len c =
    let g = c.args in
    let p = c.requires in
    lengths g.a.now g.ah.now g.b.now g.bh.now g.khz.now g.which.now g.difference.now p.0 p.1
    p.4 p.5 p.6 c.loop-i.khz c.loop-i.which c.loop-i.difference c.loop-i.i c.loop-i.j c.loop-i.n c.loop-i.invariant

written : (c : After-next-l)
    →
    let l = c.loop-i in
    let r = c.next-l.result in
    Kept c.args.a.now c.args.ah.now c.args.b.now c.args.bh.now c.args.khz.now c.args.which.now
    c.args.difference.now (set l.khz l.n r.khz) (set l.which l.n (which_number r.which))
    (set l.difference l.n r.difference) (l.i + of_first r.which) (l.j + of_second r.which) (l.n + 1)
written c =
    let g = c.args in
    let p = c.requires in
    more g.a.now g.ah.now g.b.now g.bh.now g.khz.now g.which.now g.difference.now p.0 p.1 p.4
    p.5 p.6 c.loop-i.khz c.loop-i.which c.loop-i.difference c.loop-i.i c.loop-i.j c.loop-i.n c.loop-i.invariant
    c.loop-i-test.true c.next-l.result (simp take_rest at c.next-l.ensures)

some-rows : (c : After-next-l) → 0 < of_first c.next-l.result.which + of_second c.next-l.result.which
some-rows c =
    let g = c.args in
    let p = c.requires in
    more_rows g.a.now g.ah.now g.b.now g.bh.now g.khz.now g.which.now g.difference.now p.0 p.1
    p.4 p.5 p.6 c.loop-i.khz c.loop-i.which c.loop-i.difference c.loop-i.i c.loop-i.j c.loop-i.n
    c.loop-i.invariant c.loop-i-test.true c.next-l.result (simp take_rest at c.next-l.ensures)

pub loop-i-init : goal.loop-i-init
loop-i-init c =
    record {
      first = omega arith;
      second = omega arith;
      few = omega arith;
      within = omega arith;
      left = refl;
      khz-is = refl;
      which-is = refl;
      difference-is = refl;
    }

pub next-l-requires : goal.next-l-requires
next-l-requires c =
    let g = c.args in
    let p = c.requires in
    let i = c.loop-i.i in
    let j = c.loop-i.j in
    let first = c.loop-i.invariant.first in
    let second = c.loop-i.invariant.second in
    simp take_rest
    (rows_left g.a.now g.ah.now i p.0, rows_left g.b.now g.bh.now j p.1, simp length-drop (omega arith))

pub bounds-khz-n : goal.bounds-khz-n
bounds-khz-n c = let e = (len (goal.at.bounds-khz-n c).At-loop-i).0 in omega arith

pub bounds-which-n : goal.bounds-which-n
bounds-which-n c = let e = (len (goal.at.bounds-which-n c).At-loop-i).1 in omega arith

pub bounds-difference-n : goal.bounds-difference-n
bounds-difference-n c = let e = (len (goal.at.bounds-difference-n c).At-loop-i).2 in omega arith

pub overflow_add-i-in-loop-i : goal.overflow_add-i-in-loop-i
overflow_add-i-in-loop-i c = let e = c.of_first-i.ensures in let k = (written (goal.at.overflow_add-i-in-loop-i c).After-next-l).first in omega arith

pub overflow_add-j : goal.overflow_add-j
overflow_add-j c = let e = c.of_second-j.ensures in let k = (written (goal.at.overflow_add-j c).After-next-l).second in omega arith

pub loop-i-smaller : goal.loop-i-smaller
loop-i-smaller c =
    let e = c.of_first-i.ensures in
    let f = c.of_second-j.ensures in
    let some = some-rows (goal.at.loop-i-smaller c).After-next-l in
    omega arith

pub loop-i-preserved : goal.loop-i-preserved
loop-i-preserved c =
    let e : to_z w64 (of_z w64 c.next-l.result.difference) ≡ c.next-l.result.difference = search rules in
    rw (e, c.from.ensures, c.of_first-i.ensures, c.of_second-j.ensures) (written (goal.at.loop-i-preserved c).After-next-l)

pub shape_of-khz : goal.shape_of-khz
shape_of-khz c = (len (goal.at.shape_of-khz c).At-loop-i).0

pub shape_of-which : goal.shape_of-which
shape_of-which c = (len (goal.at.shape_of-which c).At-loop-i).1

pub shape_of-difference : goal.shape_of-difference
shape_of-difference c = (len (goal.at.shape_of-difference c).At-loop-i).2

pub returns : goal.returns
returns c =
    let g = c.args in
    let p = c.requires in
    let l = c.loop-i in
    let e =
    ended g.a.now g.ah.now g.b.now g.bh.now g.khz.now g.which.now g.difference.now p.0 p.1
    p.4 p.5 p.6 l.khz l.which l.difference l.i l.j l.n l.invariant c.loop-i-test.false
    in
    let f =
    all_left g.a.now g.ah.now g.b.now g.bh.now g.khz.now g.which.now g.difference.now p.0
    p.1 p.4 p.5 p.6 l.khz l.which l.difference l.i l.j l.n l.invariant c.loop-i-test.false
    in
    record { value = e; khz_after = f.0; which_after = f.1; difference_after = f.2 }
