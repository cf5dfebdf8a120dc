-- A picture of at most three slots has at most 23,822 bytes, a panel at most 6,452 of them; a number is given twenty digits, whatever it is.
use mathlib.Core.Bool.{Bool, true, false, cond}
use mathlib.Core.List.{List, []}
use mathlib.Core.Path.{refl}
use Prim.Native.Nat.{ℕ, ◌+◌, ◌*◌, ◌≤◌}
use native.Mathlib.Omega.{arith}
use lib.Dec.{eqb}
use lib.Ieee.{Float}
use lib.ListN.{get_or}
use Rattle.lines.proofs.Sizes.{AtMost, ◌then◌, word, decimal, times}
use Rattle.scalar.specs.F32.{at}
use Rattle.scalar.specs.Root.{sqrt_of}
use Rattle.reflectrix.specs.declared.Ionogram.{Ionogram}
use Rattle.profile.specs.declared.shapes.Mark.{Mark}
use Rattle.circuit_sheet.specs.declared.SlotRows.{SlotRows}
use Rattle.circuit_sheet.specs.CircuitSheet.{no_slot_rows}
use Rattle.plot_text.specs.declared.circuit_plot.DrawnProfile.{DrawnProfile}
use Rattle.plot_text.specs.declared.circuit_plot.Plot.{Plot}
use Rattle.lines.specs.Ascii.{ascii}
use Rattle.svg.proofs.trace.Lengths.{counted, trace}
use Rattle.svg.proofs.text.Lengths.{mark, muf-line}
use Rattle.svg.proofs.frame.Lengths.{head}
use Rattle.plot_text.specs.Panels.{named_text, top_text, ionogram_paths, height_text, no_mark, height_text_at, profile_text, panel_text, no_profile, panel_at, picture_text}

named_by : (b : Bool) → AtMost (cond b (ascii ", controlling") []) 13
named_by true = counted _ 13 refl
named_by false = counted _ 13 refl

named : (k ks : ℕ) → AtMost (named_text k ks) 13
unfolding named_text
named k ks = named_by (eqb k ks)

top : (k ks : ℕ) → AtMost (top_text k ks) 148
unfolding top_text
top k ks =
    word (ascii "<g transform='translate(0 ") then decimal (800 + 4000 * k) then word (ascii ")'>\n<text class='b' x='700' y='200'>slot ") then decimal k then named k ks then word (ascii "</text>\n<use href='#axes'/>\n")

rows : (ion : Ionogram) → AtMost (ionogram_paths ion) 2575
unfolding ionogram_paths
rows ion =
    word (ascii "<path class='virtual' d='") then trace ion.fvert ion.hprim then word (ascii "'/>\n<path class='true' d='") then trace ion.fvert ion.htrue then word (ascii "'/>\n")

height : (m : Mark) (density h : Float) → AtMost (height_text m density h) 72
unfolding height_text
height m density h = mark m (sqrt_of density) h

profile : (p : DrawnProfile) (marks : List Mark) → AtMost (profile_text p marks) 3600
unfolding profile_text
profile p marks = times (height_text_at p marks) 72 50 (λ i l. height (get_or marks i no_mark) (at p.fnsq i) (at p.htr i))

panel : (r : SlotRows) (p : DrawnProfile) (muf : Float) (ks k : ℕ) → AtMost (panel_text r p muf ks k) 6452
unfolding panel_text
panel r p muf ks k = top k ks then muf-line muf then rows r.ion then profile p r.marks then word (ascii "</g>\n")

pub answered-most : (p : Plot) → p.sheet.slots ≤ 3 → AtMost (picture_text p) 23822
unfolding picture_text
answered-most p h =
    let panels = times (panel_at p.sheet.rows p.profiles p.sheet.hour) 6452 p.sheet.slots (λ k l. panel (get_or p.sheet.rows k no_slot_rows) (get_or p.profiles k no_profile) p.sheet.hour.allmuf p.sheet.hour.ks k) in
    let t = head p.sheet.slots p.sheet.hour.allmuf then panels then word (ascii "</svg>\n") in
    record { most = omega (arith, t.most) }
