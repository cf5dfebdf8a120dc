-- The picture of a circuit's slots, in SVG: a panel for each slot, one under the other. A panel has the slot's profile, fifty heights against the plasma frequency, which is the root of the density, each with the mark of its shape; the ionogram's virtual and true heights against the sounding frequency; and a line at the circuit MUF.
use Rattle.std.specs.Prelude.{cond, List, [], ◌++◌, ℕ, ◌+◌, ◌*◌, eqb, Float, get_or}
use Rattle.lines.specs.Text.{decimal_of, joined}
use Rattle.scalar.specs.F32.{at}
use Rattle.scalar.specs.Root.{sqrt_of}
use Rattle.muf.specs.declared.MufHour.{MufHour}
use Rattle.reflectrix.specs.declared.Ionogram.{Ionogram}
use Rattle.profile.specs.declared.shapes.Mark.{Mark}
use Rattle.circuit_sheet.specs.declared.SlotRows.{SlotRows}
use Rattle.circuit_sheet.specs.CircuitSheet.{no_slot_rows}
use Rattle.plot_text.specs.declared.circuit_plot.DrawnProfile.{DrawnProfile}
use Rattle.plot_text.specs.declared.circuit_plot.Plot.{Plot}
use Rattle.lines.specs.Ascii.{ascii}
use Rattle.svg.specs.Trace.{trace_text}
use Rattle.svg.specs.Pieces.{mark_text, muf_text}
use Rattle.svg.specs.Frame.{head_text}

-- the controlling slot is named
unfoldable pub named_text : ℕ → ℕ → List ℕ
named_text k ks = cond (eqb k ks) (ascii ", controlling") []

-- slot k's panel: what follows is measured from its own corner, under the head and the panels before
unfoldable pub top_text : ℕ → ℕ → List ℕ
top_text k ks =
    ascii "<g transform='translate(0 " ++ (decimal_of (800 + 4000 * k) ++ (ascii ")'>\n<text class='b' x='700' y='200'>slot " ++ (decimal_of k ++ (named_text k ks ++ ascii "</text>\n<use href='#axes'/>\n"))))

unfoldable pub ionogram_paths : Ionogram → List ℕ
ionogram_paths ion =
    ascii "<path class='virtual' d='" ++ (trace_text ion.fvert ion.hprim ++ (ascii "'/>\n<path class='true' d='" ++ (trace_text ion.fvert ion.htrue ++ ascii "'/>\n")))

unfoldable pub height_text : Mark → Float → Float → List ℕ
height_text m density h = mark_text m (sqrt_of density) h

-- past the end, where no code reads
abbrev pub no_mark : Mark
no_mark = Mark.None

abbrev pub height_text_at : DrawnProfile → List Mark → ℕ → List ℕ
height_text_at p marks i = height_text (get_or marks i no_mark) (at p.fnsq i) (at p.htr i)

unfoldable pub profile_text : DrawnProfile → List Mark → List ℕ
profile_text p marks = joined (height_text_at p marks) 50

unfoldable pub panel_text : SlotRows → DrawnProfile → Float → ℕ → ℕ → List ℕ
panel_text rows p muf ks k =
    top_text k ks ++ (muf_text muf ++ (ionogram_paths rows.ion ++ (profile_text p rows.marks ++ ascii "</g>\n")))

-- past the end, where no code reads
abbrev pub no_profile : DrawnProfile
no_profile = record { htr = []; fnsq = [] }

abbrev pub panel_at : List SlotRows → List DrawnProfile → MufHour → ℕ → List ℕ
panel_at rows profiles h k = panel_text (get_or rows k no_slot_rows) (get_or profiles k no_profile) h.allmuf h.ks k

unfoldable pub picture_text : Plot → List ℕ
picture_text p =
    let s = p.sheet in
    head_text s.slots s.hour.allmuf ++ (joined (panel_at s.rows p.profiles s.hour) s.slots ++ ascii "</svg>\n")
