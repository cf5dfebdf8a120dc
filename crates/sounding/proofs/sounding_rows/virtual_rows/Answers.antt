-- With an F1 the rows are those of the profile, lent or owned; else those of the closed form.
use mathlib.Core.Path.{◌≡◌, ◌∙◌}
use borrow.Author.Rules.{rules}
use lib.Ieee.{Float}
use Rattle.profile.specs.Rising.{rises_of}
use Rattle.heights.proofs.Owned.{each-held}
use Rattle.heights.specs.GethpWalk.{gethp_read_of}
use Rattle.sounding.proofs.sounding_rows.Lent.{lent_rows}
use Rattle.sounding.specs.Rows.{HPE, virtual_by_parabola}
use Rattle.sounding.proofs.sounding_rows.virtual_rows.Goals as goal

pub returns-then-t-k : goal.returns-then-t-k
unfolding HPE
returns-then-t-k c =
    let t = c.args.t in
    let g = c.well_formed.0.1.1.0.1.1.1.1.1.1.1.0 in
    let told : t.rises ≡ rises_of t.s.htr = search rules in
    rw c.if-t-k.true
    (c.rows_from_ten.ensures (λ (f : Float). (gethp_read_of t.s.exact_virtual_height t.rises t.s.htr t.s.fnsq f).hp) (λ f h e. search rules)
    ∙ lent_rows (λ h. h.hp) t.s t.rises (each-held t.s.htr g.0 g.1.1) told _ _ _ _)

pub returns : goal.returns
unfolding HPE
returns c = rw c.if-t-k.false (c.rows_from_ten-2.ensures (λ (f : Float). virtual_by_parabola c.args.t.s c.args.k f) (λ f h e. search rules))
