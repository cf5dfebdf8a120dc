use Rattle.std.proofs.Common.{rules, ◌≡◌, ℕ, ◌+◌, true, false, List}
use mathlib.Core.Path.{sym, ap, ◌∙◌}
use Rattle.lines.specs.Text.{with_text, joined}
use Rattle.lines.proofs.Placing.{put_then, put_none, joined_more}
use Rattle.profile.specs.declared.shapes.Mark.{Mark}
use Rattle.show_text.specs.RunText.{mark_at, begins_at, ends_at, start_text, end_text, run_text}
use Rattle.show_text.proofs.run_text.put_runs.Goals.{then-i-eq0, then-i-eq0-via-then-i-eq0, then-i-eq0-via-else-i-eq0+then-ne, else-i-eq0+else-ne, then-i-eq49, then-i-eq49-via-then-i-eq49, then-i-eq49-via-else-i-eq49+then-ne-2, else-i-eq49+else-ne-2}
use Rattle.show_text.proofs.run_text.put_runs.Goals as goal

begun : (n : ℕ) (marks : List Mark) (i : ℕ) (p : List ℕ) {page : List ℕ} → begins_at marks i ≡ true → page ≡ with_text n p (start_text true i) → page ≡ with_text n p (start_text (begins_at marks i) i)
begun n marks i p e h = rw e h

going : (n : ℕ) (marks : List Mark) (i : ℕ) (p : List ℕ) {page : List ℕ} → begins_at marks i ≡ false → page ≡ p → page ≡ with_text n p (start_text (begins_at marks i) i)
unfolding start_text
going n marks i p e h = rw e (h ∙ sym (put_none n p))

ended : (n : ℕ) (marks : List Mark) (i : ℕ) (p : List ℕ) {page : List ℕ} → ends_at marks i ≡ true → page ≡ with_text n p (end_text true i (mark_at marks i)) → page ≡ with_text n p (end_text (ends_at marks i) i (mark_at marks i))
ended n marks i p e h = rw e h

still : (n : ℕ) (marks : List Mark) (i : ℕ) (p : List ℕ) {page : List ℕ} → ends_at marks i ≡ false → page ≡ p → page ≡ with_text n p (end_text (ends_at marks i) i (mark_at marks i))
unfolding end_text
still n marks i p e h = rw e (h ∙ sym (put_none n p))

-- what one height puts, after those below
one_more : (n : ℕ) (marks : List Mark) (i : ℕ) (first page : List ℕ) {start end : List ℕ} → page ≡ with_text n first (joined (run_text marks) i)
    → start ≡ with_text n page (start_text (begins_at marks i) i) → end ≡ with_text n start (end_text (ends_at marks i) i (mark_at marks i))
    → end ≡ with_text n first (joined (run_text marks) (i + 1))
unfolding run_text
one_more n marks i first page e s t =
    put_then n first (joined (run_text marks) i) (run_text marks i) e (put_then n page (start_text (begins_at marks i) i) (end_text (ends_at marks i) i (mark_at marks i)) s t)
    ∙ ap (with_text n first) (sym (joined_more (run_text marks) i))

pub loop-i-preserved : goal.loop-i-preserved
unfolding start_text end_text begins_at ends_at mark_at
loop-i-preserved g c =
    let n = g.row.N in
    let i = c.loop-i.i in
    let ms = c.args.marks.now in
    let p = c.if-i-eq0.page in
    let s : p ≡ with_text n c.loop-i.page (start_text (begins_at ms i) i) = elim c.if-i-eq0.branch [
      | then-i-eq0 w ↦ begun n ms i c.loop-i.page
          (elim w.then-i-eq0.branch [ then-i-eq0-via-then-i-eq0 v ↦ search rules | then-i-eq0-via-else-i-eq0+then-ne v ↦ search rules ])
          (w.page-is ∙ w.put_start.ensures)
      | else-i-eq0+else-ne w ↦ going n ms i c.loop-i.page (search rules) w.page-is
    ] in
    let t : c.if-i-eq49.page ≡ with_text n p (end_text (ends_at ms i) i (mark_at ms i)) = elim c.if-i-eq49.branch [
      | then-i-eq49 w ↦ ended n ms i p
          (elim w.then-i-eq49.branch [ then-i-eq49-via-then-i-eq49 v ↦ search rules | then-i-eq49-via-else-i-eq49+then-ne-2 v ↦ search rules ])
          (w.page-is ∙ w.put_end.ensures)
      | else-i-eq49+else-ne-2 w ↦ still n ms i p (search rules) w.page-is
    ] in
    one_more n ms i c.args.page.now c.loop-i.page c.loop-i.invariant s t
