-- The text is copied to the start.
use mathlib.Core.Path.{◌≡◌, refl}
use mathlib.Core.List.{List, ◌++◌}
use Prim.Native.Nat.{ℕ, ◌+◌, ◌≤◌}
use native.Mathlib.Omega.{arith}
use lib.ListN.{length, drop}
use Rattle.std.proofs.lemmas.List.Edits.{sets, sets-eq}
use Rattle.port_text.proofs.lent_text.text_into.Goals as goal

at_start : (text out : List ℕ) → length text ≤ length out → text ++ drop (length text) out ≡ sets out 0 text
at_start text out h = let z : 0 + length text ≡ length text = omega arith in rw (sets-eq text out 0 (omega arith), z) refl

pub returns : goal.returns
returns c =
    let fits = rw c.in_ok-text.was at c.requires.1 in
    rw (c.in_ok-text.was, c.copy_from_slice.ensures.after) (refl, (at_start c.in_ok-text.text.now c.args.out.now fits.0, refl))
