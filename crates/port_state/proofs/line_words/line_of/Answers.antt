-- Field by field.
use mathlib.Core.Path.{◌≡◌, ◌∙◌}
use mathlib.Core.List.{List}
use Prim.Native.Nat.{ℕ, ◌+◌}
use lib.IntN.{ℤ}
use lib.Ieee.{Float}
use Rattle.port_state.specs.Words.{word, number, signed_of}
use Rattle.layers.specs.declared.LayerMuf.{LayerMuf}
use Rattle.port_state.specs.Lines.{line_of_words}
use mir.Syntax.{w32}
use mir.Facts.{to_z-of_z}
use borrow.Author.Rules.{sfits_of}
use Rattle.port_state.proofs.line_words.line_of.Goals as goal

line : (w : List ℕ) (i : ℕ) (sigl sigu delmuf hpmuf htmuf fvmuf afmuf : Float) (nhopmf : ℤ) (yfot ymuf yhpf : Float)
    → sigl ≡ number w i → sigu ≡ number w (i + 1) → delmuf ≡ number w (i + 2) → hpmuf ≡ number w (i + 3) → htmuf ≡ number w (i + 4) → fvmuf ≡ number w (i + 5) → afmuf ≡ number w (i + 6)
    → nhopmf ≡ signed_of (word w (i + 7)) → yfot ≡ number w (i + 8) → ymuf ≡ number w (i + 9) → yhpf ≡ number w (i + 10)
    → ◌≡◌ {A = LayerMuf} (record { sigl = sigl; sigu = sigu; delmuf = delmuf; hpmuf = hpmuf; htmuf = htmuf; fvmuf = fvmuf; afmuf = afmuf; nhopmf = nhopmf; yfot = yfot; ymuf = ymuf; yhpf = yhpf }) (line_of_words w i)
unfolding line_of_words
line w i sigl sigu delmuf hpmuf htmuf fvmuf afmuf nhopmf yfot ymuf yhpf a b c d e f g h j k l = rw (a, b, c, d, e, f, g, h, j, k, l)

pub returns : goal.returns
returns c =
    line _ _ _ _ _ _ _ _ _ _ _ _ _
    c.number.ensures
    c.number-2.ensures
    c.number-3.ensures
    c.number-4.ensures
    c.number-5.ensures
    c.number-6.ensures
    c.number-7.ensures
    (to_z-of_z {w = w32} (sfits_of c.signed.type_inv) ∙ c.signed.ensures)
    c.number-8.ensures
    c.number-9.ensures
    c.number-10.ensures
