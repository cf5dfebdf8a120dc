-- The MUFs for the eye, in MHz: a line for each layer, then the circuit's, with the layer that sets it and the controlling slot.
use Rattle.std.specs.Prelude.{cond, List, [], ◌∷◌, ◌++◌, ℕ, ℤ, pos, Float}
use Rattle.std.specs.Int.Signed.{lt_z}
use Rattle.lines.specs.Text.{line_feed, decimal_of}
use Rattle.lines.specs.Ascii.{ascii}
use Rattle.figures.specs.Number.{number_text}
use Rattle.muf.specs.declared.MufHour.{MufHour}

-- a name of thirteen characters and a MUF, to the nearest tenth of a MHz
unfoldable pub muf_table_line : List ℕ → Float → List ℕ
muf_table_line name x = name ++ (number_text 10 1 x ++ (line_feed ∷ []))

-- the mode is 1 to 3
unfoldable pub layer_of : ℤ → List ℕ
layer_of mode = cond (lt_z mode (pos 2)) (ascii "E") (cond (lt_z mode (pos 3)) (ascii "F1") (ascii "F2"))

unfoldable pub circuit_line : MufHour → List ℕ
circuit_line h =
    ascii "circuit      "
    ++ (number_text 10 1 h.allmuf
    ++ (ascii "   by the "
    ++ (layer_of h.modmuf
    ++ (ascii " layer, controlling slot "
    ++ (decimal_of h.ks
    ++ (line_feed ∷ []))))))

unfoldable pub mufs_text : MufHour → List ℕ
mufs_text h =
    ascii "MUF                 MHz\n"
    ++ (muf_table_line (ascii "E            ") h.emuf
    ++ (muf_table_line (ascii "F1           ") h.f1muf
    ++ (muf_table_line (ascii "F2           ") h.f2muf
    ++ (muf_table_line (ascii "sporadic E   ") h.esmuf
    ++ circuit_line h))))
