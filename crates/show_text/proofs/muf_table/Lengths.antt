-- The table has at most 201 bytes.
use mathlib.Core.Bool.{Bool, true, false, cond}
use mathlib.Core.List.{List}
use Prim.Native.Nat.{ℕ, ◌+◌}
use native.Mathlib.Omega.{arith}
use lib.IntN.{ℤ, pos}
use lib.Signed.{lt_z}
use lib.ListN.{length}
use lib.Ieee.{Float}
use Rattle.lines.proofs.Sizes.{AtMost, ◌then◌, word, line-feed, decimal}
use Rattle.lines.specs.Ascii.{ascii}
use Rattle.figures.proofs.decimal_text.Widths.{number-most}
use Rattle.muf.specs.declared.MufHour.{MufHour}
use Rattle.show_text.specs.MufTable.{muf_table_line, layer_of, circuit_line, mufs_text}

muf : (name : List ℕ) (x : Float) → AtMost (muf_table_line name x) (length name + 11)
unfolding muf_table_line
muf name x = word name then number-most 10 1 x then line-feed

layer : (mode : ℤ) → AtMost (layer_of mode) 2
unfolding layer_of
layer mode = by (lt_z mode (pos 2)) (lt_z mode (pos 3))
  where
    by : (a b : Bool) → AtMost (cond a (ascii "E") (cond b (ascii "F1") (ascii "F2"))) 2
    by true b = record { most = omega arith }
    by false true = record { most = omega arith }
    by false false = record { most = omega arith }

circuit : (h : MufHour) → AtMost (circuit_line h) 81
unfolding circuit_line
circuit h =
    let t = word (ascii "circuit      ") then number-most 10 1 h.allmuf then word (ascii "   by the ") then layer h.modmuf then word (ascii " layer, controlling slot ") then decimal h.ks then line-feed in
    record { most = omega (arith, t.most) }

pub mufs-most : (h : MufHour) → AtMost (mufs_text h) 201
unfolding mufs_text
mufs-most h =
    let t = word (ascii "MUF                 MHz\n") then muf (ascii "E            ") h.emuf then muf (ascii "F1           ") h.f1muf then muf (ascii "F2           ") h.f2muf then muf (ascii "sporadic E   ") h.esmuf then circuit h in
    record { most = omega (arith, t.most) }
