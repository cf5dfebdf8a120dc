-- The axes have at most 2,118 bytes; a number is given twenty digits, whatever it is.
use Prim.Native.Nat.{ℕ, ◌+◌, ◌-◌, ◌*◌}
use Rattle.lines.proofs.Sizes.{AtMost, ◌then◌, word, decimal, times}
use Rattle.lines.specs.Ascii.{ascii}
use Rattle.svg.specs.Axes.{across_text, up_text, across_at, up_at, axes_text}

across : (mhz : ℕ) → AtMost (across_text mhz) 133
unfolding across_text
across mhz =
    let x = decimal (700 + 190 * mhz) in
    word (ascii "<path class='grid' d='M") then x then word (ascii " 500V3500'/><text class='m' x='") then x then word (ascii "' y='3660'>") then decimal mhz then word (ascii "</text>\n")

up : (km : ℕ) → AtMost (up_text km) 140
unfolding up_text
up km =
    let y = decimal (3500 - 5 * km) in
    word (ascii "<path class='grid' d='M700 ") then y then word (ascii "h5700'/><text class='e' x='650' y='") then y then word (ascii "' dy='45'>") then decimal km then word (ascii "</text>\n")

pub axes : AtMost axes_text 2118
unfolding axes_text
axes =
    word (ascii "<g id='axes'>\n<path class='frame' d='M700 500h5700V3500h-5700z'/>\n")
    then times across_at 133 7 (λ i l. across (5 * i))
    then times up_at 140 7 (λ i l. up (100 * i))
    then word (ascii "<text class='m' x='3550' y='3840'>frequency (MHz)</text>\n")
    then word (ascii "<text class='m' transform='translate(230 2000) rotate(-90)'>height (km)</text>\n</g>\n")
