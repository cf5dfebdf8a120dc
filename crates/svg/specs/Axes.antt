-- The frame of a panel with its axes, as SVG. Units are tenths of a pixel, and the frame is that of Points, beside this file.
use Rattle.std.specs.Prelude.{List, ◌++◌, ℕ, ◌+◌, ◌-◌, ◌*◌}
use Rattle.lines.specs.Text.{decimal_of, joined}
use Rattle.lines.specs.Ascii.{ascii}

-- a line across the frame at a frequency in MHz, and one at a height in km
unfoldable pub across_text : ℕ → List ℕ
across_text mhz =
    let x = 700 + 190 * mhz in
    ascii "<path class='grid' d='M" ++ (decimal_of x ++ (ascii " 500V3500'/><text class='m' x='" ++ (decimal_of x ++ (ascii "' y='3660'>" ++ (decimal_of mhz ++ ascii "</text>\n")))))

unfoldable pub up_text : ℕ → List ℕ
up_text km =
    let y = 3500 - 5 * km in
    ascii "<path class='grid' d='M700 " ++ (decimal_of y ++ (ascii "h5700'/><text class='e' x='650' y='" ++ (decimal_of y ++ (ascii "' dy='45'>" ++ (decimal_of km ++ ascii "</text>\n")))))

-- 0 to 30 MHz in steps of 5, and 0 to 600 km in steps of 100
abbrev pub across_at : ℕ → List ℕ
across_at i = across_text (5 * i)

abbrev pub up_at : ℕ → List ℕ
up_at i = up_text (100 * i)

unfoldable pub axes_text : List ℕ
axes_text =
    ascii "<g id='axes'>\n<path class='frame' d='M700 500h5700V3500h-5700z'/>\n"
    ++ (joined across_at 7
    ++ (joined up_at 7
    ++ (ascii "<text class='m' x='3550' y='3840'>frequency (MHz)</text>\n"
    ++ ascii "<text class='m' transform='translate(230 2000) rotate(-90)'>height (km)</text>\n</g>\n")))
