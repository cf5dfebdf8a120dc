-- A text in a field of a given width: at the right of it, with spaces before; where it is wider, stars in its place. So the columns of a table stand under one another, whatever the text is.
use Rattle.std.specs.Prelude.{ℕ, ◌-◌, ◌≡◌, cond, List, [], ◌∷◌, ◌++◌, leb, length}
use Rattle.lines.specs.Text.{space, joined}

-- `*` in ASCII
abbrev pub star : ℕ
star = 42

unfoldable pub repeated : ℕ → ℕ → List ℕ
repeated byte n = joined (λ i. byte ∷ []) n

unfoldable pub right : ℕ → List ℕ → List ℕ
right width text = cond (leb (length text) width) (repeated space (width - length text) ++ text) (repeated star width)

-- what `right-width` says: every field has its width
abbrev pub RightWidth : Type 0
RightWidth = (width : ℕ) (text : List ℕ) → length (right width text) ≡ width
