-- The words that begin a line, and the names of fields with the places of their numbers.
use Rattle.std.specs.Prelude.{ℕ, Bool, true, false, cond, List, [], ◌∷◌, ltb, Option, Some, None}
use Rattle.first_difference.specs.Difference.{same_bytes}
use Rattle.composing.specs.declared.compose_line.names.LineKind.{LineKind}

-- `path`, `point`, `deciles`; no kind for any other word
unfoldable pub line_kind_of : List ℕ → Option LineKind
line_kind_of w =
    cond (same_bytes w (112 ∷ 97 ∷ 116 ∷ 104 ∷ [])) (Some LineKind.Path)
    (cond (same_bytes w (112 ∷ 111 ∷ 105 ∷ 110 ∷ 116 ∷ [])) (Some LineKind.Point)
    (cond (same_bytes w (100 ∷ 101 ∷ 99 ∷ 105 ∷ 108 ∷ 101 ∷ 115 ∷ [])) (Some LineKind.Deciles) None))

-- `shape`, `gcd`, `gcdkm`, `amind`, `ssn`, one number each; no place for any other word
unfoldable pub path_place : List ℕ → Option ℕ
path_place w =
    cond (same_bytes w (115 ∷ 104 ∷ 97 ∷ 112 ∷ 101 ∷ [])) (Some 0)
    (cond (same_bytes w (103 ∷ 99 ∷ 100 ∷ [])) (Some 1)
    (cond (same_bytes w (103 ∷ 99 ∷ 100 ∷ 107 ∷ 109 ∷ [])) (Some 2)
    (cond (same_bytes w (97 ∷ 109 ∷ 105 ∷ 110 ∷ 100 ∷ [])) (Some 3)
    (cond (same_bytes w (115 ∷ 115 ∷ 110 ∷ [])) (Some 4) None))))

-- `fi`, `yi`, `hi`, `fs`, three numbers each, `hs`, `clat`, `clck`: the places of the file's record; none for any other word
unfoldable pub point_place : List ℕ → Option ℕ
point_place w =
    cond (same_bytes w (102 ∷ 105 ∷ [])) (Some 0)
    (cond (same_bytes w (121 ∷ 105 ∷ [])) (Some 3)
    (cond (same_bytes w (104 ∷ 105 ∷ [])) (Some 6)
    (cond (same_bytes w (102 ∷ 115 ∷ [])) (Some 9)
    (cond (same_bytes w (104 ∷ 115 ∷ [])) (Some 12)
    (cond (same_bytes w (99 ∷ 108 ∷ 97 ∷ 116 ∷ [])) (Some 13)
    (cond (same_bytes w (99 ∷ 108 ∷ 99 ∷ 107 ∷ [])) (Some 14) None))))))

-- a line of deciles has no fields
unfoldable pub field_place_of : LineKind → List ℕ → Option ℕ
field_place_of LineKind.Path w = path_place w
field_place_of LineKind.Point w = point_place w
field_place_of LineKind.Deciles w = None

-- how many numbers the field at a place has
unfoldable pub width_of : LineKind → ℕ → ℕ
width_of LineKind.Path place = 1
width_of LineKind.Point place = cond (ltb place 12) 3 1
width_of LineKind.Deciles place = 1

-- a true for each number that a line of the kind has
unfoldable pub wanted_of : LineKind → List Bool
wanted_of LineKind.Path =
    true ∷ true ∷ true ∷ true ∷ true ∷ false ∷ false ∷ false ∷ false ∷ false ∷ false ∷ false ∷ false ∷ false ∷ false ∷ []
wanted_of LineKind.Point =
    true ∷ true ∷ true ∷ true ∷ true ∷ true ∷ true ∷ true ∷ true ∷ true ∷ true ∷ true ∷ true ∷ true ∷ true ∷ []
wanted_of LineKind.Deciles =
    true ∷ true ∷ true ∷ true ∷ true ∷ true ∷ true ∷ true ∷ true ∷ true ∷ true ∷ true ∷ false ∷ false ∷ false ∷ []

-- the twelve numbers of a line of deciles follow its first word
unfoldable pub at_once : LineKind → ℕ
at_once LineKind.Path = 0
at_once LineKind.Point = 0
at_once LineKind.Deciles = 12
