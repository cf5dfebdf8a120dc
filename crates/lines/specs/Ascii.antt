-- A word of plain letters as its bytes.
use Rattle.std.specs.Prelude.{List, [] as none, ◌∷◌ as ◌and◌, ℕ}
use Prim.Native.Char.{code}
use Prim.Native.String.{String, [], ◌∷◌}

abbrev pub ascii : String → List ℕ
ascii [] = none
ascii (c ∷ s) = code c and ascii s
