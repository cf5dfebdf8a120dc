-- A trace is up to 512 rows of kHz and height in tenths of a kilometre, as two lists, the kHz strictly rising. None is a trace too.
use Rattle.std.specs.Prelude.{ℕ, ◌≡◌, Bool, true, ◌&&◌, cond, List, [], ◌∷◌, eqb, ltb, leb, length}
use Rattle.std.proofs.Math.Option.{Option, none, some}

-- each number is below the next
unfoldable pub rises : List ℕ → Bool
rises [] = true
rises (x ∷ []) = true
rises (x ∷ (y ∷ l)) = ltb x y && rises (y ∷ l)

abbrev pub fit : List ℕ → List ℕ → Bool
fit khz height = eqb (length khz) (length height) && (leb (length khz) 512 && rises khz)

-- the height of the row at a kHz, if there is one
unfoldable pub height_at_khz : List ℕ → List ℕ → ℕ → Option ℕ
height_at_khz [] hs f = none
height_at_khz (x ∷ xs) [] f = none
height_at_khz (x ∷ xs) (h ∷ hs) f = cond (eqb x f) (some h) (height_at_khz xs hs f)

-- a list of kHz that rises and has a height for each
pub record TraceRows (xs hs : List ℕ) : Type 0 where
  pub rising : rises xs ≡ true
  pub heights : length xs ≡ length hs
