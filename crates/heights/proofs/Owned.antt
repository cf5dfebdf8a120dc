-- What owning an array of f32 by value tells: the format holds each element.
use mathlib.Core.Path.{sym, subst}
use mathlib.Core.Bool.{Bool}
use mathlib.Core.List.{List, [], ◌∷◌, map}
use Prim.Native.Nat.{ℕ, zero, suc}
use lib.Dec.{T}
use lib.ListN.{get_or}
use lib.Ieee.{Float, nan, binary32, fits}
use lib.Ieee.Fits.{nan-fits}
use mir.Val.{Val}
use denote.Array.{each}
use denote.Floats.{FloatOf}
use denote.Shadow.{shadow}

pub each-held : (xs : List Float) (us : List Val) → shadow (each Float (FloatOf binary32).own_val xs us) → (i : ℕ) → T (fits binary32 (get_or xs i nan))
each-held [] us h i = nan-fits binary32
each-held (x ∷ xs) [] h i = absurd h
each-held (x ∷ xs) (u ∷ us) h zero = subst (λ (b : Bool). T b) (sym h.0.1) tt
each-held (x ∷ xs) (u ∷ us) h (suc i) = each-held xs us h.1 i

-- an array field of a struct by value
pub field-held : (xs : List Float) (us : List Val) → shadow (each Float (FloatOf binary32).own_val (map (λ (v : Float). v) xs) us) → (i : ℕ) → T (fits binary32 (get_or xs i nan))
field-held [] us h i = nan-fits binary32
field-held (x ∷ xs) [] h i = absurd h
field-held (x ∷ xs) (u ∷ us) h zero = subst (λ (b : Bool). T b) (sym h.0.1) tt
field-held (x ∷ xs) (u ∷ us) h (suc i) = field-held xs us h.1 i
