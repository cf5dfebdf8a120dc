-- A decimal as a person writes it, and the f32 nearest to it: a sign or none, digits, a point or none, digits; one digit at least and nine at most, zeros in front counted.
use Rattle.std.specs.Prelude.{ℕ, ◌+◌, ◌-◌, ◌*◌, ◌^◌, Bool, true, ◌&&◌, ◌||◌, cond, List, [], ◌∷◌, eqb, leb, length, get_or, drop, Option, Some, None}
use Rattle.std.specs.Float.{binary32}
use Rattle.std.specs.Float.Ieee.{round, to_bits}
use Rattle.composing.specs.Words.{up_to, after}

-- `0` to `9`
abbrev pub is_digit : ℕ → Bool
is_digit b = leb 48 b && leb b 57

unfoldable pub all_digits : List ℕ → Bool
all_digits [] = true
all_digits (b ∷ t) = is_digit b && all_digits t

-- the whole number that digits go on to, from v
unfoldable pub value_from : ℕ → List ℕ → ℕ
value_from v [] = v
value_from v (b ∷ t) = value_from (10 * v + (b - 48)) t

-- digits before the point and after it, one to nine of them in all
unfoldable pub fine_of : List ℕ → List ℕ → Bool
fine_of whole rest =
    let n = length whole + length rest in
    all_digits whole && (all_digits rest && (leb 1 n && leb n 9))

-- Together they are a whole number, over ten to the number of those after the point: the bits of the f32 nearest to that, a half to the even one; a zero has its sign.
unfoldable pub parts_of : Bool → List ℕ → List ℕ → Option ℕ
parts_of minus whole rest =
    cond (fine_of whole rest)
    (Some (to_bits binary32 (round binary32 minus (value_from (value_from 0 whole) rest) (10 ^ length rest)))) None

-- 46 is the point
unfoldable pub unsigned_of : Bool → List ℕ → Option ℕ
unsigned_of minus u = parts_of minus (up_to 46 u) (after 46 u)

-- 45 is minus, 43 plus
abbrev pub starts_with_minus : List ℕ → Bool
starts_with_minus w = eqb (get_or w 0 0) 45

abbrev pub sign_length : List ℕ → ℕ
sign_length w = cond (starts_with_minus w || eqb (get_or w 0 0) 43) 1 0

unfoldable pub decimal_read : List ℕ → Option ℕ
decimal_read w = unsigned_of (starts_with_minus w) (drop (sign_length w) w)
