-- Numbers as 32-bit words: a float is its bits, an i32 its two's complement, yes and no are 1 and 0.
use Rattle.std.specs.Prelude.{Bool, true, false, not, List, ◌++◌, map, ℕ, ◌+◌, ◌-◌, ◌%◌, ltb, eqb, ℤ, pos, negsuc, get_or, length, take, drop, Float}
use Rattle.std.specs.Float.{binary32}
use Rattle.std.specs.Float.Ieee.{of_bits, to_bits}

-- word i; 0 past the end, where no code reads
abbrev pub word : List ℕ → ℕ → ℕ
word w i = get_or w i 0

-- word i as a float
abbrev pub number : List ℕ → ℕ → Float
number w i = of_bits binary32 (word w i)

-- the n floats from word `from` on
unfoldable pub floats_of : List ℕ → ℕ → ℕ → List Float
floats_of w from n = map (of_bits binary32) (take n (drop from w))

-- the words with the floats of x from word `from` on; a NaN is 7fc00000
unfoldable pub floats_into : List ℕ → ℕ → List Float → List ℕ
floats_into w from x = take from w ++ map (to_bits binary32) x ++ drop (from + length x) w

abbrev pub signed_by : Bool → ℕ → ℤ
signed_by true w = pos w
signed_by false w = negsuc (0xffff_ffff - w)

-- below 2^31 the word itself, else 2^32 less
unfoldable pub signed_of : ℕ → ℤ
signed_of w = signed_by (ltb w 0x8000_0000) w

unfoldable pub word_of : ℤ → ℕ
word_of (pos n) = n
word_of (negsuc n) = 0xffff_ffff - n

-- 0 is no, all else yes
unfoldable pub yes_of : ℕ → Bool
yes_of w = not (eqb w 0)

unfoldable pub flag_of : Bool → ℕ
flag_of true = 1
flag_of false = 0

-- a count; what is over 2^32 is cut
abbrev pub count_word : ℕ → ℕ
count_word n = n % 0x1_0000_0000
