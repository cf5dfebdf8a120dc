-- `gethp_read` is told whether to walk, and promises the walk's numbers for whatever fifty heights are lent, rising or not: each of the forty reads goes on from the cursor that the one before left (`walk_read`). Where the heights rise these are the numbers of forty scans, with the cursor counted by the paper's rule, so there no promise about numbers can tell which way they were found. Where they do not rise they are not: code that scans, or that counts the cursor, does not meet the promise.
use Rattle.std.specs.Prelude.{true, false, List, ◌≡◌, length, Float}
use Rattle.scalar.specs.F32.{◌-f◌, ◌*f◌, ◌≤f◌, at}
use Rattle.scalar.specs.Literals.{f0}
use Rattle.readings.specs.Cursor.{count_of}
use Rattle.heights.specs.Walk.{EachF32}
use Rattle.heights.specs.Nodes.{height_at}
use Rattle.heights.specs.Densities.{ysq_of}
use Rattle.heights.specs.Gethp.{gethp_by}
use Rattle.heights.specs.GethpWalk.{gethp_read_of}
use Rattle.heights.specs.declared.Heights.{Heights}

-- what is promised, told to walk
unfoldable pub promised : List Float → List Float → Float → Heights
promised htr fnsq fxx = gethp_read_of false true htr fnsq fxx

-- fifty f32 numbers, as code lends them
abbrev pub Lent : List Float → Type 0
Lent l = (length l ≡ 50) × EachF32 l

-- forty scans, and for the cursor the count of the last read's height
unfoldable pub scanned_and_counted : List Float → List Float → Float → Heights
scanned_and_counted htr fnsq fxx =
    let fr = fxx *f fxx in
    gethp_by (fr -f at fnsq 0 ≤f f0) false htr fnsq fr (λ ht. ysq_of htr fnsq ht fr) (λ ht. count_of htr (height_at (at htr 0) ht 39))

-- a number of the heights that is the promised one, on everything that can be lent
abbrev pub Meets : {A : Type 0} → (Heights → A) → (List Float → List Float → Float → Heights) → Type 0
Meets part found = (htr fnsq : List Float) (fxx : Float) → Lent htr → Lent fnsq → part (promised htr fnsq fxx) ≡ part (found htr fnsq fxx)

pub record WalkApart : Type 0 where
  -- scans do not find the promised virtual heights
  pub not-scanned : Meets (λ (h : Heights). h.hp) scanned_and_counted → ⊥
  -- and the rule does not count the promised cursors
  pub not-counted : Meets (λ (h : Heights). h.cursor) scanned_and_counted → ⊥
