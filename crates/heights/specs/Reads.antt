-- What is claimed of the forty reads of `gethp` on a profile whose heights pass the rising test, and where they do not take place.
use Rattle.std.specs.Prelude.{ℕ, suc, ◌<◌, ◌≤◌, ◌≡◌, Bool, true, false, not, ◌&&◌, T, Float}
use Rattle.std.specs.Float.Ieee.Scale.{finite}
use Rattle.scalar.specs.F32.{◌+f◌, ◌-f◌, ◌*f◌, ◌≤f◌, ◌>f◌, at}
use Rattle.scalar.specs.Literals.{f0}
use Rattle.order.specs.Units.{real}
use Rattle.layers.specs.State.{with_exact}
use Rattle.layers.specs.declared.IonoState.{IonoState}
use Rattle.readings.specs.Scan.{segment_number, profile_interpolate_of, profile_segment_of, reading_of}
use Rattle.readings.specs.Cursor.{count_of}
use Rattle.heights.specs.Walk.{moves_of}
use Rattle.heights.specs.Exact.{virtual_height_exact_of}
use Rattle.heights.specs.Nodes.{height_at}
use Rattle.heights.specs.ReadsByWalk.{read_at, cursor_after}
use Rattle.heights.specs.Gethp.{gethp_of}

-- the reflecting height less the lowest one
abbrev pub difference_of : IonoState → Float → Float
difference_of s fxx = profile_interpolate_of s.fnsq s.htr (fxx *f fxx) -f at s.htr 0

-- whether the frequency is above what the lowest height reflects
abbrev pub reflects : IonoState → Float → Bool
reflects s fxx = not (fxx *f fxx -f at s.fnsq 0 ≤f f0)

-- the exact rule is used: the switch is on and the difference is above zero
abbrev pub ruled : IonoState → Float → Bool
ruled s fxx = s.exact_virtual_height && (difference_of s fxx >f f0)

-- the forty reads take place
abbrev pub walks : IonoState → Float → Bool
walks s fxx = reflects s fxx && not (ruled s fxx)

-- the height of read k
abbrev pub read_height : IonoState → Float → ℕ → Float
read_height s fxx k = height_at (at s.htr 0) (difference_of s fxx) k

pub record FortyReads (s : IonoState) (fxx : Float) : Type 0 where
  -- each reading of the walk, kind, number and segment, is the scan's
  pub scanned : (k : ℕ) → k < 40 → (read_at s.htr s.fnsq (difference_of s fxx) k).reading ≡ reading_of s.htr s.fnsq (read_height s fxx k)
  -- its segment is the count of its height, floor 0 and top 49 included
  pub segments : (k : ℕ) → k < 40 → segment_number (read_at s.htr s.fnsq (difference_of s fxx) k).reading ≡ count_of s.htr (read_height s fxx k)
  -- the cursor is 0 before the first read, and after each one the count of its height
  pub starts : cursor_after s.htr s.fnsq (difference_of s fxx) 0 ≡ 0
  pub counts : (k : ℕ) → k < 40 → cursor_after s.htr s.fnsq (difference_of s fxx) (suc k) ≡ count_of s.htr (read_height s fxx k)
  -- the last one's is handed up, where the reads take place
  pub handed : walks s fxx ≡ true → (gethp_of s fxx).cursor ≡ cursor_after s.htr s.fnsq (difference_of s fxx) 40
  -- and 0 where they do not, as where the exact rule is used
  pub unwalked : walks s fxx ≡ false → (gethp_of s fxx).cursor ≡ 0
  -- its moves over the forty reads sum to the place where it stands after the last, so none is back, and they are 49 places at most
  pub moved : (moves_of s.htr s.fnsq (read_height s fxx) 40 ≡ cursor_after s.htr s.fnsq (difference_of s fxx) 40) × (moves_of s.htr s.fnsq (read_height s fxx) 40 ≤ 49)
  -- no read is below the one before it, where the lowest height is finite and the difference is not a NaN
  pub rising : T (real (difference_of s fxx)) → T (finite (at s.htr 0)) → (k : ℕ) → suc k < 40 → T (read_height s fxx k ≤f read_height s fxx (suc k))

-- the exact rule, on any profile: where it is used `gethp` reads no density, and where the switch is off or the difference is not above zero the switch does not matter
pub record ExactRule (s : IonoState) (fxx : Float) : Type 0 where
  pub used : reflects s fxx ≡ true → ruled s fxx ≡ true → gethp_of s fxx ≡ record { hp = at s.htr 0 +f virtual_height_exact_of s.htr s.fnsq (fxx *f fxx) (difference_of s fxx); ht = at s.htr 0 +f difference_of s fxx; cursor = 0; segment = profile_segment_of s.fnsq s.htr (fxx *f fxx) }
  pub unused : ruled s fxx ≡ false → gethp_of s fxx ≡ gethp_of (with_exact s false) fxx
