-- `gethp` over the forty reads as the code makes them, where it does: one walk where the heights rise, else forty scans. That `gethp` so read is `gethp_of` is a theorem.
use Rattle.std.specs.Prelude.{Bool, List, Float}
use Rattle.scalar.specs.F32.{◌-f◌, ◌*f◌, ◌≤f◌, at}
use Rattle.scalar.specs.Literals.{f0}
use Rattle.profile.specs.Rising.{rises_of}
use Rattle.heights.specs.ReadsByWalk.{ysq_read_by, cursor_read_by}
use Rattle.heights.specs.Gethp.{gethp_by, Finder}
use Rattle.heights.specs.declared.Heights.{Heights}

unfoldable pub gethp_read_of : Bool → Bool → List Float → List Float → Float → Heights
gethp_read_of exact rises htr fnsq fxx =
    let fr = fxx *f fxx in
    gethp_by (fr -f at fnsq 0 ≤f f0) exact htr fnsq fr (λ ht. ysq_read_by rises htr fnsq ht fr) (λ ht. cursor_read_by rises htr fnsq ht)

-- the code's way of finding heights: the exact rule where it is used; else one walk where the heights pass the rising test, and forty scans where they do not
unfoldable pub gethp_walk_of : Finder
gethp_walk_of s fxx = gethp_read_of s.exact_virtual_height (rises_of s.htr) s.htr s.fnsq fxx
