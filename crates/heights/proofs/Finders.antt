-- Ways of finding heights that agree: the walk's and the scans' give the heights of `gethp_of`, and its segment.
use mathlib.Core.Path.{◌≡◌, refl, sym, ap}
use lib.Ieee.{Float}
use Rattle.layers.specs.declared.IonoState.{IonoState}
use Rattle.heights.specs.Walk.{EachF32}
use Rattle.heights.specs.Gethp.{Finder, gethp_of, gethp_scan_of}
use Rattle.heights.specs.GethpWalk.{gethp_walk_of}
use Rattle.heights.specs.declared.Heights.{Heights}
use Rattle.heights.proofs.Walks.{gethp-read-so}
use Rattle.heights.proofs.Whole.{scans-same}

-- `find` on u and `other` on v find the same two heights of every frequency, and the same segment; the cursor is not asked about
abbrev pub FindAlike : Finder → IonoState → Finder → IonoState → Type 0
FindAlike find u other v = (f : Float) → ((find u f).hp ≡ (other v f).hp) × ((find u f).ht ≡ (other v f).ht) × ((find u f).segment ≡ (other v f).segment)

abbrev pub Agree : Finder → Finder → IonoState → Type 0
Agree find other s = FindAlike find s other s

-- where the profile's heights are f32 numbers
pub walks-agree : (s : IonoState) → EachF32 s.htr → Agree gethp_walk_of gethp_of s
unfolding gethp_walk_of
walks-agree s held f = let e = gethp-read-so _ s f held refl in (ap (λ (h : Heights). h.hp) e, ap (λ (h : Heights). h.ht) e, ap (λ (h : Heights). h.segment) e)

pub scans-agree : (s : IonoState) → Agree gethp_scan_of gethp_of s
scans-agree s f = let e = scans-same s f in (sym e.0, sym e.1, sym e.2)
